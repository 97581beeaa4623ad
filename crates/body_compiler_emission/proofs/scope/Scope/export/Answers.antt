use Rattle.std.proofs.Common.{◌∙◌, ap}
use Rattle.body_compiler_emission.specs.Scopes.{Scoped, scope_of}
use Rattle.body_compiler_emission.proofs.scope.Scope.export.Goals as goal

pub returns : goal.returns
unfolding scope_of
returns c = c.export.ensures ∙ ap (λ (t : Scoped). (scope_of t).export c.args.modvar c.args.variable) c.self.view_is
