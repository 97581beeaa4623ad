use Rattle.std.proofs.Common.{◌∙◌, sym, ap}
use Rattle.estelle_model.specs.Types.{shape_of}
use Rattle.body_compiler_emission.specs.Scopes.{Scoped, scope_of}
use Rattle.body_compiler_emission.proofs.scope.Scope.shape.Goals as goal

pub returns-in-Some : goal.returns-in-Some
unfolding scope_of
returns-in-Some c = sym (ap (λ (t : Scoped). (scope_of t).number (shape_of c.args.denoter.now)) c.self.view_is) ∙ sym c.in_ok-shape.ensures ∙ c.in-Some.is
