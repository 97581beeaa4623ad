use Rattle.std.proofs.Common.{◌≡◌, ◌++◌, drop}
use Rattle.body_compiler_emission.specs.Scopes.{place_locals}
use Rattle.body_compiler_emission.proofs.scope.place_locals.Given as goal

abbrev pub invariant-loop-passing : goal.invariant-loop-passing
invariant-loop-passing l = l.locals ++ place_locals l.local (drop l.passing-index l.parameters) ≡ place_locals 0 l.parameters
