use Rattle.std.proofs.Common.{◌≡◌, ◌++◌, drop}
use Rattle.body_compiler_emission.specs.Scopes.{value_locals}
use Rattle.body_compiler_emission.proofs.scope.value_locals.Given as goal

abbrev pub invariant-loop-passing : goal.invariant-loop-passing
invariant-loop-passing l = l.locals ++ value_locals l.local (drop l.passing-index l.parameters) ≡ value_locals 0 l.parameters
