use Rattle.std.proofs.Common.{◌≡◌, false, take}
use Rattle.body_kinds.specs.Kinded.{has_references}
use Rattle.body_unit_kinds.proofs.arguments.are_values.Given as goal

abbrev pub invariant-loop-local : goal.invariant-loop-local
invariant-loop-local l = has_references (take l.local-index l.locals) ≡ false
