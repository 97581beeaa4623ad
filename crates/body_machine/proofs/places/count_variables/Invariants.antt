use Rattle.std.proofs.Common.{◌≡◌, ◌≤◌, take}
use Rattle.body_machine.specs.Slots.{variables_in}
use Rattle.body_machine.proofs.places.count_variables.Given as goal

abbrev pub invariant-loop-local : goal.invariant-loop-local
invariant-loop-local l = (l.count ≡ variables_in (take l.local-index l.locals)) × (l.count ≤ l.local-index)
