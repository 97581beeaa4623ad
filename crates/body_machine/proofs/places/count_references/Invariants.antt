use Rattle.std.proofs.Common.{◌≡◌, ◌≤◌, take}
use Rattle.body_machine.specs.Slots.{references_in}
use Rattle.body_machine.proofs.places.count_references.Given as goal

abbrev pub invariant-loop-local : goal.invariant-loop-local
invariant-loop-local l = (l.count ≡ references_in (take l.local-index l.locals)) × (l.count ≤ l.local-index)
