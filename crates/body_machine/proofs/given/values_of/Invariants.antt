use Rattle.std.proofs.Common.{◌≡◌, length}
use Rattle.body_machine.specs.Steps.{values_of, values_with}
use Rattle.body_machine.proofs.given.values_of.Given as goal

abbrev pub decreases-loop-item : goal.decreases-loop-item
decreases-loop-item l = length l.items

abbrev pub invariant-loop-item : goal.invariant-loop-item
invariant-loop-item l = values_of l.initial.items ≡ values_with l.values l.items
