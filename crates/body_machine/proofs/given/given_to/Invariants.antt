use Rattle.std.proofs.Common.{◌≡◌, take, drop}
use Rattle.body_machine.specs.Steps.{given_to, nothing_given}
use Rattle.body_machine.proofs.given.given_to.Given as goal

abbrev pub decreases-loop-left : goal.decreases-loop-left
decreases-loop-left l = l.left

abbrev pub invariant-loop-left : goal.invariant-loop-left
invariant-loop-left l = (given_to l.initial.locals (take l.initial.count l.initial.stack) nothing_given ≡ given_to l.locals (take l.left l.stack) (record { values = l.values; references = l.references }))
    × (drop l.initial.count l.initial.stack ≡ drop l.left l.stack)
