use Rattle.std.proofs.Common.{◌≡◌, ◌^◌, ◌-◌, min}
use Rattle.flat_transitions.proofs.counting.power.Given as goal

abbrev pub invariant-loop-name : goal.invariant-loop-name
invariant-loop-name l = l.count ≡ min (2 ^ 32 - 1) (l.size ^ l._name-index)
