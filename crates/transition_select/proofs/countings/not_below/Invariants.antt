use Rattle.std.proofs.Common.{◌≡◌, ◌++◌, drop}
use Rattle.transition_select.specs.Countings as spec
use Rattle.transition_select.proofs.countings.not_below.Given as goal

abbrev pub invariant-loop-one : goal.invariant-loop-one
invariant-loop-one l = l.numbers.items ++ spec.not_below l.most (drop l.one-index l.counted) ≡ spec.not_below l.most l.counted
