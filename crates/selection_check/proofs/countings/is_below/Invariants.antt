use Rattle.std.proofs.Common.{◌≡◌, drop}
use Rattle.selection_check.specs.Countings as spec
use Rattle.selection_check.proofs.countings.is_below.Given as goal

abbrev pub invariant-loop-other : goal.invariant-loop-other
invariant-loop-other l = spec.is_below l.priority (drop l.other-index l.transitions) ≡ spec.is_below l.priority l.transitions
