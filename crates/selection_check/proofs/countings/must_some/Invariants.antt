use Rattle.std.proofs.Common.{◌≡◌, drop}
use Rattle.selection_check.specs.Countings as spec
use Rattle.selection_check.proofs.countings.must_some.Given as goal

abbrev pub invariant-loop-one : goal.invariant-loop-one
invariant-loop-one l = spec.must_some (drop l.one-index l.transitions) ≡ spec.must_some l.transitions
