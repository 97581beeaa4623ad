use Rattle.std.proofs.Common.{◌≡◌, drop}
use Rattle.transition_select.specs.Countings as spec
use Rattle.transition_select.proofs.countings.highest.Given as goal

abbrev pub invariant-loop-other : goal.invariant-loop-other
invariant-loop-other l = spec.higher l.highest (drop l.other-index l.counted) ≡ spec.highest l.counted
