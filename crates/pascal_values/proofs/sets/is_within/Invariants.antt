use Rattle.std.proofs.Common.{◌≡◌, take, true}
use Rattle.pascal_values.specs.Sets.{is_subset}
use Rattle.pascal_values.proofs.sets.is_within.Given as goal

abbrev pub invariant-loop-n : goal.invariant-loop-n
invariant-loop-n l = is_subset (take l.n-index l.n-items) l.b ≡ true
