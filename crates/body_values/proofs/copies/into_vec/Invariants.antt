use Rattle.std.proofs.Common.{◌≡◌, ◌++◌, reverse, length}
use Rattle.body_values.proofs.copies.into_vec.Given as goal

abbrev pub invariant-loop-item : goal.invariant-loop-item
invariant-loop-item g l = l.initial.left ≡ l.left ++ reverse l.moved.items

abbrev pub decreases-loop-item : goal.decreases-loop-item
decreases-loop-item g l = length l.left
