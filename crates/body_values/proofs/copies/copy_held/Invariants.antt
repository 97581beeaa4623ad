use Rattle.std.proofs.Common.{◌≡◌, take}
use Rattle.body_values.proofs.copies.copy_held.Given as goal

abbrev pub invariant-loop-child : goal.invariant-loop-child
invariant-loop-child l = l.copies ≡ take l.child-index l.held
