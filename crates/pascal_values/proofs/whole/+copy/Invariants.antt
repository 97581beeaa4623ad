use Rattle.std.proofs.Common.{◌≡◌, take}
use Rattle.pascal_values.proofs.whole.+copy.Given as goal

abbrev pub invariant-copy_all-loop-part : goal.invariant-copy_all-loop-part
invariant-copy_all-loop-part l = l.values ≡ take l.part-index l.parts
