use Rattle.std.proofs.Common.{◌≡◌, take}
use Rattle.body_unit_kinds.proofs.shapes.+same.Given as goal

abbrev pub invariant-same_shapes-loop-i : goal.invariant-same_shapes-loop-i
invariant-same_shapes-loop-i l = take l.i l.a ≡ take l.i l.b
