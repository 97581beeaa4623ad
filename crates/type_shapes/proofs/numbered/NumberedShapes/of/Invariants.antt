use Rattle.std.proofs.Common.{◌≤◌, length, drop}
use Rattle.type_shapes.specs.Numbered.{AreFirst}
use Rattle.type_shapes.proofs.numbered.NumberedShapes.of.Given as goal

abbrev pub invariant-loop-i : goal.invariant-loop-i
invariant-loop-i l = (l.i ≤ length l.shapes) × AreFirst l.i (drop l.i l.shapes) l.numbers

abbrev pub decreases-loop-i : goal.decreases-loop-i
decreases-loop-i l = l.i
