use Rattle.std.proofs.Common.{◌≡◌, take, map}
use Rattle.pascal_values.specs.Shapes.{blank_of}
use Rattle.pascal_values.proofs.whole.+blank.Given as goal

abbrev pub invariant-blank_all-loop-shape : goal.invariant-blank_all-loop-shape
invariant-blank_all-loop-shape l = l.values ≡ map blank_of (take l.shape-index l.shapes)
