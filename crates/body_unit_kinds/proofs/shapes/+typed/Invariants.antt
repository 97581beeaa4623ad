use Rattle.std.proofs.Common.{◌≡◌, take, map}
use Rattle.estelle_model.specs.Types.{shape_of}
use Rattle.body_unit_kinds.proofs.shapes.+typed.Given as goal

abbrev pub invariant-are_shapes_of-loop-i : goal.invariant-are_shapes_of-loop-i
invariant-are_shapes_of-loop-i l = take l.i l.shapes ≡ map shape_of (take l.i l.denoters)
