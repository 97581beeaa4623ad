use Rattle.std.proofs.Common.{◌≡◌, take, map}
use Rattle.estelle_model.specs.Types.{shape_of}
use Rattle.type_shapes.proofs.shape.+shape.Given as goal

abbrev pub invariant-shapes_of-loop-denoter : goal.invariant-shapes_of-loop-denoter
invariant-shapes_of-loop-denoter l = l.shapes ≡ map shape_of (take l.denoter-index l.denoters)
