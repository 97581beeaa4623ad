-- The shape of a type, one layer of the type at a time.
use Rattle.std.proofs.Common.{◌≡◌}
use Rattle.pascal_values.specs.declared.value.Shape.{Shape}
use Rattle.estelle_model.specs.declared.denoter.Denoter.{Denoter, out-Denoter, map-Denoter, fold_out-Denoter}
use Rattle.estelle_model.specs.Types.{shape_of, shape_step}

pub shape_is : (t : Denoter) → shape_of t ≡ shape_step (map-Denoter Denoter Shape shape_of (out-Denoter t))
unfolding shape_of
shape_is t = fold_out-Denoter Shape shape_step t
