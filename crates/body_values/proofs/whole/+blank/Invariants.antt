use Rattle.std.proofs.Common.{◌≡◌, take, map}
use Rattle.pascal_values.specs.Shapes.{blank_of}
use Rattle.estelle_model.specs.Types.{shape_of}
use Rattle.body_values.proofs.whole.+blank.Given as goal

abbrev pub invariant-blank_all-loop-denoter : goal.invariant-blank_all-loop-denoter
invariant-blank_all-loop-denoter l = l.values ≡ map blank_of (map shape_of (take l.denoter-index l.denoters))
