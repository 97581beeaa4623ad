use Rattle.std.proofs.Common.{◌≡◌, take, map}
use Rattle.estelle_model.specs.Types.{shape_of}
use Rattle.body_kinds_checker.proofs.variables.shapes_of.Given as goal

abbrev pub invariant-loop-denoter : goal.invariant-loop-denoter
invariant-loop-denoter l = l.shapes ≡ map shape_of (take l.denoter-index l.denoters)
