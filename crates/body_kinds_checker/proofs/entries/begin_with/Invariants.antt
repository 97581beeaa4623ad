use Rattle.std.proofs.Common.{◌≡◌, map, take}
use Rattle.estelle_model.specs.Types.{shape_of}
use Rattle.body_kinds_checker.proofs.entries.begin_with.Given as goal

abbrev pub invariant-loop-i : goal.invariant-loop-i
invariant-loop-i l = map (λ x. x.shape) (take l.i l.locals) ≡ map shape_of (take l.i l.types)
