use Rattle.std.proofs.Common.{◌≡◌, ◌++◌, take, map}
use Rattle.estelle_model.specs.Types.{shape_of}
use Rattle.body_compiler_pieces.specs.UnitCode.{variable}
use Rattle.body_compiler_emission.proofs.shapes.push_variables.Given as goal

abbrev pub invariant-loop-type_ : goal.invariant-loop-type_
invariant-loop-type_ l = l.locals ≡ l.initial.locals ++ map variable (map shape_of (take l.type_-index l.types))
