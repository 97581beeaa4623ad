use Rattle.std.proofs.Common.{◌≡◌, ◌++◌, take, map}
use Rattle.pascal_values.specs.Shapes.{blank_of}
use Rattle.estelle_model.specs.Types.{shape_of}
use Rattle.body_values.proofs.frames.add_blanks.Given as goal

abbrev pub invariant-loop-each : goal.invariant-loop-each
invariant-loop-each l = l.values ≡ l.initial.values ++ map blank_of (map shape_of (take l.each-index l.types))
