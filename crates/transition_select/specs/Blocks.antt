-- The instances at and below an instance.
use Rattle.std.specs.Prelude.{List, filter}
use Rattle.estelle_tree.specs.Paths.{Path, is_inside}
use Rattle.estelle_model.specs.Situation.{Situation}
use Rattle.estelle_model.specs.Selection.{paths}

-- in path order
abbrev pub at_and_below : Situation → Path → List Path
at_and_below g m = filter (is_inside m) (paths g)
