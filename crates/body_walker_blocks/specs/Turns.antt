-- The values of the variable of a `for`, turn by turn.
use Rattle.std.specs.Prelude.{if◌then◌else◌, Option, Some, None, ℤ}
use Rattle.estelle_tree.specs.declared.tree.statement.Direction.{Direction}
use Rattle.estelle_model.specs.Loops.{next_of, comes_to}

-- the value of the first turn, if there is one
abbrev pub beginning : Direction → ℤ → ℤ → Option ℤ
beginning dir first last = if comes_to dir first last then Some first else None

-- the value of the turn after one
abbrev pub following : Direction → ℤ → ℤ → Option ℤ
following dir n last = beginning dir (next_of dir n) last
