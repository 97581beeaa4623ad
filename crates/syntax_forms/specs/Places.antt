-- Places behind one another.
use Rattle.std.specs.Prelude.{◌≡◌, ℕ}
use Rattle.estelle_tree.specs.Input.{Input, skip}

-- the second place is the first one or behind it
abbrev pub Reach : Input → Input → Type 0
Reach i j = (n : ℕ) × (skip n i ≡ j)
