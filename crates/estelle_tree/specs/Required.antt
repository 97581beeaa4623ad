-- The required identifiers (ISO 7185, 6.1.3), and the bounds of the type integer.
use Rattle.std.specs.Prelude.{ℕ, ◌-◌, ◌^◌, List, map, ℤ, pos, negsuc}
use Rattle.estelle_tree.specs.declared.required.RequiredIdentifier.{RequiredIdentifier}
use Rattle.estelle_tree.specs.declared.required.TheConstants.{IDENTIFIERS}

-- each required identifier by its word, with what it stands for
abbrev pub identifiers : List (List ℕ × RequiredIdentifier)
identifiers = map (λ k. (k.0.now, k.1)) IDENTIFIERS

-- the greatest integer
abbrev pub maxint : ℤ
maxint = pos (2 ^ 63 - 1)

abbrev pub least_integer : ℤ
least_integer = negsuc (2 ^ 63 - 2)
