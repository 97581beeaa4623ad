-- What places have last, of declarations in order.
use Rattle.std.specs.Prelude.{◌≡◌, ℕ, nat_eq, if◌then◌else◌, List, [], ◌∷◌, reverse, length, Option, Some, None}
use Rattle.std.specs.Map.{lookup}

module _ {V : Type 0} where
  -- what a place has last
  abbrev pub latest : ℕ → List (ℕ × V) → Option V
  latest place es = lookup (nat_eq place) (reverse es)

  -- of declarations with the latest first, how many stand before the latest at a place
  abbrev pub before_latest : ℕ → List (ℕ × V) → Option ℕ
  before_latest place [] = None
  before_latest place (e ∷ es) = if nat_eq e.0 place then Some (length es) else before_latest place es

  -- each place with the number of its latest
  abbrev pub AreLatest : List (ℕ × V) → List (ℕ × ℕ) → Type 0
  AreLatest es numbers = (place : ℕ) → lookup (nat_eq place) numbers ≡ before_latest place (reverse es)
