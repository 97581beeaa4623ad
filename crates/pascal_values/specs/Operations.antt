-- What the operations on sets give, whatever they are given.
use Rattle.std.specs.Prelude.{ℕ, List, []}
use Rattle.pascal_values.specs.Sets.{IsSet, union, intersection, difference, interval}

-- no members, the members of `a..b`, and what `+`, `*` and `-` give are rising lists of ordinals
pub record GiveSets : Type 0 where
  pub none : IsSet []
  pub span : (low high : ℕ) → IsSet (interval low high)
  pub unite : (a b : List ℕ) → IsSet (union a b)
  pub meet : (a b : List ℕ) → IsSet (intersection a b)
  pub minus : (a b : List ℕ) → IsSet (difference a b)
