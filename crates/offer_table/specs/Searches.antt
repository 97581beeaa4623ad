-- What a search in a list in path order finds. No public clause cites this module.
use Rattle.std.specs.Prelude.{◌≡◌, ℕ, ◌+◌, ◌<◌, ◌≤◌, ◌++◌, List, length, take, drop, slice_get, Some, Result, MatchResult}
use Rattle.estelle_tree.specs.Paths.{Path}
use Rattle.offer_table.specs.declared.rows.Row.{Row}
use Rattle.offer_table.specs.Order.{before, after}
use Rattle.offer_table.specs.Tables.{row_of}

module _ {T : Type 0} (place : T → Path) where
  -- that of the instance stands at this index
  pub record StandsAt (p : Path) (xs : List T) (i : ℕ) : Type 0 where
    pub own : (x : T) × (slice_get xs i ≡ Some x) × (place x ≡ p)
    pub within : i < length xs
    pub front : take i xs ≡ before place p xs
    pub back : drop (i + 1) xs ≡ after place p xs

  -- there is none, and one would stand at this index
  pub record IsGap (p : Path) (xs : List T) (i : ℕ) : Type 0 where
    pub within : i ≤ length xs
    pub front : take i xs ≡ before place p xs
    pub back : drop i xs ≡ after place p xs

-- the row at this index has these numbers in the new list; it is gone where there are none
abbrev pub HasRow : ℕ → List ℕ → List Row → List Row → Type 0
HasRow i ns rows new = (r : Row) → slice_get rows i ≡ Some r → new ≡ take i rows ++ (row_of r.path ns ++ drop (i + 1) rows)

-- there is a row at this index in the new list, if it has numbers
abbrev pub HasNewRow : ℕ → Path → List ℕ → List Row → List Row → Type 0
HasNewRow i p ns rows new = new ≡ take i rows ++ (row_of p ns ++ drop i rows)

-- either of these, by what a search found
abbrev pub HasRowAt : Result ℕ ℕ → Path → List ℕ → List Row → List Row → Type 0
HasRowAt place p ns rows new = MatchResult place (λ i. HasRow i ns rows new) (λ i. HasNewRow i p ns rows new)
