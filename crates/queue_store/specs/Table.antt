-- How a table keeps its rows.
use Rattle.std.specs.Prelude.{◌≡◌, ℕ, Bool, true, List, [], ◌∷◌, Option, map as each}
use Rattle.queue_store.specs.declared.table.Place.{Place}
use Rattle.queue_store.specs.Keys.{Keyed}
use Rattle.queue_store.specs.Chains.{held, slots}
use Rattle.queue_store.specs.declared.chain.Chain.{Chain}
use Rattle.queue_store.specs.Rows.{Row}

abbrev pub chain_of : Keyed × Place → Chain
chain_of e = e.1.chain

abbrev pub chains_of : List (Keyed × Place) → List Chain
chains_of = each chain_of

module _ {T : Type 0} where
  abbrev pub as_row : Keyed × Place → List (ℕ × T) → Row T
  as_row e xs = record { at = e.0.at; common = e.1.common; home = e.1.home; items = xs }

  -- the rows of entries
  abbrev pub rows_of : (ℕ → Option (ℕ × T)) → (ℕ → ℕ) → List (Keyed × Place) → List (Row T)
  rows_of load next = each (λ e. as_row e (held load (slots next e.1.chain)))

-- keys that keep their interaction points
abbrev pub AllKept : List (Keyed × Place) → Type 0
AllKept [] = Unit {0}
AllKept (e ∷ es) = (e.0.kept ≡ true) × AllKept es
