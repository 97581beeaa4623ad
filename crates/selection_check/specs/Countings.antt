-- What the transitions that instances count let a system select.
use Rattle.std.specs.Prelude.{◌≡◌, ℕ, Bool, false, ℤ, not, ◌==◌, ◌&&◌, Option, List, [], ◌∷◌, map as each, flat_map}
use Rattle.std.specs.List.{prefix_len, list_any, AllByRecursion}
use Rattle.std.specs.Str.{bytes_eq}
use Rattle.estelle_tree.specs.declared.transition.Pair.{Pair}
use Rattle.estelle_tree.specs.Paths.{Path, is_inside}
use Rattle.estelle_model.specs.Subject.{Subject}
use Rattle.estelle_model.specs.Situation.{Situation}
use Rattle.estelle_model.specs.Selection.{is_higher, children}
use Rattle.transition_select.specs.declared.countings.Countable.{Countable}
use Rattle.transition_select.specs.declared.countings.Counting.{Counting}
use Rattle.transition_select.specs.Blocks.{at_and_below}
use Rattle.transition_select.specs.Countings.{IsCounting}

-- that of all below it
pub record AreCountingsBelow (s : Subject) (budget : ℕ) (g : Situation) (m : Path) (cs : List Counting) : Type 0 where
  pub paths : each (λ c. c.path) cs ≡ flat_map (at_and_below g) (children g m)
  pub countings : AllByRecursion (IsCounting s budget g) cs

-- how many of them, in a row from the first on, are at or below an instance
abbrev pub block_len : Path → List Counting → ℕ
block_len m = prefix_len (λ c. is_inside m c.path)

-- how many of the firings, in a row from the first on, are at or below an instance
abbrev pub takes_len : Path → List Pair → ℕ
takes_len m = prefix_len (λ p. is_inside m p.path)

-- the first of the firings is at or below an instance
abbrev pub begins_in : Path → List Pair → Bool
begins_in m [] = false
begins_in m (p ∷ ps) = is_inside m p.path

-- ---- of one instance

-- some transition must be counted
abbrev pub must_some : List Countable → Bool
must_some = list_any (λ c. c.must)

-- one that must be counted has priority over one of this priority
abbrev pub is_below : Option ℤ → List Countable → Bool
is_below p = list_any (λ c. c.must && is_higher c.priority p)

-- the one with a number may be selected, and none that must be counted has priority over it
abbrev pub is_eligible : ℕ → List Countable → Bool
is_eligible n all = list_any (λ c. (c.trans == n) && not (is_below c.priority all)) all

-- the first of the firings is one of its own
abbrev pub takes_own : Counting → List Pair → Bool
takes_own c [] = false
takes_own c (p ∷ ps) = bytes_eq c.path p.path && is_eligible p.trans c.transitions.items
