-- Offers: for each instance the numbers of its enabled transitions, as they are kept from one selection to the next.
use Rattle.std.specs.Prelude.{◌≡◌, ℕ, not, List, [], ◌∷◌, length, filter, unwrap_or, Option, Some, None, Contains}
use Rattle.std.specs.List.{range_with_len}
use Rattle.std.specs.Str.{bytes_eq}
use Rattle.std.specs.FinMap as map
use Rattle.pascal_values.specs.declared.fault.Fault.{Fault}
use Rattle.estelle_tree.specs.Paths.{Path, path_cmp}
use Rattle.estelle_model.specs.declared.job.Guard.TheVariants.{Faulted}
use Rattle.estelle_model.specs.Core.{Instance}
use Rattle.estelle_model.specs.Transitions.{Transition}
use Rattle.estelle_model.specs.Subject.{Subject, transitions}
use Rattle.estelle_model.specs.Situation.{Situation}
use Rattle.estelle_model.specs.Firing.{transition_at, guard}
use Rattle.estelle_model.specs.Delays.{is_on}

-- ---- rows

-- the numbers of the transitions of an instance
abbrev pub numbers : Subject → Option Instance → List ℕ
numbers s None = []
numbers s (Some i) = range_with_len 1 (length (transitions s i.body))

-- the numbers of its enabled transitions, rising
abbrev pub enabled : Subject → ℕ → Situation → Path → List ℕ
enabled s budget g q = filter (λ n. is_on (guard s budget g q n)) (numbers s (map.get g.core.instances q))

-- no guard of the instance faults
abbrev pub NoneFaults : Subject → ℕ → Situation → Path → Type 0
NoneFaults s budget g q = (n : ℕ) (kind : Fault) → guard s budget g q n ≡ Faulted kind → ⊥

-- the rows that are kept; an instance with no enabled transition has none
abbrev pub Rows : Type 0
Rows = map.FinMap path_cmp (List ℕ)

abbrev pub row_at : Rows → Path → List ℕ
row_at rows q = unwrap_or (map.get rows q) []

-- the row of an instance is set
abbrev pub with_row : Rows → Path → List ℕ → Rows
with_row rows q [] = map.remove rows q
with_row rows q (n ∷ ns) = map.insert rows q (n ∷ ns)

abbrev pub unmarked : Path → List Path → List Path
unmarked q marked = filter (λ p. not (bytes_eq q p)) marked

-- ---- what is kept is right

-- there is no row but of transitions of instances that are there
abbrev pub AreKnown : Subject → Situation → Rows → Type 0
AreKnown s g rows = (q : Path) (n : ℕ) → Contains (row_at rows q) n → (t : Transition) × (transition_at s n (map.get g.core.instances q) ≡ Some t)

-- each instance that is not marked has the row of its enabled transitions, and none of its guards faults
pub record IsFresh (s : Subject) (budget : ℕ) (g : Situation) (rows : Rows) (marked : List Path) : Type 0 where
  pub known : AreKnown s g rows
  pub right : (q : Path) → (Contains marked q → ⊥) → row_at rows q ≡ enabled s budget g q
  pub sound : (q : Path) → (Contains marked q → ⊥) → NoneFaults s budget g q
