-- What guards see, and how long offers stay fresh.
use Rattle.std.specs.Prelude.{◌≡◌, ◌⊎◌, ℕ, List, [], None, Contains}
use Rattle.std.specs.FinMap as map
use Rattle.estelle_tree.specs.Paths.{Path}
use Rattle.estelle_model.specs.declared.event.Event.{Event}
use Rattle.estelle_model.specs.Subject.{Subject}
use Rattle.estelle_model.specs.Situation.{Situation}
use Rattle.estelle_model.specs.Firing.{guard}
use Rattle.estelle_model.specs.Runs.{Applies, next}
use Rattle.estelle_model_legality.specs.Instances.{LeadsToStates}
use Rattle.estelle_model_legality.specs.Situations.{IsLegal}
use Rattle.guards_seen.specs.Quiet.{IsQuiet}
use Rattle.guards_seen.specs.Seen.{HoldsOwnChildren, HaveSameOf, IsUntouched}
use Rattle.guards_seen.specs.Offers.{enabled, NoneFaults, Rows, row_at, with_row, unmarked, AreKnown, IsFresh}

-- where functions are quiet, a guard sees the record of its instance, the records of the children, its head and its timer, and nothing else
abbrev pub GuardsSeeTheirOwn : Type 0
GuardsSeeTheirOwn = (s : Subject) → IsQuiet s → (budget : ℕ) (g h : Situation) (q : Path) (n : ℕ) → h.core.types ≡ g.core.types → HoldsOwnChildren g q → HaveSameOf s g h q n
    → guard s budget h q n ≡ guard s budget g q n

-- ---- offers

-- once all guards of an instance are evaluated, and none faults, its row is that of its enabled transitions, and it is marked no longer
abbrev pub OffersBecomeFresh : Type 0
OffersBecomeFresh = (s : Subject) (budget : ℕ) (g : Situation) (rows : Rows) (marked : List Path) → IsFresh s budget g rows marked
    → (q : Path) → NoneFaults s budget g q → IsFresh s budget g (with_row rows q (enabled s budget g q)) (unmarked q marked)

-- an instance that is not touched has the same enabled transitions, and faults as before
abbrev pub RowsStay : Type 0
RowsStay = (s : Subject) → IsQuiet s → LeadsToStates s → (budget : ℕ) (g : Situation) → IsLegal s g → (e : Event) → Applies s budget g e
    → (q : Path) → IsUntouched s g (next s budget g e) q → (enabled s budget (next s budget g e) q ≡ enabled s budget g q) × (NoneFaults s budget g q → NoneFaults s budget (next s budget g e) q)

-- an instance was not marked, is not touched and keeps its row; or it is not there any more, and has no row
abbrev pub IsKept : Subject → (g h : Situation) (rows : Rows) (marked : List Path) (after : Rows) → Path → Type 0
IsKept s g h rows marked after q = ((Contains marked q → ⊥) × IsUntouched s g h q × (row_at after q ≡ row_at rows q)) ⊎ ((map.get h.core.instances q ≡ None) × (row_at after q ≡ []))

-- offers stay fresh behind an event where each instance that is not marked then is kept so
abbrev pub OffersStayFresh : Type 0
OffersStayFresh = (s : Subject) → IsQuiet s → LeadsToStates s → (budget : ℕ) (g : Situation) → IsLegal s g → (e : Event) → Applies s budget g e
    → (rows : Rows) (marked : List Path) → IsFresh s budget g rows marked
    → (after : Rows) (marks : List Path) → AreKnown s (next s budget g e) after → ((q : Path) → (Contains marks q → ⊥) → IsKept s g (next s budget g e) rows marked after q)
    → IsFresh s budget (next s budget g e) after marks
