-- The systems of a situation, and what is kept of each of them between two events (ISO/IEC 9074: systemprocess, systemactivity).
use Rattle.std.specs.Prelude.{◌≡◌, ℕ, ◌-◌, nat_eq, Bool, true, false, ◌&&◌, ◌||◌, if◌then◌else◌, IsTrue, List, filter, count_by, take, slice_get, slice_set, Some}
use Rattle.std.specs.List.{list_any, AllByRecursion}
use Rattle.estelle_tree.specs.declared.transition.Pair.{Pair}
use Rattle.estelle_tree.specs.Paths.{Path, is_inside}
use Rattle.estelle_model.specs.declared.event.Event.{Event}
use Rattle.estelle_model.specs.Subject.{Subject}
use Rattle.estelle_model.specs.Situation.{Situation}
use Rattle.estelle_model.specs.Attributes.{is_system, attribute_at}
use Rattle.estelle_model.specs.Selection.{paths}
use Rattle.estelle_model.specs.Runs.{situation}
use Rattle.estelle_model.specs.Schedule.{awaits, awaits_clock}
use Rattle.situation_steps.specs.declared.systems.System.{System}

-- the systems that are there, in path order
abbrev pub systems_of : Subject → Situation → List Path
systems_of s g = filter (λ p. is_system (attribute_at s g p)) (paths g)

-- ---- what is kept of a system

-- it awaits a selection: it has not selected yet, or since then one of its instances fired, an output came to one, or the clock was waited for
abbrev pub is_awaiting : Subject → ℕ → List Event → ℕ → Path → Bool
is_awaiting s budget events waited system = awaits s budget system events || awaits_clock system waited events

-- so many of these firings are at or below it
abbrev pub count_inside : Path → List Pair → ℕ
count_inside system = count_by (λ p. is_inside system p.path)

-- after these events, and the last wait after so many of them
pub record IsKept (s : Subject) (budget : ℕ) (events : List Event) (waited : ℕ) (x : System) : Type 0 where
  pub awaits : x.awaits ≡ is_awaiting s budget events waited x.path
  pub pending : x.pending ≡ count_inside x.path (situation s budget events).pending

-- ---- which of them is due

-- it awaits a selection, and nothing of it is pending
abbrev pub is_due : System → Bool
is_due x = x.awaits && nat_eq x.pending 0

abbrev pub NoneIsDue : List System → Type 0
NoneIsDue = AllByRecursion (λ x. is_due x ≡ false)

-- the one with this number is the first that is due
pub record IsFirstDueAt (systems : List System) (at : ℕ) (x : System) : Type 0 where
  pub there : slice_get systems at ≡ Some x
  pub due : IsTrue (is_due x)
  pub first : NoneIsDue (take at systems)

-- ---- what is kept of them after a step

-- before the first selection
abbrev pub first_kept : Path → System
first_kept p = record { path = p; awaits = true; pending = 0 }

-- the one with this number has selected so many firings
abbrev pub after_selection : ℕ → System → ℕ → List System → List System
after_selection at x count systems = slice_set systems at (record x { awaits = false; pending = count })

-- an instance of it fired, or outputs arrived at some
abbrev pub after_firing : Path → List Path → System → System
after_firing m arrivals x = record x {
  awaits = is_inside x.path m || (list_any (is_inside x.path) arrivals || x.awaits);
  pending = if is_inside x.path m then x.pending - 1 else x.pending;
}

-- the clock was waited for
abbrev pub after_wait : System → System
after_wait x = record x { awaits = true }
