-- How a run ends.
use Rattle.std.specs.Prelude.{◌≡◌, ◌<◌, ℕ, true, List, [], ◌∷◌, ◌++◌, None}
use Rattle.pascal_values.specs.declared.fault.Fault as fault
use Rattle.estelle_tree.specs.Paths.{Path}
use Rattle.estelle_tree.specs.Timers.{next_due}
use Rattle.estelle_model.specs.declared.event.Event.{Event}
use Rattle.estelle_model.specs.declared.event.Event.TheVariants.{Fault}
use Rattle.estelle_model.specs.declared.event.End.{End}
use Rattle.estelle_model.specs.declared.event.End.TheVariants.{Dead, Turns, Clock, Faulted}
use Rattle.estelle_model.specs.Subject.{Subject}
use Rattle.estelle_model.specs.Delays.{has_delays}
use Rattle.estelle_model.specs.Runs.{IsRun, Applies, IsFirstFault, situation}
use Rattle.estelle_model.specs.Ends.{fires, Stops}
use Rattle.estelle_model.specs.Schedule.{Kept, IsWaiting, IsPlannedEnd, GuardFaultIsPlanned}
use Rattle.estelle_model.specs.Choosers.{Draw}
use Rattle.situation_steps.specs.declared.systems.System.{System}
use Rattle.situation_steps.specs.declared.systems.Time.{Time}
use Rattle.situation_steps.specs.Systems.{NoneIsDue, IsFirstDueAt}
use Rattle.situation_steps.specs.UnderWay.{IsUnderWay}

-- these are the events of a run that stops so, as it is planned where the last wait came after so many of them
pub record HasEnded (s : Subject) (budget turns : ℕ) (events : List Event) (waited : ℕ) (e : End) : Type 0 where
  pub run : IsRun s budget events
  pub stops : Stops s budget turns events e
  pub planned : IsPlannedEnd s budget turns events waited e

-- ---- faults

-- a fault that applies ends the run
abbrev pub FaultsEnd : Type 0
FaultsEnd = (s : Subject) (budget turns : ℕ) (events : List Event) (time : Time) (systems : List System) → IsUnderWay s budget events time systems
    → (m : Path) (n : ℕ) (kind : fault.Fault) → Applies s budget (situation s budget events) (Fault m n kind)
    → HasEnded s budget turns (events ++ Fault m n kind ∷ []) time.waited (Faulted kind)

-- the first guard of the first due system that faults applies, and is planned
pub record IsPlannedFault {C : Type 0} (draw : Draw C) (s : Subject) (budget : ℕ) (events : List Event) (waited : ℕ) (m : Path) (n : ℕ) (kind : fault.Fault) : Type 0 where
  pub applies : Applies s budget (situation s budget events) (Fault m n kind)
  pub planned : (kept : Kept C) → kept.waited ≡ waited → GuardFaultIsPlanned draw s budget events kept m n kind kept.chooser

abbrev pub GuardFaultsArePlanned : Type 0 → Type 0
GuardFaultsArePlanned C = (draw : Draw C) (s : Subject) (budget : ℕ) (events : List Event) (time : Time) (systems : List System) → IsUnderWay s budget events time systems
    → (at : ℕ) (x : System) → IsFirstDueAt systems at x
    → (m : Path) (n : ℕ) (kind : fault.Fault) → IsFirstFault s budget (situation s budget events) x.path m n kind → IsPlannedFault draw s budget events time.waited m n kind

-- ---- the other ends

-- where nothing is due or pending and no timer runs, the run is dead
abbrev pub DeadEnds : Type 0
DeadEnds = (s : Subject) (budget turns : ℕ) (events : List Event) (time : Time) (systems : List System) → IsUnderWay s budget events time systems
    → NoneIsDue systems → (situation s budget events).pending ≡ [] → next_due (situation s budget events).timers ≡ None → fires events < turns
    → HasEnded s budget turns events time.waited Dead

-- the limit ends it
abbrev pub TurnsEnd : Type 0
TurnsEnd = (s : Subject) (budget turns : ℕ) (events : List Event) (time : Time) (systems : List System) → IsUnderWay s budget events time systems
    → fires events ≡ turns → HasEnded s budget turns events time.waited Turns

-- a clock that fails ends it, where it is asked for a selection
abbrev pub ClocksEndSelections : Type 0
ClocksEndSelections = (s : Subject) (budget turns : ℕ) (events : List Event) (time : Time) (systems : List System) → IsUnderWay s budget events time systems
    → has_delays s ≡ true → (at : ℕ) (x : System) → IsFirstDueAt systems at x → fires events < turns
    → HasEnded s budget turns events time.waited Clock

-- or is waited for
abbrev pub ClocksEndWaits : Type 0
ClocksEndWaits = (s : Subject) (budget turns : ℕ) (events : List Event) (time : Time) (systems : List System) → IsUnderWay s budget events time systems
    → has_delays s ≡ true → IsWaiting s budget events time.waited → fires events < turns
    → HasEnded s budget turns events time.waited Clock
