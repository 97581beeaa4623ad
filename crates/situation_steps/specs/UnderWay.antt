-- What is known of a run that goes on.
use Rattle.std.specs.Prelude.{◌≡◌, ◌≢◌, ◌⊎◌, ◌≤◌, ℕ, true, false, IsTrue, List, [], map as each, length, Some, Contains}
use Rattle.std.specs.List.{AllByRecursion}
use Rattle.std.specs.FinMap as map
use Rattle.estelle_tree.specs.declared.transition.Pair.{Pair}
use Rattle.estelle_tree.specs.Paths.{Path, is_inside}
use Rattle.estelle_tree.specs.Timers.{pair, low_is_over}
use Rattle.estelle_model.specs.declared.event.Event.{Event}
use Rattle.estelle_model.specs.Core.{Instance}
use Rattle.estelle_model.specs.Subject.{Subject}
use Rattle.estelle_model.specs.Situation.{Situation}
use Rattle.estelle_model.specs.Firing.{guard}
use Rattle.estelle_model.specs.Attributes.{IsSystem}
use Rattle.estelle_model.specs.Delays.{is_on, has_delays}
use Rattle.estelle_model.specs.Runs.{IsRun, NoGuardFaults, situation}
use Rattle.estelle_model.specs.Ends.{IsNoFault, last_event}
use Rattle.estelle_model_legality.specs.Situations.{IsLegal}
use Rattle.situation_steps.specs.declared.systems.System.{System}
use Rattle.situation_steps.specs.declared.systems.Time.{Time}
use Rattle.situation_steps.specs.Systems.{systems_of, IsKept}

-- the specification's own instance is there
abbrev pub HasRoot : Situation → Type 0
HasRoot g = (i : Instance) × (map.get g.core.instances [] ≡ Some i) × (i.body ≡ 0)

-- timers run at and below systems alone
abbrev pub AreBelowSystems : Subject → Situation → Type 0
AreBelowSystems s g = (p : Pair) → IsTrue (map.contains_key g.timers p) → (system : Path) × IsSystem s g system × IsTrue (is_inside system p.path)

-- at and below a system no guard faults, and just the transitions with a timer are enabled
pub record IsSettled (s : Subject) (budget : ℕ) (g : Situation) (system : Path) : Type 0 where
  pub sound : NoGuardFaults s budget g system
  pub timed : (m : Path) (n : ℕ) → IsTrue (is_inside system m) → is_on (guard s budget g m n) ≡ map.contains_key g.timers (pair m n)

-- a system that awaits no selection, and of which nothing is pending, has selected nothing
abbrev pub IsSettledIfDone : Subject → ℕ → Situation → System → Type 0
IsSettledIfDone s budget g x = x.awaits ≡ false → x.pending ≡ 0 → IsSettled s budget g x.path

-- at or below a system a transition is enabled whose delay is over at this moment
pub record IsOver (s : Subject) (budget : ℕ) (g : Situation) (known : ℕ) (system : Path) : Type 0 where
  pub path : Path
  pub trans : ℕ
  pub inside : IsTrue (is_inside system path)
  pub enabled : IsTrue (is_on (guard s budget g path trans))
  pub over : IsTrue (low_is_over known (map.get g.timers (pair path trans)))

-- a system awaits a selection in which it will select something
pub record WillSelect (s : Subject) (budget : ℕ) (g : Situation) (known : ℕ) (systems : List System) : Type 0 where
  pub system : System
  pub among : Contains systems system
  pub awaits : system.awaits ≡ true
  pub over : IsOver s budget g known system.path

-- something fires before the clock is waited for again
abbrev pub WillFire : Subject → ℕ → Situation → ℕ → List System → Type 0
WillFire s budget g known systems = (g.pending ≢ []) ⊎ WillSelect s budget g known systems

-- the events so far are a run that no fault ended, and this is kept of the clock and of the systems
pub record IsUnderWay (s : Subject) (budget : ℕ) (events : List Event) (time : Time) (systems : List System) : Type 0 where
  pub run : IsRun s budget events
  pub goes_on : IsNoFault (last_event events)
  pub legal : IsLegal s (situation s budget events)
  pub root : HasRoot (situation s budget events)
  pub below : AreBelowSystems s (situation s budget events)
  -- and none where no transition has a delay
  pub untimed : has_delays s ≡ false → (situation s budget events).timers ≡ map.empty
  -- no selection was later than the last moment that is known, which is 0 where no transition has a delay
  pub no_later : (situation s budget events).now ≤ time.known
  pub undelayed : has_delays s ≡ false → time.known ≡ 0
  pub waited : time.waited ≤ length events
  pub fires_first : time.may_wait ≡ false → WillFire s budget (situation s budget events) time.known systems
  -- these are all systems
  pub all : each (λ x. x.path) systems ≡ systems_of s (situation s budget events)
  pub kept : AllByRecursion (IsKept s budget events time.waited) systems
  pub settled : AllByRecursion (IsSettledIfDone s budget (situation s budget events)) systems
