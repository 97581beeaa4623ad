-- What is known of the first events of a trace, and of what may come next.
use Rattle.std.specs.Prelude.{◌≡◌, ◌≤◌, ◌*◌, ℕ, IsTrue, List, take}
use Rattle.pascal_values.specs.declared.fault.Fault.{Fault}
use Rattle.estelle_tree.specs.declared.transition.Pair.{Pair}
use Rattle.estelle_tree.specs.declared.transition.Wanted.{Wanted}
use Rattle.estelle_tree.specs.Paths.{Path, is_inside}
use Rattle.estelle_model.specs.declared.event.Event.{Event}
use Rattle.estelle_model.specs.declared.job.Guard.TheVariants.{Off}
use Rattle.estelle_model.specs.Subject.{Subject}
use Rattle.estelle_model.specs.Situation.{Situation}
use Rattle.estelle_model.specs.Firing.{guard}
use Rattle.estelle_model.specs.Attributes.{IsSystem}
use Rattle.estelle_model.specs.Delays.{wanted}
use Rattle.estelle_model.specs.Runs.{IsRun, IsIdle, IsFirstFault, MaySelect, situation_at}
use Rattle.estelle_model.specs.Ends.{last_event, IsNoFault, IsFault}
use Rattle.estelle_model_legality.specs.Situations.{IsLegal}
use Rattle.delay_timers.specs.Moments.{AreDifferent}
use Rattle.situation_steps.specs.UnderWay.{HasRoot}
use Rattle.situation_units.specs.Counting.{births_at}

-- ---- the events so far

-- the first n events are those of a run that no fault ended, in which no more outputs were made, and no more children of an instance, than there were units
pub record IsGoing (s : Subject) (budget : ℕ) (events : List Event) (n : ℕ) : Type 0 where
  pub run : IsRun s budget (take n events)
  pub goes_on : IsNoFault (last_event (take n events))
  pub legal : IsLegal s (situation_at s budget events n)
  pub root : HasRoot (situation_at s budget events n)
  pub made : (situation_at s budget events n).made ≤ budget * n
  pub births : (p : Path) → births_at p (situation_at s budget events n) ≤ budget * n

-- the first n events are those of a run that this fault ended
pub record IsFaulted (s : Subject) (budget : ℕ) (events : List Event) (n : ℕ) (kind : Fault) : Type 0 where
  pub run : IsRun s budget (take n events)
  pub fault : IsFault (last_event (take n events)) kind

-- ---- what may come next

-- the system may select so, and these transitions want timers
pub record IsSelectable (s : Subject) (budget : ℕ) (g : Situation) (system : Path) (moment : ℕ) (takes : List Pair) (wants : List Wanted) : Type 0 where
  pub may : MaySelect s budget g system moment takes
  pub wanted : wants ≡ wanted s budget g system
  pub different : AreDifferent wants

-- the first guard that faults of this system, of which nothing is pending
pub record IsFaultOf (s : Subject) (budget : ℕ) (g : Situation) (system m : Path) (n : ℕ) (kind : Fault) : Type 0 where
  pub is_system : IsSystem s g system
  pub idle : IsIdle g system
  pub first : IsFirstFault s budget g system m n kind

-- no transition at or below a system is enabled, and none faults
abbrev pub AreOff : Subject → ℕ → Situation → Path → Type 0
AreOff s budget g system = (m : Path) (n : ℕ) → IsTrue (is_inside system m) → guard s budget g m n ≡ Off
