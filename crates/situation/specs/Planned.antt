-- One step as it is planned, from what is kept of a run as it is.
use Rattle.std.specs.Prelude.{◌<◌, ℕ, List, [], ◌∷◌, ◌++◌, length, Option}
use Rattle.pascal_values.specs.declared.fault.Fault.{Fault as Kind}
use Rattle.estelle_tree.specs.Paths.{Path}
use Rattle.estelle_tree.specs.declared.transition.Pair.{Pair}
use Rattle.estelle_model.specs.declared.effect.Out.{Out}
use Rattle.estelle_model.specs.declared.event.Event.{Event}
use Rattle.estelle_model.specs.declared.event.Event.TheVariants.{Select, Fire, Fault}
use Rattle.estelle_model.specs.declared.event.End.{End}
use Rattle.estelle_model.specs.declared.event.End.TheVariants.{Faulted}
use Rattle.estelle_model.specs.Subject.{Subject}
use Rattle.estelle_model.specs.Runs.{FiringFaults, situation}
use Rattle.estelle_model.specs.Ends.{fires}
use Rattle.estelle_model.specs.Choosers.{Draw}
use Rattle.estelle_model.specs.Schedule.{Kept, kept_after, told_after, SelectIsPlanned, FiringIsPlanned, GuardFaultIsPlanned, IsWaiting, MayAnswer, wait_until}
use Rattle.run_history.specs.declared.entry.Entry.{Entry}
use Rattle.run_history.specs.Histories.{project}
use Rattle.situation_steps.specs.declared.systems.Time.{Time}
use Rattle.situation.specs.declared.limits.Stepped.{Stepped}
use Rattle.situation.specs.declared.limits.Stepped.TheVariants as stepped
use Rattle.situation.specs.Runs.{IsTold}

-- what is kept beside the events, with a clock that tells this moment, or none
abbrev pub kept_of : {C : Type 0} → C → Time → Option ℕ → Kept C
kept_of chooser time clock = record { chooser = chooser; known = time.known; waited = time.waited; clock = clock }

-- from these events, where this is kept, a step that did this leads to those, where that is kept; only an end may come at the limit of firings
pub data StepsTo {C : Type 0} (draw : Draw C) (s : Subject) (budget turns : ℕ) (before : List Event) (kept : Kept C) : Stepped → List Event → Kept C → Type 0 where
  a_selection : (system : Path) (now : ℕ) (takes : List Pair) (rest : C) → fires before < turns → SelectIsPlanned draw s budget before kept system now takes rest
      → StepsTo draw s budget turns before kept stepped.Selected (before ++ Select system now takes ∷ []) (kept_after (Select system now takes) rest kept)
  a_firing : (m : Path) (n : ℕ) (outs : List Out) (drops : List ℕ) (rest : C) → fires before < turns → FiringIsPlanned draw s budget before kept m n rest
      → StepsTo draw s budget turns before kept stepped.Fired (before ++ Fire m n outs drops ∷ []) (kept_after (Fire m n outs drops) rest kept)
  -- the firing that was picked is this fault
  a_fault : (m : Path) (n : ℕ) (kind : Kind) (rest : C) → fires before < turns → FiringIsPlanned draw s budget before kept m n rest → FiringFaults s budget (situation s budget before) m n kind
      → StepsTo draw s budget turns before kept stepped.Faulted (before ++ Fault m n kind ∷ []) (kept_after (Fault m n kind) rest kept)
  a_wait : (now : ℕ) → fires before < turns → IsWaiting s budget before kept.waited → MayAnswer kept.clock (wait_until (situation s budget before) kept.known) now
      → StepsTo draw s budget turns before kept stepped.Waited before (record kept { known = now; waited = length before; clock = told_after kept.clock now })
  -- a guard of the system that would select is this fault
  a_guard_fault : (m : Path) (n : ℕ) (kind : Kind) (rest : C) → fires before < turns → GuardFaultIsPlanned draw s budget before kept m n kind rest
      → StepsTo draw s budget turns before kept (stepped.Ended (Faulted kind)) (before ++ Fault m n kind ∷ []) (kept_after (Fault m n kind) rest kept)
  -- or nothing comes
  an_end : (e : End) → StepsTo draw s budget turns before kept (stepped.Ended e) before kept

-- with what is known of the clock then
pub record LeadsOn {C : Type 0} (draw : Draw C) (s : Subject) (budget turns : ℕ) (before : List Entry) (chooser : C) (time : Time) (clock : Option ℕ) (after : List Entry) (chooser' : C) (time' : Time) (moment' : Option ℕ) (did : Stepped) : Type 0 where
  pub known : Option ℕ
  pub told : IsTold known moment'
  pub steps : StepsTo draw s budget turns (project before) (kept_of chooser time clock) did (project after) (kept_of chooser' time' known)

-- a step is planned from these entries, this chooser, this time and a clock that tells this moment, or none, and leads to those; whatever is known of the clock
abbrev pub IsPlannedOn : {C : Type 0} → Draw C → Subject → ℕ → ℕ → List Entry → C → Time → Option ℕ → List Entry → C → Time → Option ℕ → Stepped → Type 0
IsPlannedOn draw s budget turns before chooser time moment after chooser' time' moment' did = (known : Option ℕ) → IsTold known moment → LeadsOn draw s budget turns before chooser time known after chooser' time' moment' did
