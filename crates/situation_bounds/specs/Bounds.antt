-- How often a scheduled run selects and waits for the clock: its firings bound both.
use Rattle.std.specs.Prelude.{ℕ, suc, ◌+◌, ◌*◌, ◌≤◌, List, length, Option}
use Rattle.estelle_model.specs.declared.event.Event.{Event}
use Rattle.estelle_model.specs.Subject.{Subject}
use Rattle.estelle_model.specs.Choosers.{Draw}
use Rattle.estelle_model.specs.Runs.{IsRun, situation}
use Rattle.estelle_model.specs.Ends.{fires}
use Rattle.estelle_model.specs.Schedule.{Kept, Reaches, begins, goes_on, waits}
use Rattle.estelle_model_legality.specs.Instances.{LeadsToStates}
use Rattle.situation_steps.specs.Systems.{systems_of}
use Rattle.run_counts.specs.Counts.{selections}

-- how often the clock was waited for
abbrev pub waits_in : {C : Type 0} {draw : Draw C} {s : Subject} {budget turns : ℕ} {clock : Option ℕ} {chooser : C} {events : List Event} {kept : Kept C} → Reaches draw s budget turns clock chooser events kept → ℕ
waits_in (begins e) = 0
waits_in (goes_on before kept e rest r below planned) = waits_in r
waits_in (waits events kept now r below waiting answer) = suc (waits_in r)

-- ---- laws

-- each system selects at most once after the start, after each firing and after each wait
abbrev pub SelectionsAreBounded : Type 0 → Type 0
SelectionsAreBounded C = (draw : Draw C) (s : Subject) → LeadsToStates s → (budget turns : ℕ) (clock : Option ℕ) (chooser : C) (events : List Event) (kept : Kept C)
    → (r : Reaches draw s budget turns clock chooser events kept) → IsRun s budget events
    → selections events ≤ (fires events + waits_in r + 1) * length (systems_of s (situation s budget events))

-- between two waits something fires
abbrev pub WaitsAreBounded : Type 0 → Type 0
WaitsAreBounded C = (draw : Draw C) (s : Subject) → LeadsToStates s → (budget turns : ℕ) (clock : Option ℕ) (chooser : C) (events : List Event) (kept : Kept C)
    → (r : Reaches draw s budget turns clock chooser events kept) → IsRun s budget events
    → waits_in r ≤ fires events + 1
