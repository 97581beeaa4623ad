-- What is kept while a trace is judged, event by event.
use Rattle.std.specs.Prelude.{◌≡◌, ◌≤◌, ◌<◌, ◌*◌, ◌+◌, ◌^◌, ℕ, suc, Bool, true, false, List, [], length, take, slice_get, Option, Some, None}
use Rattle.pascal_values.specs.declared.fault.Fault as fault
use Rattle.estelle_tree.specs.declared.transition.Pair.{Pair}
use Rattle.estelle_model.specs.declared.event.Event.{Event}
use Rattle.estelle_model.specs.declared.job.Done.{Done}
use Rattle.estelle_model.specs.Subject.{Subject}
use Rattle.estelle_model.specs.Situation.{Situation}
use Rattle.estelle_model.specs.Firing.{Failed, bare, start}
use Rattle.estelle_model.specs.Jobs.{Answers}
use Rattle.estelle_model.specs.Runs.{IsRun, situation_at}
use Rattle.estelle_model_legality.specs.Instances.{LeadsToStates}
use Rattle.estelle_model_legality.specs.Jobs.{job_of, start_job, IsJob}
use Rattle.effect_log.specs.Rooms.{HasRoomFor}
use Rattle.trace_check.specs.declared.judged_part.JudgedPart.{JudgedPart}
use Rattle.situation_state.specs.At.{IsAt}
use Rattle.trace_check.specs.Going.{IsGoing, IsFaulted}

-- ---- what is kept

-- the situation after the events so far
abbrev pub now : JudgedPart → Situation
now r = situation_at r.state.program.now r.state.budget r.events.now r.count

-- so much is kept where no fault ended the run
pub record IsOpen (r : JudgedPart) : Type 0 where
  pub unended : r.fault ≡ None
  -- bodies lead to states of their own, and no count comes to its end
  pub leads : LeadsToStates r.state.program.now
  pub few : length r.events.now < 2 ^ 31
  pub room : r.state.budget * length r.events.now < 2 ^ 63
  pub going : IsGoing r.state.program.now r.state.budget r.events.now r.count
  pub at : IsAt (now r) (now r).pending r.state

abbrev pub IsKept : JudgedPart → Option fault.Fault → Type 0
IsKept r None = IsOpen r
IsKept r (Some kind) = IsFaulted r.state.program.now r.state.budget r.events.now r.count kind

abbrev pub IsJudgedPart : JudgedPart → Type 0
IsJudgedPart r = IsKept r r.fault

-- ---- what the next event comes to

abbrev pub IsNext : JudgedPart → Event → Type 0
IsNext r e = slice_get r.events.now r.count ≡ Some e

-- the events go on by one that applies
pub record HasGoneOn (old new : JudgedPart) : Type 0 where
  pub keeps : IsJudgedPart new
  pub program : new.state.program ≡ old.state.program
  pub budget : new.state.budget ≡ old.state.budget
  pub events : new.events ≡ old.events
  pub count : new.count ≡ old.count + 1

-- or by one that does not
abbrev pub HasJudged : JudgedPart → JudgedPart → Bool → Type 0
HasJudged old new true = HasGoneOn old new
HasJudged old new false = IsRun old.state.program.now old.state.budget (take (suc old.count) old.events.now) → ⊥

-- ---- what the functions tell each other

-- it is what was computed of the pending firing with this number, whose job meets the condition of a job
abbrev pub IsComputedAt : ℕ → JudgedPart → Done → Type 0
IsComputedAt at r done = (p : Pair) → slice_get r.state.untaken.items at ≡ Some p
    → Answers r.state.program.now (job_of r.state.program.now (now r) 0 r.state.budget p) done × IsJob r.state.program.now (job_of r.state.program.now (now r) 0 r.state.budget p)

-- ---- the start

-- nothing has happened yet, and the shared state stands for the situation before the initialization
pub record IsFresh (r : JudgedPart) : Type 0 where
  pub unended : r.fault ≡ None
  pub count : r.count ≡ 0
  pub at : IsAt (bare r.state.program.now) [] r.state

-- it is of these events
pub record IsOf (s : Subject) (budget : ℕ) (events : List Event) (r : JudgedPart) : Type 0 where
  pub program : r.state.program.now ≡ s
  pub budget_is : r.state.budget ≡ budget
  pub events_are : r.events.now ≡ events

-- what was computed of the initialization may be put, where it ran
pub record MayBegin (r : JudgedPart) (done : Done) : Type 0 where
  pub fresh : IsFresh r
  pub leads : LeadsToStates r.state.program.now
  pub few : length r.events.now < 2 ^ 31
  pub some : 1 ≤ length r.events.now
  pub room : r.state.budget * length r.events.now < 2 ^ 63
  pub answers : Answers r.state.program.now (start_job r.state.program.now r.state.budget) done
  pub room_for : HasRoomFor done.outcome r.state.shared r.state.notes

-- the initialization comes to this fault
abbrev pub FailsFirst : JudgedPart → fault.Fault → Type 0
FailsFirst r kind = (left : ℕ) × (start r.state.program.now r.state.budget ≡ Failed kind left)

-- the first event is the start of a run, or its fault
pub record HasBegun (s : Subject) (budget : ℕ) (events : List Event) (r : JudgedPart) : Type 0 where
  pub keeps : IsJudgedPart r
  pub of : IsOf s budget events r
  pub count : r.count ≡ 1
