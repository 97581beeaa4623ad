-- What a world keeps of a run.
use Rattle.std.specs.Prelude.{◌≡◌, ◌≤◌, ◌<◌, ℕ, ◌+◌, ◌-◌, ◌*◌, ◌^◌, ◌++◌, ◌∷◌, Bool, if◌then◌else◌, List, [], length, count_by, Option, Some, None, Contains}
use Rattle.estelle_tree.specs.declared.transition.Pair.{Pair}
use Rattle.estelle_tree.specs.Paths.{Path}
use Rattle.pascal_values.specs.declared.fault.Fault.{Fault}
use Rattle.estelle_model.specs.declared.effect.Out.{Out}
use Rattle.estelle_model.specs.declared.event.Event.{Event}
use Rattle.estelle_model.specs.declared.event.Event.TheVariants as event
use Rattle.estelle_model.specs.declared.event.End.{End}
use Rattle.estelle_model.specs.declared.event.End.TheVariants.{Clock, Faulted}
use Rattle.estelle_model.specs.Subject.{Subject}
use Rattle.estelle_model.specs.Situation.{Situation}
use Rattle.estelle_model.specs.Firing.{Firing, Ran, Failed, Undefined}
use Rattle.estelle_model.specs.Delays.{has_delays}
use Rattle.estelle_model.specs.Runs.{situation}
use Rattle.estelle_model.specs.Choosers.{Draw}
use Rattle.estelle_model.specs.Schedule.{IsWaiting, wait_until}
use Rattle.estelle_model_legality.specs.Instances.{LeadsToStates}
use Rattle.run_history.specs.declared.entry.Entry.{Entry}
use Rattle.run_history.specs.declared.entry.Taken.{Taken}
use Rattle.run_history.specs.Histories.{project, fires}
use Rattle.run_history.specs.Tickets.{tickets}
use Rattle.run_history.specs.OpenTickets.{open_in, untaken}
use Rattle.situation_state.specs.At.{IsAt}
use Rattle.situation_steps.specs.declared.systems.System.{System}
use Rattle.situation_steps.specs.declared.systems.Time.{Time}
use Rattle.situation.specs.declared.limits.Limits.{Limits}
use Rattle.situation.specs.declared.limits.Stepped.{Stepped}
use Rattle.situation.specs.declared.limits.Stepped.TheVariants as stepped
use Rattle.situation.specs.declared.execution.Execution.{Execution}
use Rattle.situation.specs.Planned.{IsPlannedOn}
use Rattle.situation.specs.Runs.{noted, ending, take_of, ended_at, IsGoing, IsClosed, AreAllTaken, AreReached}

-- how many steps there can be before a run ends: between two waits for the clock something fires, and between two firings each system selects at most once, and once more after a wait
abbrev pub work : ℕ → ℕ → List System → Bool → Option End → ℕ
work turns count systems may_wait None =
    1 + ((turns - count) * (2 * length systems + 3) + ((if may_wait then length systems + 1 else 0) + count_by (λ x. x.awaits) systems))
work turns count systems may_wait (Some e) = 0

-- what an end adds to the history: itself, behind the fault of a guard where that is the end
abbrev pub AddsEnd : ℕ → List Entry → List Entry → End → Type 0
AddsEnd by before after (Faulted kind) = (path : Path) × (trans : ℕ) × (after ≡ (before ++ noted by (event.Fault path trans kind) ∷ []) ++ ending by (Faulted kind) ∷ [])
AddsEnd by before after e = after ≡ before ++ ending by e ∷ []

-- what a step adds while the run goes on: the selection, or the firing or its fault behind a ticket, with the end where that is one, or the end
abbrev pub AddsMore : ℕ → ℕ → List Entry → List Entry → Stepped → Type 0
AddsMore by turns before after stepped.Selected = (system : Path) × (moment : ℕ) × (takes : List Pair) × (after ≡ before ++ noted by (event.Select system moment takes) ∷ [])
AddsMore by turns before after stepped.Waited = after ≡ before
AddsMore by turns before after stepped.Fired = (ticket : ℕ) × (p : Pair) × (outs : List Out) × (drops : List ℕ) × (after ≡ ended_at by turns ((before ++ take_of by ticket p ∷ []) ++ noted by (event.Fire p.path p.trans outs drops) ∷ []))
AddsMore by turns before after stepped.Faulted = (ticket : ℕ) × (p : Pair) × (kind : Fault) × (after ≡ ((before ++ take_of by ticket p ∷ []) ++ noted by (event.Fault p.path p.trans kind) ∷ []) ++ ending by (Faulted kind) ∷ [])
AddsMore by turns before after (stepped.Ended e) = AddsEnd by before after e

-- what a step adds: where the run has ended, it tells that end, and adds nothing
abbrev pub Adds : ℕ → ℕ → Option End → List Entry → List Entry → Stepped → Type 0
Adds by turns None before after did = AddsMore by turns before after did
Adds by turns (Some e) before after did = (did ≡ stepped.Ended e) × (after ≡ before)

-- the clock was waited for where nothing else was left to do, until the first moment that is due, and no event came after it
pub record HasWaited (s : Subject) (budget : ℕ) (events : List Event) (before after : Time) : Type 0 where
  pub waiting : IsWaiting s budget events before.waited
  pub until : wait_until (situation s budget events) before.known ≤ after.known
  pub last : after.waited ≡ length events

-- a step waits for the clock where it tells so, and only there
abbrev pub Waits : Subject → ℕ → List Entry → Time → Time → Stepped → Type 0
Waits s budget entries before after stepped.Waited = HasWaited s budget (project entries) before after
Waits s budget entries before after _ = after.waited ≡ before.waited

-- no more has happened than the start: its event is the only entry, or its fault, which is the end
abbrev pub HasOnlyStarted : Firing → List Entry → Option End → Type 0
HasOnlyStarted (Ran g outs drops left) entries ended = (entries ≡ noted 0 (event.Start outs drops) ∷ []) × (ended ≡ None)
HasOnlyStarted (Failed kind left) entries ended = (entries ≡ noted 0 (event.Fault [] 0 kind) ∷ ending 0 (Faulted kind) ∷ []) × (ended ≡ Some (Faulted kind))
HasOnlyStarted Undefined entries ended = ⊥

module _ {H : Type 0} where
  abbrev pub entries_of : Execution H → List Entry
  entries_of c = c.history.entries

  abbrev pub limits_of : Execution H → Limits
  limits_of c = record { turns = c.turns; budget = c.state.budget }

  -- the situation that the run has come to
  abbrev pub now : Execution H → Situation
  now c = situation c.state.program.now c.state.budget (project c.history.entries)

  -- what is pending in it and was not taken
  abbrev pub left_in : Execution H → List Pair
  left_in c = untaken (open_in c.history.entries) (now c).pending

  -- what is kept of a run that goes on
  pub record IsOpenExecution (c : Execution H) : Type 0 where
    -- bodies lead to states of their own, and no count comes to its end
    pub leads : LeadsToStates c.state.program.now
    pub room : c.state.budget * (c.turns + 1) < 2 ^ 63
    pub delays : c.delays ≡ has_delays c.state.program.now
    pub going : IsGoing c.state.program.now c.state.budget c.turns c.history.entries c.time c.systems.items
    -- what is left of the pending firings is what nobody has taken, and the others are under way
    pub at : IsAt (now c) (left_in c) c.state
    pub flying : c.flying.items ≡ open_in c.history.entries
    -- so many firings were taken: those that there were, and those that are under way
    pub taken : length (tickets c.history.entries) ≡ c.tickets
    pub fired : c.tickets ≡ fires c.history.entries + length (open_in c.history.entries)
    -- while one is under way the limit of firings is not reached
    pub limit : (o : Taken) → Contains (open_in c.history.entries) o → fires c.history.entries < c.turns

  -- what is kept of one that has ended so
  pub record IsEndedExecution (c : Execution H) (e : End) : Type 0 where
    pub leads : LeadsToStates c.state.program.now
    pub room : c.state.budget * (c.turns + 1) < 2 ^ 63
    pub delays : c.delays ≡ has_delays c.state.program.now
    pub closed : IsClosed c.state.program.now c.state.budget c.turns c.history.entries c.time.waited e
    -- the stores stand for the situation; what is left of its pending firings says nothing any more
    pub left : List Pair
    pub at : IsAt (now c) left c.state
    pub taken : length (tickets c.history.entries) ≡ c.tickets
    pub fired : AreAllTaken e c.history.entries c.tickets

  abbrev pub IsKept : Execution H → Option End → Type 0
  IsKept c None = IsOpenExecution c
  IsKept c (Some e) = IsEndedExecution c e

  abbrev pub IsExecution : Execution H → Type 0
  IsExecution c = IsKept c c.end

  pub record IsOfProgram (s : Subject) (limits : Limits) (c : Execution H) : Type 0 where
    pub subject : c.state.program.now ≡ s
    pub same : limits_of c ≡ limits

  -- from this chooser and a clock that tells the first moment, or none, the planned steps lead to the execution, and to a clock that tells this
  abbrev pub IsReached : Draw H → Option ℕ → H → Execution H → Option ℕ → Type 0
  IsReached draw clock first c moment = AreReached draw c.state.program.now c.state.budget c.turns clock first c.history.entries c.chooser c.time moment

  -- before its first step, with a clock that tells this
  abbrev pub HasBegun : Draw H → Option ℕ → H → Execution H → Type 0
  HasBegun draw moment chooser c = IsReached draw moment chooser c moment

  -- a step that did this, in which the clock came from telling one moment to telling another, is the planned one
  pub record HasGoneOn (draw : Draw H) (moment moment' : Option ℕ) (before after : Execution H) (did : Stepped) : Type 0 where
    pub program : after.state.program ≡ before.state.program
    pub limits : limits_of after ≡ limits_of before
    pub writer : after.writer ≡ before.writer
    pub planned : IsPlannedOn draw before.state.program.now before.state.budget before.turns before.history.entries before.chooser before.time moment after.history.entries after.chooser after.time moment' did

  abbrev pub left_to_do : Execution H → ℕ
  left_to_do c = work c.turns (fires c.history.entries) c.systems.items c.time.may_wait c.end

  -- a step that is not the end leaves less to do
  abbrev pub Leaves : Execution H → Execution H → Stepped → Type 0
  Leaves before after (stepped.Ended e) = after.end ≡ Some e
  Leaves before after _ = left_to_do after < left_to_do before

  -- what a step comes to
  pub record HasStepped (draw : Draw H) (moment moment' : Option ℕ) (before after : Execution H) (did : Stepped) : Type 0 where
    pub keeps : IsExecution after
    pub goes_on : HasGoneOn draw moment moment' before after did
    pub leaves : Leaves before after did
    pub adds : Adds before.writer before.turns before.end before.history.entries after.history.entries did
    pub waits : Waits before.state.program.now before.state.budget before.history.entries before.time after.time did
    -- it has ended by the clock only if it says so
    pub ends : after.end ≡ Some Clock → did ≡ stepped.Ended Clock

  -- after a refusal the run is as before
  pub record IsUnchanged (before after : Execution H) : Type 0 where
    pub keeps : IsExecution after
    pub program : after.state.program ≡ before.state.program
    pub limits : limits_of after ≡ limits_of before
    pub writer : after.writer ≡ before.writer
    pub entries : entries_of after ≡ entries_of before
    pub time : after.time ≡ before.time
    pub systems : after.systems.items ≡ before.systems.items
