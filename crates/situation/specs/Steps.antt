-- What the functions that make a step tell each other.
use Rattle.std.specs.Prelude.{◌≡◌, ◌≢◌, ◌⊎◌, ◌≤◌, ◌<◌, ◌+◌, ◌^◌, ℕ, max, true, false, List, [], ◌∷◌, ◌++◌, map as each, slice_get, option_map, Option, Some, None, IfSome, Contains}
use Rattle.std.specs.FinMap as map
use Rattle.std.specs.List.{remove}
use Rattle.std.specs.VecDeque.{deque_len, deque_capacity}
use Rattle.outside.specs.Counts.{Rose}
use Rattle.pascal_values.specs.declared.fault.Fault.{Fault}
use Rattle.estelle_tree.specs.Paths.{Path}
use Rattle.estelle_tree.specs.Timers.{pair, next_due}
use Rattle.estelle_tree.specs.declared.transition.Pair.{Pair}
use Rattle.estelle_tree.specs.declared.transition.Wanted.{Wanted}
use Rattle.estelle_model.specs.declared.effect.Out.{Out}
use Rattle.estelle_model.specs.declared.event.Event.TheVariants as event
use Rattle.estelle_model.specs.declared.event.End.{End}
use Rattle.estelle_model.specs.declared.event.End.TheVariants.{Clock, Faulted}
use Rattle.estelle_model.specs.declared.job.Job.{Job}
use Rattle.estelle_model.specs.declared.job.Done.{Done}
use Rattle.estelle_model.specs.declared.job.Outcome.{Outcome}
use Rattle.estelle_model.specs.declared.job.Outcome.TheVariants as outcome
use Rattle.estelle_model.specs.Subject.{Subject}
use Rattle.estelle_model.specs.Situation.{Situation}
use Rattle.estelle_model.specs.Firing.{start, bare}
use Rattle.estelle_model.specs.Delays.{has_delays}
use Rattle.estelle_model.specs.Runs.{IsFirstFault}
use Rattle.estelle_model.specs.Runs as runs
use Rattle.estelle_model.specs.Choosers.{Draw, Picks}
use Rattle.estelle_model.specs.Jobs.{Answers}
use Rattle.estelle_model_legality.specs.Jobs as legal
use Rattle.estelle_model_legality.specs.Situations.{IsLegal}
use Rattle.body_state.specs.InOrder.{InOrder}
use Rattle.effect_log.specs.Standing.{Stands}
use Rattle.effect_log.specs.Putting.{IsRan, after_put}
use Rattle.effect_log.specs.Rooms.{HasRoomFor}
use Rattle.run_history.specs.declared.entry.Taken.{Taken}
use Rattle.run_history.specs.Histories.{fires}
use Rattle.run_history.specs.Tickets.{IsJobOf}
use Rattle.run_history.specs.OpenTickets.{open_in}
use Rattle.situation_offers.specs.Selections.{IsSelection}
use Rattle.situation_state.specs.At.{IsAt, IsBare}
use Rattle.situation_state.specs.Firings.{MayFire}
use Rattle.situation_steps.specs.declared.systems.System.{System}
use Rattle.situation_steps.specs.Systems.{systems_of, first_kept, after_firing, NoneIsDue}
use Rattle.situation_steps.specs.Laws.{first_time}
use Rattle.situation.specs.declared.execution.Execution.{Execution}
use Rattle.situation.specs.declared.limits.Limits.{Limits}
use Rattle.situation.specs.declared.limits.Stepped.{Stepped}
use Rattle.situation.specs.declared.limits.Stepped.TheVariants as stepped
use Rattle.situation.specs.declared.limits.Advanced.{Advanced}
use Rattle.situation.specs.declared.limits.Advanced.TheVariants as advanced
use Rattle.situation.specs.declared.limits.Committed.{Committed}
use Rattle.situation.specs.declared.limits.Committed.TheVariants as committed
use Rattle.situation.specs.declared.tickets.Choice.{Choice}
use Rattle.situation.specs.Runs.{noted, ending, take_of, taken_as, ended_at, end_at}
use Rattle.situation_images.specs.Putting.{arrivals_of}
use Rattle.situation.specs.Systems.{IsFirstOne}
use Rattle.situation.specs.Worlds.{IsOpenExecution, IsExecution, HasStepped, IsOfProgram, HasBegun, HasOnlyStarted, now}

-- the clock's count of faults rose, or the run had ended by the clock
abbrev pub IsBlamed : Option End → ℕ → ℕ → Type 0
IsBlamed before faults faults' = Rose faults faults' ⊎ (before ≡ Some Clock)

-- a step ends the run by the clock only there
abbrev pub IsCause : Option End → ℕ → ℕ → Stepped → Type 0
IsCause before faults faults' did = did ≡ stepped.Ended Clock → IsBlamed before faults faults'

-- and so does an advance
abbrev pub IsCauseOf : Option End → ℕ → ℕ → Advanced → Type 0
IsCauseOf before faults faults' did = did ≡ advanced.Ended Clock → IsBlamed before faults faults'

-- a clock has failed at least as often as at first, and has ended the run only where its count rose since
pub record IsCounted (first : ℕ) (end : Option End) (faults : ℕ) : Type 0 where
  pub later : first ≤ faults
  pub rose : end ≡ Some Clock → Rose first faults

-- where a firing is next, the clock is left as it was
abbrev pub LeavesClock : {C : Type 0} → Advanced → C → C → Type 0
LeavesClock advanced.Ready clock clock' = clock' ≡ clock
LeavesClock (advanced.Flying ticket) clock clock' = clock' ≡ clock
LeavesClock _ clock clock' = Unit {0}

-- none of these firings has the ticket
abbrev pub NoneHas : ℕ → List Taken → Type 0
NoneHas ticket os = (at : ℕ) (o : Taken) → slice_get os at ≡ Some o → o.ticket ≡ ticket → ⊥

-- the one at this place has it
pub record IsTicketAt (ticket : ℕ) (os : List Taken) (at : ℕ) : Type 0 where
  pub it : Taken
  pub there : slice_get os at ≡ Some it
  pub ticket_is : it.ticket ≡ ticket

-- the commit came before an end
abbrev pub IsInTime : Committed → Type 0
IsInTime committed.Fired = Unit {0}
IsInTime committed.Faulted = Unit {0}
IsInTime (committed.Late e) = ⊥

-- and so did the step
abbrev pub IsStepOf : Committed → Stepped → Type 0
IsStepOf committed.Fired did = did ≡ stepped.Fired
IsStepOf committed.Faulted did = did ≡ stepped.Faulted
IsStepOf (committed.Late e) did = ⊥

module _ {H : Type 0} where
  -- the run goes on, and there is memory for so many entries
  pub record GoesOn (n : ℕ) (c : Execution H) : Type 0 where
    pub is_open : IsOpenExecution c
    pub unended : c.end ≡ None
    pub spare : n ≤ c.history.spare

  -- the system with this number is the first that is due
  pub record IsDueAt (at : ℕ) (c : Execution H) : Type 0 where
    pub first : IsFirstOne c.systems.items at
    pub below : fires c.history.entries < c.turns

  -- no system is due, and a firing is pending that nobody has taken
  pub record IsReady (c : Execution H) : Type 0 where
    pub none_due : NoneIsDue c.systems.items
    pub some : c.state.untaken.items ≢ []
    pub below : fires c.history.entries < c.turns

  -- no system is due, and all that is pending was taken, of which the one with this ticket was first
  pub record IsFlying (ticket : ℕ) (c : Execution H) : Type 0 where
    pub none_due : NoneIsDue c.systems.items
    pub none : c.state.untaken.items ≡ []
    pub first : option_map (λ o. o.ticket) (slice_get c.flying.items 0) ≡ Some ticket
    pub below : fires c.history.entries < c.turns

  -- no system is due, and nothing is pending
  pub record IsIdle (c : Execution H) : Type 0 where
    pub none_due : NoneIsDue c.systems.items
    pub none : c.state.untaken.items ≡ []
    pub none_flying : c.flying.items ≡ []
    pub below : fires c.history.entries < c.turns

  -- and this is the next moment that is due
  pub record MayWaitFor (next : ℕ) (c : Execution H) : Type 0 where
    pub idle : IsIdle c
    pub due : next_due c.state.timers ≡ Some next

  -- nothing has happened, but there may be memory for more entries
  pub record IsStill (before after : Execution H) : Type 0 where
    pub entries : after.history.entries ≡ before.history.entries
    pub rest : after ≡ record before { history = after.history }

  -- what an advance comes to: a step that is no firing, or nothing, where a firing is next
  abbrev pub HasAdvanced : Draw H → Option ℕ → Option ℕ → Execution H → Execution H → Advanced → Type 0
  HasAdvanced draw moment moment' before after advanced.Selected = HasStepped draw moment moment' before after stepped.Selected
  HasAdvanced draw moment moment' before after advanced.Waited = HasStepped draw moment moment' before after stepped.Waited
  HasAdvanced draw moment moment' before after advanced.Ready = IsStill before after × (before.end ≡ None) × IsReady before × (moment' ≡ moment)
  HasAdvanced draw moment moment' before after (advanced.Flying ticket) = IsStill before after × (before.end ≡ None) × IsFlying ticket before × (moment' ≡ moment)
  HasAdvanced draw moment moment' before after (advanced.Ended e) = HasStepped draw moment moment' before after (stepped.Ended e)

  -- ---- selections

  -- a selection may come at this moment, by a clock that tells the other one, or none; without delays the moment is 0
  pub record MayBeNow (moment : Option ℕ) (now : ℕ) (c : Execution H) : Type 0 where
    pub no_earlier : c.time.known ≤ now
    pub last : now < 2 ^ 64
    pub undelayed : c.delays ≡ false → now ≡ 0
    pub told : c.delays ≡ true → IfSome moment (λ m. now ≡ max m c.time.known)

  -- the system with this number selects so in the situation that the run has come to, by this chooser, which is left as it is now
  abbrev pub IsSelectedAt : Draw H → ℕ → ℕ → H → Execution H → List Pair → List Wanted → Type 0
  IsSelectedAt draw at moment first c takes wants = (x : System) → slice_get c.systems.items at ≡ Some x → IsSelection draw c.state.program.now c.state.budget (now c) x.path moment first c.chooser takes wants

  -- what a selection comes to, where this chooser was asked for it
  abbrev pub HasSelected : Draw H → ℕ → ℕ → List Pair → List Wanted → Execution H → Execution H → Advanced → Type 0
  HasSelected draw at now takes wants old new did = (first : H) (moment : Option ℕ) → MayBeNow moment now old → IsSelectedAt draw at now first old takes wants → HasAdvanced draw moment moment (record old { chooser = first }) new did

  -- of its guards this is the first that faults
  abbrev pub IsFaultAt : ℕ → Execution H → Path → ℕ → Fault → Type 0
  IsFaultAt at c m n kind = (x : System) → slice_get c.systems.items at ≡ Some x → IsFirstFault c.state.program.now c.state.budget (now c) x.path m n kind

  -- ---- firings that are taken

  -- one was picked of the firings that nobody has taken, this is its job under the next ticket, and there is memory for taking it
  pub record HasChosen (draw : Draw H) (old new : Execution H) (choice : Choice) : Type 0 where
    pub there : slice_get old.state.untaken.items choice.at ≡ Some (pair choice.path choice.job.trans)
    pub picked : Picks draw old.chooser old.state.untaken.items (pair choice.path choice.job.trans) new.chooser
    pub job_is : choice.job ≡ legal.job_of old.state.program.now (now old) (old.tickets + 1) old.state.budget (pair choice.path choice.job.trans)
    pub meets : legal.IsJob old.state.program.now choice.job
    pub in_order : InOrder choice.job.image.parts
    pub number : old.tickets + 1 < 2 ^ 64
    pub entries : new.history.entries ≡ old.history.entries
    pub spare : 1 ≤ new.history.spare
    pub flying : new.flying.items ≡ old.flying.items
    pub room : deque_len new.flying < deque_capacity new.flying
    pub rest : new ≡ record old { history = new.history; flying = new.flying; chooser = new.chooser }

  -- the firing at this place was taken, under the next ticket
  pub record HasTakenAt (at : ℕ) (p : Pair) (old new : Execution H) : Type 0 where
    pub noted : new.history.entries ≡ old.history.entries ++ take_of old.writer (old.tickets + 1) p ∷ []
    pub spare : old.history.spare ≡ new.history.spare + 1
    pub flying : new.flying.items ≡ old.flying.items ++ taken_as old.writer (old.tickets + 1) p ∷ []
    pub stands : (g : Situation) (ps : List Pair) → IsAt g ps old.state → IsAt g (remove ps at) new.state
    pub rest : new ≡ record old { state = record old.state { untaken = new.state.untaken }; history = new.history; tickets = old.tickets + 1; flying = new.flying }

  -- there may be more memory
  pub record HasReserved (old new : Execution H) : Type 0 where
    pub entries : new.history.entries ≡ old.history.entries
    pub at : (g : Situation) (ps : List Pair) → IsAt g ps old.state → IsAt g ps new.state
    pub rest : new ≡ record old { state = record old.state { shared = new.state.shared; notes = new.state.notes }; history = new.history }

  -- ---- what is committed

  -- what was computed may be put, if it ran, and there is memory for its entries
  pub record MaySettle (g : Situation) (c : Execution H) (done : Done) : Type 0 where
    pub may : IsRan done.outcome → MayFire g c.state done
    pub spare : 2 ≤ c.history.spare

  -- it is of the firing that is under way at this place
  pub record IsUnderTicket (at : ℕ) (c : Execution H) (done : Done) : Type 0 where
    pub it : Taken
    pub there : slice_get c.flying.items at ≡ Some it
    pub path : it.path ≡ done.path
    pub trans : it.trans ≡ done.trans

  -- the firing was put and noted, and is no longer under way
  pub record HasFired (g : Situation) (old new : Execution H) (at : ℕ) (done : Done) : Type 0 where
    pub fired : (ps pending : List Pair) → IsAt g ps old.state
        → IsAt (record (after_put old.state.program.now g done).situation { timers = map.remove g.timers (pair done.path done.trans); pending = pending }) ps new.state
    pub flying : new.flying.items ≡ remove old.flying.items at
    pub systems : new.systems.items ≡ each (after_firing done.path (arrivals_of old.state.program.now g done)) old.systems.items
    pub rest : new ≡ record old {
      state = record new.state { program = old.state.program; budget = old.state.budget };
      history = new.history;
      flying = new.flying;
      systems = new.systems;
      time = record old.time { may_wait = true };
      end = end_at old.turns old.end (old.history.entries ++ noted old.writer (event.Fire done.path done.trans (after_put old.state.program.now g done).outs (after_put old.state.program.now g done).drops) ∷ []);
    }
    pub noted : new.history.entries ≡ ended_at old.writer old.turns (old.history.entries ++ noted old.writer (event.Fire done.path done.trans (after_put old.state.program.now g done).outs (after_put old.state.program.now g done).drops) ∷ [])

  -- its fault was noted, which ends the run
  pub record HasFailed (old new : Execution H) (path : Path) (trans : ℕ) (kind : Fault) : Type 0 where
    pub noted : new.history.entries ≡ (old.history.entries ++ noted old.writer (event.Fault path trans kind) ∷ []) ++ ending old.writer (Faulted kind) ∷ []
    pub rest : new ≡ record old { history = new.history; end = Some (Faulted kind) }

  abbrev pub SettledSo : Situation → Execution H → Execution H → ℕ → Done → Outcome → Committed → Type 0
  SettledSo g old new at done (outcome.Ran image effects) did = HasFired g old new at done × (did ≡ committed.Fired)
  SettledSo g old new at done (outcome.Faulted kind) did = HasFailed (record old { flying = new.flying }) new done.path done.trans kind × (did ≡ committed.Faulted)

  abbrev pub HasSettled : Situation → Execution H → Execution H → ℕ → Done → Committed → Type 0
  HasSettled g old new at done did = SettledSo g old new at done done.outcome did

  -- it answers the job of a ticket of the one who notes, which is open where the run goes on, and there is memory for it
  pub record MayCommit (c : Execution H) (done : Done) : Type 0 where
    pub is_open : Contains (open_in c.history.entries) (taken_as c.writer done.ticket (pair done.path done.trans))
    pub job : Job
    pub job_of : IsJobOf c.state.program.now c.state.budget c.history.entries job
    pub answers : Answers c.state.program.now job done
    pub stores : HasRoomFor done.outcome c.state.shared c.state.notes
    pub spare : 2 ≤ c.history.spare

  -- the firing was made in the situation as it was
  pub record HasMade (old new : Execution H) (done : Done) : Type 0 where
    pub keeps : IsExecution new
    pub unended : old.end ≡ None
    pub outs : List Out
    pub drops : List ℕ
    pub arrivals : List Path
    pub fires : runs.MayFire old.state.program.now old.state.budget (now old) done.path done.trans outs drops
    pub systems : new.systems.items ≡ each (after_firing done.path arrivals) old.systems.items
    pub rest : new ≡ record old {
      state = record new.state { program = old.state.program; budget = old.state.budget };
      history = new.history;
      flying = new.flying;
      systems = new.systems;
      time = record old.time { may_wait = true };
      end = end_at old.turns old.end (old.history.entries ++ noted old.writer (event.Fire done.path done.trans outs drops) ∷ []);
    }
    pub noted : new.history.entries ≡ ended_at old.writer old.turns (old.history.entries ++ noted old.writer (event.Fire done.path done.trans outs drops) ∷ [])

  -- or its fault ended the run
  pub record HasFaulted (old new : Execution H) (done : Done) : Type 0 where
    pub keeps : IsExecution new
    pub unended : old.end ≡ None
    pub kind : Fault
    pub is : done.outcome ≡ outcome.Faulted kind
    pub faults : runs.FiringFaults old.state.program.now old.state.budget (now old) done.path done.trans kind
    pub failed : HasFailed (record old { flying = new.flying }) new done.path done.trans kind

  -- what a commit comes to
  abbrev pub HasCommitted : Execution H → Execution H → Done → Committed → Type 0
  HasCommitted old new done committed.Fired = HasMade old new done
  HasCommitted old new done committed.Faulted = HasFaulted old new done
  HasCommitted old new done (committed.Late e) = (old.end ≡ Some e) × (new ≡ old)

  -- ---- the start

  -- nothing has happened yet, and the shared state stands for the situation before the initialization
  pub record IsFresh (s : Subject) (limits : Limits) (chooser : H) (c : Execution H) : Type 0 where
    pub state : IsBare s limits.budget c.state
    pub turns : c.turns ≡ limits.turns
    pub delays : c.delays ≡ has_delays s
    pub systems : c.systems.items ≡ []
    pub time : c.time ≡ first_time
    pub entries : c.history.entries ≡ []
    pub tickets : c.tickets ≡ 0
    pub flying : c.flying.items ≡ []
    pub writer : c.writer ≡ 0
    pub unended : c.end ≡ None
    pub chooser_is : c.chooser ≡ chooser

  -- the start was put and noted
  pub record HasBeenPut (old new : Execution H) (done : Done) : Type 0 where
    pub put : (pending : List Pair) → IsAt (bare old.state.program.now) [] old.state
        → IsAt (record (after_put old.state.program.now (bare old.state.program.now) done).situation { timers = map.remove map.empty (pair done.path done.trans); pending = pending }) [] new.state
    pub noted : new.history.entries ≡ old.history.entries ++ noted old.writer (event.Start (after_put old.state.program.now (bare old.state.program.now) done).outs (after_put old.state.program.now (bare old.state.program.now) done).drops) ∷ []
    pub rest : new ≡ record old { state = record new.state { program = old.state.program; budget = old.state.budget }; history = new.history }

  abbrev pub StartedSo : Execution H → Execution H → Done → Outcome → Type 0
  StartedSo old new done (outcome.Ran image effects) = HasBeenPut old new done
  StartedSo old new done (outcome.Faulted kind) = HasFailed old new [] 0 kind

  abbrev pub HasStarted : Execution H → Execution H → Done → Type 0
  HasStarted old new done = StartedSo old new done done.outcome

  -- all systems are known, where there is no end yet
  abbrev pub FindsSystems : Option End → Execution H → Execution H → Type 0
  FindsSystems None old new = ((g : Situation) → Stands old.state.program.now old.state.shared g → IsLegal old.state.program.now g → new.systems.items ≡ each first_kept (systems_of old.state.program.now g)) × (new ≡ record old { systems = new.systems })
  FindsSystems (Some e) old new = new ≡ old

  abbrev pub HasAllSystems : Execution H → Execution H → Type 0
  HasAllSystems old new = FindsSystems old.end old new

  -- the world of a program within limits has begun with this chooser
  pub record IsBegun (draw : Draw H) (s : Subject) (limits : Limits) (chooser : H) (c : Execution H) : Type 0 where
    pub keeps : IsExecution c
    pub of : IsOfProgram s limits c
    pub begun : (moment : Option ℕ) → HasBegun draw moment chooser c
    pub starts : HasOnlyStarted (start c.state.program.now c.state.budget) c.history.entries c.end
    pub time : c.time ≡ first_time
    pub none : open_in c.history.entries ≡ []
    pub writer : c.writer ≡ 0
    pub unclocked : c.end ≢ Some Clock
