-- What a caller knows of a world.
use Rattle.std.specs.Prelude.{◌≡◌, ◌≢◌, ◌<◌, ◌≤◌, ℕ, true, ◌+◌, ◌*◌, ◌^◌, List, [], ◌∷◌, ◌++◌, length, slice_get, option_map, Option, Some, None, Contains}
use Rattle.pascal_values.specs.declared.fault.Fault.{Fault}
use Rattle.estelle_tree.specs.Timers.{pair}
use Rattle.estelle_tree.specs.declared.transition.Pair.{Pair}
use Rattle.estelle_model.specs.declared.effect.Out.{Out}
use Rattle.estelle_model.specs.declared.event.Event.TheVariants as event
use Rattle.estelle_model.specs.declared.event.End.{End}
use Rattle.estelle_model.specs.declared.event.End.TheVariants.{Clock, Faulted}
use Rattle.estelle_model.specs.declared.job.Job.{Job}
use Rattle.estelle_model.specs.declared.job.Done.{Done}
use Rattle.estelle_model.specs.declared.job.Outcome.TheVariants as outcome
use Rattle.estelle_model.specs.Subject.{Subject}
use Rattle.estelle_model.specs.Situation.{Situation}
use Rattle.estelle_model.specs.Firing.{start}
use Rattle.estelle_model.specs.Jobs.{Answers}
use Rattle.estelle_model.specs.Runs.{MayFire, FiringFaults, situation}
use Rattle.estelle_model.specs.Choosers.{Draw, Picks}
use Rattle.estelle_model.specs.Schedule.{NoneDue}
use Rattle.estelle_model_legality.specs.Instances.{LeadsToStates}
use Rattle.estelle_model_legality.specs.Jobs.{IsJob}
use Rattle.effect_log.specs.declared.shared.Shared.{Shared}
use Rattle.effect_log.specs.declared.notes.Notes.{Notes}
use Rattle.effect_log.specs.Rooms as rooms
use Rattle.run_history.specs.declared.entry.Entry.{Entry}
use Rattle.run_history.specs.Histories.{History, project, fires}
use Rattle.run_history.specs.Tickets.{tickets, IsJobOf}
use Rattle.run_history.specs.OpenTickets.{open_in, untaken}
use Rattle.situation_steps.specs.declared.systems.System.{System}
use Rattle.situation_steps.specs.declared.systems.Time.{Time}
use Rattle.situation_steps.specs.Laws.{first_time}
use Rattle.situation.specs.declared.limits.Limits.{Limits}
use Rattle.situation.specs.declared.limits.Stepped.{Stepped}
use Rattle.situation.specs.declared.limits.Stepped.TheVariants as stepped
use Rattle.situation.specs.declared.limits.Advanced.{Advanced}
use Rattle.situation.specs.declared.limits.Advanced.TheVariants as advanced
use Rattle.situation.specs.declared.limits.Committed.{Committed}
use Rattle.situation.specs.declared.limits.Committed.TheVariants as committed
use Rattle.situation.specs.Planned.{IsPlannedOn}
use Rattle.situation.specs.Runs.{noted, ending, take_of, taken_as, ended_at, end_at, IsGoing, IsClosed, AreAllTaken, AreReached}
use Rattle.situation.specs.Worlds.{Adds, Waits, HasOnlyStarted, work}

-- what the stores and the notes of a run have memory for, of which callers read nothing but by `HasRoomFor`
pub record Room : Type 0 where
  pub shared : Shared
  pub notes : Notes

-- a run of a specification as far as it came, with its chooser and its clock
pub record Known (C H : Type 0) : Type 0 where
  pub subject : Subject
  pub limits : Limits
  pub history : History
  pub end : Option End
  pub time : Time
  -- all systems, in path order
  pub systems : List System
  pub chooser : H
  pub clock : C
  -- how often the clock had failed when the world was begun
  pub first : ℕ
  -- who notes what comes
  pub writer : ℕ
  pub room : Room

module _ {C H : Type 0} where
  -- the run goes on: bodies lead to states of their own, no count comes to its end, and each firing was taken under a ticket
  pub record IsUnended (w : Known C H) : Type 0 where
    pub leads : LeadsToStates w.subject
    pub room : w.limits.budget * (w.limits.turns + 1) < 2 ^ 63
    pub going : IsGoing w.subject w.limits.budget w.limits.turns w.history.entries w.time w.systems
    -- and is under way, or was made
    pub taken : length (tickets w.history.entries) ≡ fires w.history.entries + length (open_in w.history.entries)

  -- the run has ended so, and the same is known of its bodies, counts and tickets
  pub record IsEnded (w : Known C H) (e : End) : Type 0 where
    pub leads : LeadsToStates w.subject
    pub room : w.limits.budget * (w.limits.turns + 1) < 2 ^ 63
    pub closed : IsClosed w.subject w.limits.budget w.limits.turns w.history.entries w.time.waited e
    pub taken : AreAllTaken e w.history.entries (length (tickets w.history.entries))

  abbrev pub IsKnownBy : Known C H → Option End → Type 0
  IsKnownBy w None = IsUnended w
  IsKnownBy w (Some e) = IsEnded w e

  -- its history is that of a run that goes on, or that ended so
  abbrev pub IsOfRun : Known C H → Type 0
  IsOfRun w = IsKnownBy w w.end

  -- it is of this specification, within these limits
  pub record IsWithinLimits (s : Subject) (limits : Limits) (w : Known C H) : Type 0 where
    pub subject : w.subject ≡ s
    pub same : w.limits ≡ limits

  -- from this chooser and a clock that tells the first moment, or none, the planned steps lead to it
  abbrev pub IsReachedBy : Draw H → (C → Option ℕ) → Option ℕ → H → Known C H → Type 0
  IsReachedBy draw moment clock first w = AreReached draw w.subject w.limits.budget w.limits.turns clock first w.history.entries w.chooser w.time (moment w.clock)

  -- no more has happened than the start, and no time has passed
  pub record IsAtStart (w : Known C H) : Type 0 where
    pub starts : HasOnlyStarted (start w.subject w.limits.budget) w.history.entries w.end
    pub time : w.time ≡ first_time

  -- how many steps there can be before it ends
  abbrev pub left_to_do : Known C H → ℕ
  left_to_do w = work w.limits.turns (fires w.history.entries) w.systems w.time.may_wait w.end

  -- a step that is not the end leaves less to do
  abbrev pub LeavesLess : Known C H → Known C H → Stepped → Type 0
  LeavesLess before after (stepped.Ended e) = after.end ≡ Some e
  LeavesLess before after did = left_to_do after < left_to_do before

  -- a step is the planned one, by the chooser, the time and the clock of the run as it is
  pub record IsPlannedStep (draw : Draw H) (moment : C → Option ℕ) (before after : Known C H) (did : Stepped) : Type 0 where
    pub subject : after.subject ≡ before.subject
    pub limits : after.limits ≡ before.limits
    pub first : after.first ≡ before.first
    pub writer : after.writer ≡ before.writer
    pub planned : IsPlannedOn draw before.subject before.limits.budget before.limits.turns before.history.entries before.chooser before.time (moment before.clock) after.history.entries after.chooser after.time (moment after.clock) did
    pub leaves : LeavesLess before after did
    -- and it adds what it tells
    pub adds : Adds before.writer before.limits.turns before.end before.history.entries after.history.entries did
    pub waits : Waits before.subject before.limits.budget before.history.entries before.time after.time did
    -- it has ended by the clock only if it says so
    pub ends : after.end ≡ Some Clock → did ≡ stepped.Ended Clock

  -- nothing has happened, but there may be more memory
  abbrev pub IsStill : Known C H → Known C H → Type 0
  IsStill before after = (after ≡ record before { history = after.history; room = after.room }) × (after.history.entries ≡ before.history.entries)

  -- after a refusal the run is as before
  pub record IsAsBefore (before after : Known C H) : Type 0 where
    pub subject : after.subject ≡ before.subject
    pub limits : after.limits ≡ before.limits
    pub first : after.first ≡ before.first
    pub writer : after.writer ≡ before.writer
    pub entries : after.history.entries ≡ before.history.entries
    pub end : after.end ≡ before.end
    pub time : after.time ≡ before.time
    pub systems : after.systems ≡ before.systems

  -- ---- firings that are taken

  -- the situation that the run has come to
  abbrev pub situation_of : Known C H → Situation
  situation_of w = situation w.subject w.limits.budget (project w.history.entries)

  -- the firings that are pending in it and were not taken
  abbrev pub untaken_in : Known C H → List Pair
  untaken_in w = untaken (open_in w.history.entries) (situation_of w).pending

  -- the run goes on below the limit of firings, and no system is due
  pub record HasNoneDue (w : Known C H) : Type 0 where
    pub unended : w.end ≡ None
    pub below : fires w.history.entries < w.limits.turns
    pub none_due : NoneDue w.subject w.limits.budget (project w.history.entries) w.time.waited

  -- and a firing is pending that nobody has taken
  pub record IsReady (w : Known C H) : Type 0 where
    pub next : HasNoneDue w
    pub some : untaken_in w ≢ []

  -- or all that are pending were taken, of which the one with this ticket was first
  pub record IsFlying (ticket : ℕ) (w : Known C H) : Type 0 where
    pub next : HasNoneDue w
    pub none : untaken_in w ≡ []
    pub first : option_map (λ o. o.ticket) (slice_get (open_in w.history.entries) 0) ≡ Some ticket

  -- what an advance comes to: a step that is no firing, or nothing, where a firing is next
  abbrev pub IsPlannedAdvance : Draw H → (C → Option ℕ) → Known C H → Known C H → Advanced → Type 0
  IsPlannedAdvance draw moment before after advanced.Selected = IsPlannedStep draw moment before after stepped.Selected
  IsPlannedAdvance draw moment before after advanced.Waited = IsPlannedStep draw moment before after stepped.Waited
  IsPlannedAdvance draw moment before after advanced.Ready = IsStill before after × IsReady after
  IsPlannedAdvance draw moment before after (advanced.Flying ticket) = IsStill before after × IsFlying ticket after
  IsPlannedAdvance draw moment before after (advanced.Ended e) = IsPlannedStep draw moment before after (stepped.Ended e)

  -- the chooser picked one of the firings that nobody had taken, it was taken under the next ticket, and this is its job, which meets the condition of a job
  pub record HasTaken (draw : Draw H) (before after : Known C H) (job : Job) : Type 0 where
    pub picked : Picks draw before.chooser (untaken_in before) (pair job.path job.trans) after.chooser
    pub ticket : job.ticket ≡ length (tickets before.history.entries) + 1
    pub noted : after.history.entries ≡ before.history.entries ++ take_of before.writer job.ticket (pair job.path job.trans) ∷ []
    -- that ticket is open, and the job is its
    pub is_open : Contains (open_in after.history.entries) (taken_as before.writer job.ticket (pair job.path job.trans))
    pub job_of : IsJobOf after.subject after.limits.budget after.history.entries job
    pub meets : IsJob after.subject job
    pub rest : after ≡ record before { history = after.history; chooser = after.chooser; room = after.room }

  -- the ticket is open, and was taken by the one who notes what comes
  abbrev pub IsOpenBy : Known C H → Done → Type 0
  IsOpenBy w done = Contains (open_in w.history.entries) (taken_as w.writer done.ticket (pair done.path done.trans))

  -- it answers the job of its ticket
  abbrev pub IsAnswerIn : Known C H → Done → Type 0
  IsAnswerIn w done = (job : Job) × IsJobOf w.subject w.limits.budget w.history.entries job × Answers w.subject job done

  -- there is memory for what it puts, and for its entries
  pub record HasRoomFor (w : Known C H) (done : Done) : Type 0 where
    pub stores : rooms.HasRoomFor done.outcome w.room.shared w.room.notes
    pub entries : 2 ≤ w.history.spare

  -- what was done is noted by these entries, and this is the end then, if there is one; who notes, and what it chooses by, is as before
  pub record GoesOnTo (before after : Known C H) (entries : List Entry) (end : Option End) (time : Time) : Type 0 where
    pub unended : before.end ≡ None
    pub noted : after.history.entries ≡ entries
    pub rest : after ≡ record before { history = after.history; end = end; time = time; systems = after.systems; room = after.room }

  -- what a commit comes to: behind an end nothing, else the firing or its fault, as it is in the situation now
  abbrev pub HasCommitted : Known C H → Known C H → Done → Committed → Type 0
  HasCommitted before after done committed.Fired = (outs : List Out) × (drops : List ℕ) × MayFire before.subject before.limits.budget (situation_of before) done.path done.trans outs drops
      × GoesOnTo before after
      (ended_at before.writer before.limits.turns (before.history.entries ++ noted before.writer (event.Fire done.path done.trans outs drops) ∷ []))
      (end_at before.limits.turns before.end (before.history.entries ++ noted before.writer (event.Fire done.path done.trans outs drops) ∷ []))
      (record before.time { may_wait = true })
  HasCommitted before after done committed.Faulted = (kind : Fault) × (done.outcome ≡ outcome.Faulted kind) × FiringFaults before.subject before.limits.budget (situation_of before) done.path done.trans kind
      × GoesOnTo before after
      ((before.history.entries ++ noted before.writer (event.Fault done.path done.trans kind) ∷ []) ++ ending before.writer (Faulted kind) ∷ [])
      (Some (Faulted kind)) before.time
  HasCommitted before after done (committed.Late e) = (before.end ≡ Some e) × (after ≡ before)

-- ---- laws

-- a planned step leads on from what the planned steps lead to
abbrev pub PlannedStepsReach : Type 0 → Type 0 → Type 0
PlannedStepsReach C H = (draw : Draw H) (moment : C → Option ℕ) (clock : Option ℕ) (first : H) (before after : Known C H) (did : Stepped)
    → IsReachedBy draw moment clock first before → IsPlannedStep draw moment before after did → IsReachedBy draw moment clock first after
