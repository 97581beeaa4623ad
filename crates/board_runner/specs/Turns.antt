-- Turns of a pass at a world on a board: what a turn adds to the history that it finds.
use Rattle.std.specs.Prelude.{◌≡◌, ◌⊎◌, ℕ, ◌+◌, List, [], ◌∷◌, ◌++◌, length, slice_get, option_map, Some, None, Contains, Result, MatchResult}
use Rattle.pascal_values.specs.declared.fault.Fault.{Fault}
use Rattle.estelle_tree.specs.Paths.{Path}
use Rattle.estelle_tree.specs.Timers.{pair}
use Rattle.estelle_tree.specs.declared.transition.Pair.{Pair}
use Rattle.estelle_model.specs.declared.effect.Out.{Out}
use Rattle.estelle_model.specs.declared.event.Event.TheVariants as event
use Rattle.estelle_model.specs.declared.event.End.{End}
use Rattle.estelle_model.specs.declared.event.End.TheVariants.{Faulted}
use Rattle.estelle_model.specs.declared.job.Job.{Job}
use Rattle.estelle_model.specs.declared.job.Done.{Done}
use Rattle.estelle_model.specs.declared.job.Outcome.TheVariants as outcome
use Rattle.estelle_model.specs.Jobs.{Answers}
use Rattle.estelle_model.specs.Runs.{MayFire, FiringFaults}
use Rattle.estelle_model_legality.specs.Jobs.{IsJob}
use Rattle.run_history.specs.declared.entry.Entry.{Entry}
use Rattle.run_history.specs.Tickets.{tickets, IsJobOf}
use Rattle.run_history.specs.OpenTickets.{open_in}
use Rattle.situation.specs.declared.limits.Committed.{Committed}
use Rattle.situation.specs.declared.limits.Committed.TheVariants as committed
use Rattle.situation.specs.Runs.{noted, ending, take_of, taken_as, ended_at}
use Rattle.turn_board.specs.declared.views.Own.{Own}
use Rattle.turn_board.specs.Accounts.{Turned}
use Rattle.board_runner.specs.declared.work.Work.{Work}
use Rattle.board_runner.specs.declared.work.Work.TheVariants as work
use Rattle.board_runner.specs.Histories.{Base, subject_of, budget_of, turns_of, end_in, IsHistory, situation_after, untaken_after, HaveNoneDue}

-- ---- turns

-- A whole turn of the pass `o`, which is `now` then: it found these entries and added those, which bear its number, and they are the
-- history of a run, of which the last wait for the clock came after so many events.
pub record IsTurn {V : Type 0} (o : Own V Base Entry) (found added : List Entry) (waited : ℕ) (now : Own V Base Entry) : Type 0 where
  pub turned : Turned (λ e. e.by) o found added now
  pub history : IsHistory o.base waited (found ++ added)

-- ---- what a turn gives

module _ (b : Base) (number waited : ℕ) (found added : List Entry) where
  -- of the firings that nobody had taken, one was taken under the next ticket, and this is its job, which meets the condition of a job
  pub record GivesJob (job : Job) : Type 0 where
    pub next : HaveNoneDue b waited found
    pub untaken : Contains (untaken_after b found) (pair job.path job.trans)
    pub ticket : job.ticket ≡ length (tickets found) + 1
    pub noted : added ≡ take_of number job.ticket (pair job.path job.trans) ∷ []
    -- that ticket is open, and the job is its
    pub is_open : Contains (open_in (found ++ added)) (taken_as number job.ticket (pair job.path job.trans))
    pub job_of : IsJobOf (subject_of b) (budget_of b) (found ++ added) job
    pub meets : IsJob (subject_of b) job

  -- a system selected, or the first guard that faulted ended the run
  abbrev pub HasMoved : Type 0
  HasMoved = ((system : Path) × (now : ℕ) × (takes : List Pair) × (added ≡ noted number (event.Select system now takes) ∷ []))
      ⊎ ((path : Path) × (trans : ℕ) × (kind : Fault) × (added ≡ noted number (event.Fault path trans kind) ∷ ending number (Faulted kind) ∷ []))

  -- all firings that are pending were taken, and of those under way the one with this ticket was first
  pub record FindsOthersAtWork (ticket : ℕ) : Type 0 where
    pub next : HaveNoneDue b waited found
    pub none : untaken_after b found ≡ []
    pub first : option_map (λ o. o.ticket) (slice_get (open_in found) 0) ≡ Some ticket
    pub same : added ≡ []

  -- the run had ended so, or ends so now, by no fault
  pub record FindsEnd (e : End) : Type 0 where
    pub ended : end_in (found ++ added) ≡ Some e
    pub noted : (added ≡ []) ⊎ (added ≡ ending number e ∷ [])

  abbrev pub Gives : Work → Type 0
  Gives (work.Job job) = GivesJob job
  Gives work.Moved = HasMoved
  Gives (work.Idle ticket) = FindsOthersAtWork ticket
  Gives (work.Ended e) = FindsEnd e

-- ---- what a turn settles

-- the pass took it, its ticket is open in what the pass has seen, and it answers the job of the ticket there
pub record IsToCommit {V : Type 0} (o : Own V Base Entry) (done : Done) : Type 0 where
  pub is_open : Contains (open_in o.seen) (taken_as o.number done.ticket (pair done.path done.trans))
  pub job : Job
  pub job_of : IsJobOf (subject_of o.base) (budget_of o.base) o.seen job
  pub answers : Answers (subject_of o.base) job done

module _ (b : Base) (number : ℕ) (found added : List Entry) (done : Done) where
  -- the firing, as it is in the situation that was found, and behind it the end where it is the last one within the limit
  pub record Fires : Type 0 where
    pub unended : end_in found ≡ None
    pub outs : List Out
    pub drops : List ℕ
    pub may : MayFire (subject_of b) (budget_of b) (situation_after b found) done.path done.trans outs drops
    pub noted : found ++ added ≡ ended_at number (turns_of b) (found ++ noted number (event.Fire done.path done.trans outs drops) ∷ [])

  -- or its fault there, and the end
  pub record Faults : Type 0 where
    pub unended : end_in found ≡ None
    pub kind : Fault
    pub is : done.outcome ≡ outcome.Faulted kind
    pub faults : FiringFaults (subject_of b) (budget_of b) (situation_after b found) done.path done.trans kind
    pub noted : added ≡ noted number (event.Fault done.path done.trans kind) ∷ ending number (Faulted kind) ∷ []

  -- or nothing, where the run had ended so
  pub record IsLate (e : End) : Type 0 where
    pub ended : end_in found ≡ Some e
    pub same : added ≡ []

  abbrev pub Settles : Committed → Type 0
  Settles committed.Fired = Fires
  Settles committed.Faulted = Faults
  Settles (committed.Late e) = IsLate e

-- ---- a turn that settles a firing and then gives something

abbrev pub Exchanges : {X : Type 0} → Base → ℕ → ℕ → List Entry → List Entry → List Entry → Done → Result (Committed × Result Work X) Done → Type 0
Exchanges b number waited found first second done answer =
    MatchResult answer
    (λ r. Settles b number found first done r.0 × MatchResult r.1 (Gives b number waited (found ++ first) second) (λ _. second ≡ []))
    (λ d. (first ≡ []) × (second ≡ []) × (d ≡ done))
