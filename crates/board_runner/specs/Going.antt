-- What a turn does to the world that it finds.
use Rattle.std.specs.Prelude.{◌≡◌, ◌≢◌, ℕ, List, [], ◌++◌, All, Result, MatchResult, Contains}
use Rattle.estelle_tree.specs.Timers.{pair}
use Rattle.estelle_model.specs.declared.event.End.{End}
use Rattle.estelle_model.specs.declared.event.End.TheVariants.{Dead, Turns, Faulted, Clock}
use Rattle.estelle_model.specs.declared.job.Job.{Job}
use Rattle.estelle_model.specs.declared.job.Done.{Done}
use Rattle.estelle_model.specs.Jobs.{Answers}
use Rattle.run_history.specs.declared.entry.Entry.{Entry}
use Rattle.run_history.specs.Tickets.{IsJobOf}
use Rattle.run_history.specs.OpenTickets.{open_in}
use Rattle.situation.specs.declared.limits.Committed.{Committed}
use Rattle.situation.specs.Known.{Known, IsOfRun}
use Rattle.situation.specs.Runs.{taken_as}
use Rattle.board_runner.specs.declared.work.Work.{Work}
use Rattle.board_runner.specs.declared.work.Work.TheVariants as work
use Rattle.board_runner.specs.Histories.{base_of}
use Rattle.board_runner.specs.Turns.{Gives, Settles, Exchanges}

-- what an end that an advance tells is to a pass: behind a fault the run has moved
abbrev pub told : End → Work
told (Faulted kind) = work.Moved
told Dead = work.Ended Dead
told Turns = work.Ended Turns
told Clock = work.Ended Clock

module _ {C H : Type 0} where
  -- a world went on by these entries, which bear this number, and is kept
  pub record HasGoneOn (number : ℕ) (before after : Known C H) (added : List Entry) : Type 0 where
    pub base : base_of after ≡ base_of before
    pub writer : after.writer ≡ number
    pub entries : after.history.entries ≡ before.history.entries ++ added
    pub own : All (λ e. e.by ≡ number) added
    pub keeps : IsOfRun after

  -- what the world gives, or nothing
  pub record HasGiven {X : Type 0} (number : ℕ) (before after : Known C H) (answer : Result Work X) : Type 0 where
    pub added : List Entry
    pub gone : HasGoneOn number before after added
    pub gives : MatchResult answer (Gives (base_of before) number after.time.waited before.history.entries added) (λ _. added ≡ [])

  -- this number's ticket is open behind the first of the entries, none of those that follow is its own, and what was done answers the job
  pub record MayCommit (number : ℕ) (w : Known C H) (done : Done) : Type 0 where
    pub seen : List Entry
    pub more : List Entry
    pub entries : w.history.entries ≡ seen ++ more
    pub others : All (λ e. e.by ≢ number) more
    pub is_open : Contains (open_in seen) (taken_as number done.ticket (pair done.path done.trans))
    pub job : Job
    pub job_of : IsJobOf w.subject w.limits.budget seen job
    pub answers : Answers w.subject job done

  -- it was settled, or it comes back
  pub record HasSettled (number : ℕ) (before after : Known C H) (done : Done) (answer : Result Committed Done) : Type 0 where
    pub added : List Entry
    pub gone : HasGoneOn number before after added
    pub settles : MatchResult answer (Settles (base_of before) number before.history.entries added done) (λ d. (added ≡ []) × (d ≡ done))

  -- it was settled and then the world gave something, or it comes back
  pub record HasExchanged {X : Type 0} (number : ℕ) (before after : Known C H) (done : Done) (answer : Result (Committed × Result Work X) Done) : Type 0 where
    pub first : List Entry
    pub second : List Entry
    pub gone : HasGoneOn number before after (first ++ second)
    pub exchanges : Exchanges (base_of before) number after.time.waited before.history.entries first second done answer
