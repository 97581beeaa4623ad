-- What a worker has to do.
use Rattle.std.specs.Prelude.{◌≡◌, Contains}
use Rattle.estelle_tree.specs.Timers.{pair}
use Rattle.estelle_model.specs.declared.job.Job.{Job}
use Rattle.estelle_model_legality.specs.Jobs.{IsJob}
use Rattle.run_history.specs.declared.entry.Entry.{Entry}
use Rattle.run_history.specs.Tickets.{IsJobOf}
use Rattle.run_history.specs.OpenTickets.{open_in}
use Rattle.situation.specs.Runs.{taken_as}
use Rattle.turn_board.specs.declared.views.Own.{Own}
use Rattle.turn_board.specs.declared.pass.PassOf.{PassOf}
use Rattle.turn_board.specs.Passes.{own, board_of, IsIdle}
use Rattle.board_runner.specs.declared.work.Work.{Work}
use Rattle.board_runner.specs.declared.work.Work.TheVariants as work
use Rattle.board_runner.specs.Histories.{Base, subject_of, budget_of}

-- the pass has come back from turns: it has none, and its board, its number and what it knows of the fixed part are as before
module _ {V B E : Type 0} where
  pub record IsSamePass (before after : PassOf V B E) : Type 0 where
    pub board : board_of after ≡ board_of before
    pub idle : IsIdle after
    pub number : (own after).number ≡ (own before).number
    pub base : (own after).base ≡ (own before).base

module _ {V : Type 0} where
  -- the pass took the job's ticket, which is open in what it has seen, and the job is its
  pub record HasJob (o : Own V Base Entry) (job : Job) : Type 0 where
    pub is_open : Contains (open_in o.seen) (taken_as o.number job.ticket (pair job.path job.trans))
    pub job_of : IsJobOf (subject_of o.base) (budget_of o.base) o.seen job
    pub meets : IsJob (subject_of o.base) job

  abbrev pub HasWork : Own V Base Entry → Work → Type 0
  HasWork o (work.Job job) = HasJob o job
  HasWork o work.Moved = Unit {0}
  HasWork o (work.Idle ticket) = Unit {0}
  HasWork o (work.Ended end) = Unit {0}
