-- What was computed of a pending firing answers in later situations too.
use Rattle.std.specs.Prelude.{ℕ, List, ◌++◌, Contains}
use Rattle.std.specs.List.{AllByRecursion}
use Rattle.std.specs.FinMap as map
use Rattle.estelle_tree.specs.Timers.{pair}
use Rattle.estelle_model.specs.declared.event.Event.{Event}
use Rattle.estelle_model.specs.declared.job.Job.{Job}
use Rattle.estelle_model.specs.declared.job.Done.{Done}
use Rattle.estelle_model.specs.Subject.{Subject}
use Rattle.estelle_model.specs.Situation.{Situation}
use Rattle.estelle_model.specs.Firing.{transition_at, fire}
use Rattle.estelle_model.specs.Jobs.{taken_by, IsJobIn, IsAnswer, Answers}
use Rattle.estelle_model.specs.Runs.{IsRun, situation}
use Rattle.estelle_model_legality.specs.Instances.{LeadsToStates}
use Rattle.estelle_model_legality.specs.Situations.{IsLegal}
use Rattle.estelle_model_apart.specs.Apart.{IsOther, FindsTheSame}

-- in this legal situation the firing is pending, the job is its job, and what was computed of that is what the firing is
pub record AnswersAsOf (s : Subject) (g : Situation) (job : Job) (done : Done) : Type 0 where
  pub legal : IsLegal s g
  pub pending : Contains g.pending (pair job.path job.trans)
  pub in_it : IsJobIn s g job
  pub answer : IsAnswer s job.path job.trans (taken_by s g job.path (transition_at s job.trans (map.get g.core.instances job.path))) done.outcome done.left (fire s job.budget g job.path job.trans)

-- what answers a job of one situation answers in each legal one in which its firing finds the same
abbrev pub AnswersHoldLater : Type 0
AnswersHoldLater = (s : Subject) (g : Situation) (job : Job) → IsJobIn s g job → (done : Done) → Answers s job done
    → (later : Situation) → IsLegal s later → FindsTheSame s job.path job.trans g later → AnswersAsOf s later job done

-- so in a run what was computed of a firing that was pending answers until that firing is made
abbrev pub AnswersHoldInRuns : Type 0
AnswersHoldInRuns = (s : Subject) → LeadsToStates s → (budget : ℕ) (before more : List Event) → IsRun s budget (before ++ more)
    → (job : Job) → IsJobIn s (situation s budget before) job → Contains (situation s budget before).pending (pair job.path job.trans)
    → AllByRecursion (IsOther job.path job.trans) more → (done : Done) → Answers s job done → AnswersAsOf s (situation s budget (before ++ more)) job done
