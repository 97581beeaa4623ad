-- What is computed apart from the situation answers for it.
use Rattle.std.specs.Prelude.{◌≡◌, ℕ, Bool, List}
use Rattle.pascal_values.specs.declared.value.Value.{Value}
use Rattle.estelle_tree.specs.Paths.{Path}
use Rattle.estelle_model.specs.declared.image.Image.{Image}
use Rattle.estelle_model.specs.declared.job.Job.{Job}
use Rattle.estelle_model.specs.declared.job.Done.{Done}
use Rattle.estelle_model.specs.States.{Logged, on_log}
use Rattle.estelle_model.specs.Blocks.{fresh}
use Rattle.estelle_model.specs.Transitions.{Transition}
use Rattle.estelle_model.specs.Subject.{Subject}
use Rattle.estelle_model.specs.Clauses.{guard_step, answered}
use Rattle.estelle_model.specs.Situation.{Situation}
use Rattle.estelle_model.specs.Firing.{guard_with}
use Rattle.estelle_model.specs.Jobs.{MayActAlone, Shows, private, Answers}
use Rattle.estelle_model.specs.Computed.{core_of, log_from, IsComputedOf}

-- what the block of a job comes to on a log that begins with the private part answers the job, whatever statements it has
abbrev pub JobsAreAnswered : Type 0
JobsAreAnswered = (s : Subject) (job : Job) (done : Done) → done.ticket ≡ job.ticket → done.path ≡ job.path → done.trans ≡ job.trans → IsComputedOf s job job.trans done.outcome done.left → Answers s job done

-- `provided` and the delay of a transition come to the same on such a log as in each situation with this private part
abbrev pub GuardsAreAnswered : Type 0
GuardsAreAnswered = (s : Subject) (g : Situation) (p : Path) (image : Image) → MayActAlone s g.core p → Shows image (private s g.core p) → (t : Transition) (values : List Value) (timed : Bool) (budget : ℕ) →
    answered (guard_step Logged on_log s p t values timed (fresh (log_from (core_of s image)) budget)) ≡ guard_with s budget g p t timed values
