-- Jobs by what is asked, and which of them may be fired.
use Rattle.std.specs.Prelude.{◌<◌, ℕ, Option}
use Rattle.estelle_tree.specs.Paths.{Path}
use Rattle.estelle_model.specs.declared.image.Image.{Image}
use Rattle.estelle_model.specs.declared.image.Interaction.{Interaction}
use Rattle.estelle_model.specs.declared.job.Job.{Job}
use Rattle.estelle_model.specs.Subject.{Subject}
use Rattle.estelle_model_legality.specs.Jobs.{IsJob}
use Rattle.body_state.specs.InOrder.{InOrder}

-- a job whose ticket does not matter
abbrev pub job_of : Path → ℕ → Image → Option Interaction → ℕ → Job
job_of path trans image head budget = record { ticket = 0; path = path; trans = trans; image = image; head = head; budget = budget }

-- a firing asks of a job only that its parts stand in path order
abbrev pub MayBeFired : Job → Type 0
MayBeFired job = 0 < job.trans → InOrder job.image.parts

-- each job that meets the condition of a job may be fired
abbrev pub JobsMayBeFired : Type 0
JobsMayBeFired = (s : Subject) (job : Job) → IsJob s job → MayBeFired job
