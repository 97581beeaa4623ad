-- What is computed of a job: its block is run on a log that begins with what the image shows.
use Rattle.std.specs.Prelude.{◌≡◌, ℕ, zero, suc, List, [], fold, Option, Some, None, Ok, Err}
use Rattle.std.specs.FinMap as map
use Rattle.pascal_values.specs.declared.value.Value.{Value}
use Rattle.estelle_model.specs.declared.image.Image.{Image}
use Rattle.estelle_model.specs.declared.image.Interaction.{Interaction}
use Rattle.estelle_model.specs.declared.job.Job.{Job}
use Rattle.estelle_model.specs.declared.job.Outcome.{Outcome}
use Rattle.estelle_model.specs.declared.job.Outcome.TheVariants as outcome
use Rattle.estelle_model.specs.Core.{Core}
use Rattle.estelle_model.specs.States.{Logged, on_log}
use Rattle.estelle_model.specs.Stops.{told}
use Rattle.estelle_model.specs.Steps as step
use Rattle.estelle_model.specs.Blocks.{fresh}
use Rattle.estelle_model.specs.Transitions.{Transition}
use Rattle.estelle_model.specs.Subject.{Subject, types_of_variables}
use Rattle.estelle_model.specs.Clauses.{fire_step, start_step}
use Rattle.estelle_model.specs.Firing.{transition_at, bare}
use Rattle.estelle_model.specs.Jobs.{Shows, insert_part, all_logged}

-- the instances and links that an image shows
abbrev pub core_of : Subject → Image → Core
core_of s image = record { instances = fold insert_part map.empty image.parts; links = image.links; types = types_of_variables s }

-- a log that begins with these instances and links
abbrev pub log_from : Core → Logged
log_from c = record { image = c; log = [] }

-- the values of the interaction that is received, if one is
abbrev pub values_of : Option Interaction → List Value
values_of None = []
values_of (Some i) = i.values

-- the start on a log
abbrev pub start_run : Subject → ℕ → step.StepResult Logged (Unit {0})
start_run s budget = start_step Logged on_log s (fresh (log_from (bare s).core) budget)

-- the transition of a job on a log
abbrev pub job_run : Subject → Job → Transition → step.StepResult Logged (Unit {0})
job_run s job t = fire_step Logged on_log s job.path t (values_of job.head) (fresh (log_from (core_of s job.image)) job.budget)

-- the outcome is what a run on the log came to: its image, and all its effects
abbrev pub IsMadeBy : Subject → step.StepResult Logged (Unit {0}) → Outcome → ℕ → Type 0
IsMadeBy s (Ok r) (outcome.Ran image effects) left = Shows image r.1.state.image × (effects ≡ all_logged s r.1.state.log) × (left ≡ r.1.left)
IsMadeBy s (Err e) (outcome.Faulted kind) left = (kind ≡ told e.0) × (left ≡ e.1)
IsMadeBy s _ _ left = ⊥

-- where there is no such transition, nothing is asked
abbrev pub IsOfTransition : Subject → Job → Option Transition → Outcome → ℕ → Type 0
IsOfTransition s job None outcome left = Unit {0}
IsOfTransition s job (Some t) outcome left = IsMadeBy s (job_run s job t) outcome left

-- the outcome of the job with a transition's number is computed on a log; transition 0 is the initialization of the specification
abbrev pub IsComputedOf : Subject → Job → ℕ → Outcome → ℕ → Type 0
IsComputedOf s job zero outcome left = IsMadeBy s (start_run s job.budget) outcome left
IsComputedOf s job (suc n) outcome left = IsOfTransition s job (transition_at s job.trans (map.get (core_of s job.image).instances job.path)) outcome left
