-- Of the start, and of every pending firing, that runs something is put.
use Rattle.std.proofs.Common.{ℕ, List, [], Ok, Err, None, refl, subst}
use Rattle.std.specs.Prelude.{Contains}
use Rattle.std.specs.FinMap as map
use Rattle.std.proofs.lemmas.List.Sorted.{IsPermutation-refl}
use Rattle.estelle_tree.specs.Paths.{Path}
use Rattle.estelle_tree.specs.Timers.{pair}
use Rattle.estelle_model.specs.declared.effect.Effect.{Effect}
use Rattle.estelle_model.specs.declared.effect.Out.{Out}
use Rattle.estelle_model.specs.declared.image.Image.{Image}
use Rattle.estelle_model.specs.declared.job.Job.{Job}
use Rattle.estelle_model.specs.declared.job.Outcome.{Outcome}
use Rattle.estelle_model.specs.declared.job.Outcome.TheVariants as outcome
use Rattle.estelle_model.specs.States.{Logged}
use Rattle.estelle_model.specs.Stops.{told}
use Rattle.estelle_model.specs.Steps.{StepResult}
use Rattle.estelle_model.specs.Subject.{Subject}
use Rattle.estelle_model.specs.Situation.{Situation}
use Rattle.estelle_model.specs.Firing.{Firing, fire, start, bare, transition_at}
use Rattle.estelle_model.specs.Runs.{HasRun}
use Rattle.estelle_model.specs.Jobs.{taken_by, all_logged, IsPut, IsAnswer}
use Rattle.estelle_model.specs.Computed.{start_run, IsMadeBy}
use Rattle.estelle_model_answers.proofs.Answering.{jobs_answered}
use Rattle.estelle_model_legality.specs.Jobs.{image_of, job_of}
use Rattle.estelle_model_legality.specs.Situations.{IsLegal}
use Rattle.estelle_model_legality.proofs.Taken.{taken}
use Rattle.estelle_model_apart.proofs.Answers.{some_answer}

-- something is put, and the firing is what it comes to
pub record WasPut (s : Subject) (m : Path) (n : ℕ) (g : Situation) (f : Firing) : Type 0 where
  pub image : Image
  pub effects : List Effect
  pub left : ℕ
  pub is_put : IsPut s m n g image effects left f

-- the answer of what has run is no fault
by_answer : (s : Subject) (m : Path) (n : ℕ) (g : Situation) (f : Firing) (outs : List Out) (drops : List ℕ) → HasRun outs drops f → (out : Outcome) (left : ℕ) → IsAnswer s m n g out left f → WasPut s m n g f
by_answer s m n g f outs drops ran (outcome.Ran image effects) left answer = record { image = image; effects = effects; left = left; is_put = answer }
by_answer s m n g f outs drops ran (outcome.Faulted kind) left answer = absurd (subst (HasRun outs drops) answer ran)

-- ---- the start

some_start : (s : Subject) (run : StepResult Logged (Unit {0})) → (out : Outcome) × (left : ℕ) × IsMadeBy s run out left
some_start s (Ok r) = (outcome.Ran (image_of r.1.state.image) (all_logged s r.1.state.log), r.1.left, (record { parts = refl; links = IsPermutation-refl r.1.state.image.links }, refl, refl))
some_start s (Err e) = (outcome.Faulted (told e.0), e.1, (refl, refl))

pub start_put : (s : Subject) (budget : ℕ) (outs : List Out) (drops : List ℕ) → HasRun outs drops (start s budget) → WasPut s [] 0 (bare s) (start s budget)
start_put s budget outs drops ran =
    let job : Job = record { ticket = 0; path = []; trans = 0; image = image_of (bare s).core; head = None; budget = budget } in
    let made = some_start s (start_run s budget) in
    by_answer s [] 0 (bare s) (start s budget) outs drops ran made.0 made.1
    (jobs_answered s job (record { ticket = 0; path = []; trans = 0; outcome = made.0; left = made.1 }) refl refl refl made.2).answers

-- ---- a pending firing

pub fire_put : (s : Subject) (budget : ℕ) (g : Situation) → IsLegal s g → (m : Path) (n : ℕ) → Contains g.pending (pair m n) → (outs : List Out) (drops : List ℕ) → HasRun outs drops (fire s budget g m n)
    → WasPut s m n (taken_by s g m (transition_at s n (map.get g.core.instances m))) (fire s budget g m n)
fire_put s budget g legal m n pending outs drops ran =
    let answer = some_answer s g (job_of s g 0 budget (pair m n)) (taken s g legal 0 budget (pair m n) pending) in
    by_answer s m n (taken_by s g m (transition_at s n (map.get g.core.instances m))) (fire s budget g m n) outs drops ran answer.0 answer.1 answer.2
