-- What answers a job answers in each legal situation in which its firing finds the same.
use Rattle.std.proofs.Common.{◌≡◌, ℕ, zero, suc, map as each, Ok, Err, Option, Some, None, refl, sym, ap, subst, ◌∙◌}
use Rattle.std.specs.FinMap as map
use Rattle.std.proofs.lemmas.List.Sorted.{IsPermutation-refl, IsPermutation-trans}
use Rattle.pascal_values.specs.declared.fault.Fault.TheVariants.{StepLimit}
use Rattle.estelle_tree.specs.Paths.{Path}
use Rattle.estelle_model.specs.declared.image.Interaction.{Interaction}
use Rattle.estelle_model.specs.declared.job.Job.{Job}
use Rattle.estelle_model.specs.declared.job.Done.{Done}
use Rattle.estelle_model.specs.declared.job.Outcome.{Outcome}
use Rattle.estelle_model.specs.declared.job.Outcome.TheVariants.{Ran, Faulted}
use Rattle.estelle_model.specs.Core.{Instance, Instances}
use Rattle.estelle_model.specs.States.{Logged}
use Rattle.estelle_model.specs.Stops.{told}
use Rattle.estelle_model.specs.Steps as step
use Rattle.estelle_model.specs.Transitions.{Transition}
use Rattle.estelle_model.specs.Subject.{Subject}
use Rattle.estelle_model.specs.Situation.{Situation}
use Rattle.estelle_model.specs.Queues.{Found}
use Rattle.estelle_model.specs.Firing.{transition_at, fire}
use Rattle.estelle_model.specs.Jobs.{part_of_entry, private, taken_by, received_by, all_logged, IsHead, IsJobIn, IsAnswer, Answers, AnswersAt}
use Rattle.estelle_model.specs.Computed.{core_of, start_run, job_run, IsMadeBy, IsOfTransition, IsComputedOf}
use Rattle.estelle_model_legality.specs.Jobs.{image_of}
use Rattle.estelle_model_legality.proofs.Taken.{may_act}
use Rattle.estelle_model_answers.proofs.Answering.{jobs_answered}
use Rattle.estelle_model_apart.specs.Answers.{AnswersHoldLater}

-- no transition of an instance has the number 0
none_receives : (s : Subject) (g : Situation) (p : Path) (head : Option Interaction) (o : Option Instance) → IsHead (received_by s g p (transition_at s 0 o)) head → ⊥
none_receives s g p head None h = h
none_receives s g p head (Some i) h = h

module _ (s : Subject) (g : Situation) (job : Job) (in_it : IsJobIn s g job) where
  -- so the job of a firing is not that of the initialization
  pub not_initial : job.trans ≡ 0 → ⊥
  not_initial is = none_receives s g job.path job.head (map.get g.core.instances job.path)
      (subst (λ (n : ℕ). IsHead (received_by s g job.path (transition_at s n (map.get g.core.instances job.path))) job.head) is in_it.head)

  -- what is computed is what the firing of the job is
  abbrev pub AnswersHere : Outcome → ℕ → Type 0
  AnswersHere out left = IsAnswer s job.path job.trans (taken_by s g job.path (transition_at s job.trans (map.get g.core.instances job.path))) out left (fire s job.budget g job.path job.trans)

  by_number : (k : ℕ) → job.trans ≡ k → (out : Outcome) (left : ℕ) → AnswersAt s job k out left → AnswersHere out left
  by_number zero is out left a = absurd (not_initial is)
  by_number (suc k) is out left a = a g in_it

  pub answer_in : (done : Done) → Answers s job done → AnswersHere done.outcome done.left
  answer_in done a = by_number job.trans refl done.outcome done.left a.answers

-- ---- something is computed of each job

computed : (s : Subject) (o : step.StepResult Logged (Unit {0})) → (out : Outcome) × (left : ℕ) × IsMadeBy s o out left
computed s (Ok r) = (Ran (image_of r.1.state.image) (all_logged s r.1.state.log), r.1.left, (record { parts = refl; links = IsPermutation-refl r.1.state.image.links }, refl, refl))
computed s (Err e) = (Faulted (told e.0), e.1, (refl, refl))

computed_of : (s : Subject) (job : Job) (o : Option Transition) → (out : Outcome) × (left : ℕ) × IsOfTransition s job o out left
computed_of s job None = (Faulted StepLimit, 0, tt)
computed_of s job (Some t) = computed s (job_run s job t)

computed_at : (s : Subject) (job : Job) (k : ℕ) → (out : Outcome) × (left : ℕ) × IsComputedOf s job k out left
computed_at s job zero = computed s (start_run s job.budget)
computed_at s job (suc k) = computed_of s job (transition_at s job.trans (map.get (core_of s job.image).instances job.path))

-- and that is what its firing is
pub some_answer : (s : Subject) (g : Situation) (job : Job) (in_it : IsJobIn s g job) → (out : Outcome) × (left : ℕ) × AnswersHere s g job in_it out left
some_answer s g job in_it =
    let c = computed_at s job job.trans in
    let done : Done = record { ticket = job.ticket; path = job.path; trans = job.trans; outcome = c.0; left = c.1 } in
    (c.0, c.1, answer_in s g job in_it done (jobs_answered s job done refl refl refl c.2))

-- ---- later

pub answers_hold_later : AnswersHoldLater
answers_hold_later s g job in_it done answers later legal same =
    let still : IsJobIn s later job = record {
      legal = may_act s later.core job.path legal.types legal.instances legal.links;
      private = record {
        parts = in_it.private.parts ∙ ap (λ (x : Instances). each part_of_entry (map.entries x)) (sym same.instances);
        links = IsPermutation-trans job.image.links (private s g.core job.path).links (private s later.core job.path).links in_it.private.links same.links;
      };
      head = subst (λ (f : Found). IsHead f job.head) (sym same.received) in_it.head;
    } in
    record { legal = legal; pending = same.pending; in_it = still; answer = answer_in s later job still done answers }
