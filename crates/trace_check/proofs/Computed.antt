-- What is computed of a pending firing is that firing.
use Rattle.std.proofs.Common.{◌≡◌, ℕ, zero, suc, ◌+◌, List, [], ◌∷◌, Option, Some, None, refl, sym, ap, subst, ◌∙◌, arith}
use Rattle.std.specs.Prelude.{Contains}
use Rattle.std.specs.FinMap as map
use Rattle.pascal_values.specs.declared.fault.Fault.{Fault}
use Rattle.estelle_tree.specs.Paths.{Path}
use Rattle.estelle_tree.specs.Timers.{pair}
use Rattle.estelle_model.specs.declared.effect.Out.{Out}
use Rattle.estelle_model.specs.declared.job.Done.{Done}
use Rattle.estelle_model.specs.declared.job.Outcome.{Outcome}
use Rattle.estelle_model.specs.declared.job.Outcome.TheVariants as outcome
use Rattle.estelle_model.specs.Subject.{Subject}
use Rattle.estelle_model.specs.Situation.{Situation, Acting}
use Rattle.estelle_model.specs.Firing.{Firing, Failed, fire, transition_at, untimed}
use Rattle.estelle_model.specs.Jobs.{Answers, IsAnswer, ran, taken_by}
use Rattle.estelle_model.specs.Runs.{HasRun, HasFailed, FiringFaults, MayFire}
use Rattle.estelle_model_legality.specs.Jobs.{job_of}
use Rattle.estelle_model_legality.specs.Situations.{IsLegal}
use Rattle.estelle_model_legality.proofs.Taken.{taken}
use Rattle.effect_log.specs.Putting.{IsRan, AnswersIn, after_put}
use Rattle.effect_log.proofs.Answered.{puts-are-firings}
use Rattle.effect_log.proofs.Lawful.{no-initial}

-- what ran and was put, without the timer of its transition
abbrev pub ran_so : Path → ℕ → Acting → ℕ → Firing
ran_so m n a left = untimed m n (ran a left)

module _ (s : Subject) (budget : ℕ) (g : Situation) (legal : IsLegal s g) where
  none_at_zero : (m : Path) → Contains g.pending (pair m 0) → ⊥
  none_at_zero m pending =
      let its = legal.pending.each (pair m 0) pending in
      let wrong : Some its.transition ≡ None = sym its.its ∙ no-initial s (Some its.instance) in
      absurd (cc)

  -- it answers there
  pub answers_in : (m : Path) (n : ℕ) → Contains g.pending (pair m n) → (done : Done) → Answers s (job_of s g 0 budget (pair m n)) done → AnswersIn s g done
  answers_in m zero pending done answers = absurd (none_at_zero m pending)
  answers_in m (suc n) pending done answers =
      record { job = job_of s g 0 budget (pair m (suc n)); at = (legal, taken s g legal 0 budget (pair m (suc n)) pending); answers = answers }

  -- what ran is what the firing is, once it is put
  pub ran_is : (m : Path) (n : ℕ) → Contains g.pending (pair m n) → (done : Done) → Answers s (job_of s g 0 budget (pair m n)) done → IsRan done.outcome
      → fire s budget g m n ≡ ran_so m n (after_put s g done) done.left
  unfolding answers_in
  ran_is m zero pending done answers is = absurd (none_at_zero m pending)
  ran_is m (suc n) pending done answers is =
      puts-are-firings s g done is (answers_in m (suc n) pending done answers)
      ∙ (λ i. ran_so (answers.path i) (answers.trans i) (after_put s g done) done.left)

  -- what faulted is a fault of the firing
  pub failed_is : (m : Path) (n : ℕ) → Contains g.pending (pair m n) → (done : Done) → Answers s (job_of s g 0 budget (pair m n)) done → (kind : Fault) → done.outcome ≡ outcome.Faulted kind
      → fire s budget g m n ≡ Failed kind done.left
  failed_is m zero pending done answers kind is = absurd (none_at_zero m pending)
  failed_is m (suc n) pending done answers kind is =
      subst (λ (o : Outcome). IsAnswer s m (suc n) (taken_by s g m (transition_at s (suc n) (map.get g.core.instances m))) o done.left (fire s budget g m (suc n))) is
      (answers.answers g (taken s g legal 0 budget (pair m (suc n)) pending))

  module _ (m : Path) (n : ℕ) (pending : Contains g.pending (pair m n)) (done : Done) (answers : Answers s (job_of s g 0 budget (pair m n)) done) where
    -- ---- it ran

    module _ (is : IsRan done.outcome) where
      abbrev a : Acting
      a = after_put s g done

      pub may_fire : (outs : List Out) (drops : List ℕ) → a.outs ≡ outs → a.drops ≡ drops → MayFire s budget g m n outs drops
      may_fire outs drops same dropped = record { pending = pending; ran = subst (HasRun outs drops) (sym (ran_is m n pending done answers is)) (same, dropped) }

      pub outs_told : (outs : List Out) (drops : List ℕ) → MayFire s budget g m n outs drops → (a.outs ≡ outs) × (a.drops ≡ drops)
      outs_told outs drops may = subst (HasRun outs drops) (ran_is m n pending done answers is) may.ran

      pub no_fault : (kind : Fault) → FiringFaults s budget g m n kind → ⊥
      no_fault kind f = subst (HasFailed kind) (ran_is m n pending done answers is) f.failed

    -- ---- it faulted

    module _ (kind : Fault) (is : done.outcome ≡ outcome.Faulted kind) where
      pub faults_so : (other : Fault) → kind ≡ other → FiringFaults s budget g m n other
      faults_so other same = record { pending = pending; failed = subst (HasFailed other) (sym (failed_is m n pending done answers kind is)) same }

      pub fault_told : (other : Fault) → FiringFaults s budget g m n other → kind ≡ other
      fault_told other f = subst (HasFailed other) (failed_is m n pending done answers kind is) f.failed

      pub none_ran : (outs : List Out) (drops : List ℕ) → MayFire s budget g m n outs drops → ⊥
      none_ran outs drops may = subst (HasRun outs drops) (failed_is m n pending done answers kind is) may.ran
