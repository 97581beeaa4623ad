-- What a pass has to do after its turns.
use Rattle.std.proofs.Common.{◌≡◌, ℕ, List, ◌++◌, sym, ◌∙◌, subst, append_assoc}
use Rattle.std.specs.Prelude.{Contains, Result, Ok, Err, IfOk, IfSome}
use Rattle.std.specs.Result.{result_ok}
use Rattle.estelle_tree.specs.Timers.{pair}
use Rattle.estelle_model.specs.declared.job.Job.{Job}
use Rattle.estelle_model.specs.declared.job.Done.{Done}
use Rattle.estelle_model.specs.Jobs.{Answers}
use Rattle.estelle_model_legality.specs.Jobs.{IsJob}
use Rattle.run_history.specs.declared.entry.Entry.{Entry}
use Rattle.run_history.specs.Tickets.{IsJobOf}
use Rattle.run_history.specs.OpenTickets.{open_in}
use Rattle.situation.specs.declared.limits.Committed.{Committed}
use Rattle.situation.specs.Runs.{taken_as}
use Rattle.turn_board.specs.declared.views.Own.{Own}
use Rattle.board_runner.specs.declared.work.Work.{Work}
use Rattle.board_runner.specs.declared.work.Work.TheVariants as work
use Rattle.board_runner.specs.Histories.{Base, subject_of, budget_of}
use Rattle.board_runner.specs.Turns.{IsTurn, GivesJob, Gives, IsToCommit, Exchanges}
use Rattle.board_workers.specs.Jobs.{HasJob, HasWork}

-- what is known where there is an answer
pub if_some : {A X : Type 0} (r : Result A X) (P : A → Type 0) → IfOk r P → IfSome (result_ok r) P
if_some (Ok a) P p = p
if_some (Err e) P p = tt

module _ {V : Type 0} where
  -- of a turn that is over
  has_job : (o now : Own V Base Entry) (waited : ℕ) (found added : List Entry) → now.base ≡ o.base → now.number ≡ o.number → now.seen ≡ found ++ added
      → (job : Job) → GivesJob o.base o.number waited found added job → HasJob now job
  has_job o now waited found added base number seen job g = record {
    is_open = subst (λ (q : List Entry × ℕ). Contains (open_in q.0) (taken_as q.1 job.ticket (pair job.path job.trans))) (λ i. (sym seen i, sym number i)) g.is_open;
    job_of = subst (λ (q : Base × List Entry). IsJobOf (subject_of q.0) (budget_of q.0) q.1 job) (λ i. (sym base i, sym seen i)) g.job_of;
    meets = subst (λ (b : Base). IsJob (subject_of b) job) (sym base) g.meets;
  }

  has_work : (o now : Own V Base Entry) (waited : ℕ) (found added : List Entry) → now.base ≡ o.base → now.number ≡ o.number → now.seen ≡ found ++ added
      → (w : Work) → Gives o.base o.number waited found added w → HasWork now w
  has_work o now waited found added base number seen (work.Job job) g = has_job o now waited found added base number seen job g
  has_work o now waited found added base number seen work.Moved g = tt
  has_work o now waited found added base number seen (work.Idle ticket) g = tt
  has_work o now waited found added base number seen (work.Ended e) g = tt

  pub exchanged : {X : Type 0} (o now : Own V Base Entry) (done : Done) (r : Committed × Result Work X)
      → (found : List Entry) × (first : List Entry) × (second : List Entry) × (waited : ℕ) × IsTurn o found (first ++ second) waited now × Exchanges o.base o.number waited found first second done (Ok r) → IfOk r.1 (HasWork now)
  exchanged o now done (c, Ok w) h = let t = h.4.turned in
      has_work o now h.3 (h.0 ++ h.1) h.2 t.base_stays t.number_stays (t.seen ∙ sym (append_assoc h.0 h.1 h.2)) w h.5.1
  exchanged o now done (c, Err e) h = tt

  -- what answers the job of a pass may be committed by it
  pub may_commit : (o : Own V Base Entry) (job : Job) (done : Done) → HasJob o job → Answers (subject_of o.base) job done → IsToCommit o done
  may_commit o job done h answers = record {
    is_open = subst (Contains (open_in o.seen)) (λ i. taken_as o.number (sym answers.ticket i) (pair (sym answers.path i) (sym answers.trans i))) h.is_open;
    job = job;
    job_of = h.job_of;
    answers = answers;
  }
