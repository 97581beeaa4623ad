-- A whole turn at a world: what `turn`, the world and `end` tell makes the turn that a caller sees.
use Rattle.std.proofs.Common.{◌≡◌, ◌≢◌, ℕ, List, [], ◌++◌, length, drop, sym, ap, ◌∙◌, subst}
use Rattle.std.specs.Prelude.{Result, All, Contains, MatchResult}
use Rattle.estelle_tree.specs.Timers.{pair}
use Rattle.estelle_model.specs.declared.job.Job.{Job}
use Rattle.estelle_model.specs.declared.job.Done.{Done}
use Rattle.estelle_model.specs.Jobs.{Answers}
use Rattle.run_history.specs.declared.entry.Entry.{Entry}
use Rattle.run_history.specs.Tickets.{IsJobOf}
use Rattle.run_history.specs.OpenTickets.{open_in}
use Rattle.situation.specs.declared.limits.Committed.{Committed}
use Rattle.situation.specs.Known.{Known}
use Rattle.situation.specs.Runs.{taken_as}
use Rattle.turn_board.specs.declared.views.Own.{Own}
use Rattle.turn_board.specs.Accounts.{StartsWith, found_in, in_turn, after_turn, Agrees}
use Rattle.turn_board.proofs.Callers.{added_behind, turned, none_since}
use Rattle.board_runner.specs.declared.work.Work.{Work}
use Rattle.board_runner.specs.Histories.{Base, base_of, IsHistory}
use Rattle.board_runner.specs.Turns.{IsTurn, Gives, GivesJob, Settles, Exchanges, IsToCommit}
use Rattle.board_runner.specs.Going.{HasGoneOn, HasGiven, MayCommit, HasSettled, HasExchanged}
use Rattle.board_runner.proofs.Ends.{is_history}

abbrev writer_of : Entry → ℕ
writer_of e = e.by

module _ {C H : Type 0} (o mid : Own (Known C H) Base Entry) (ticket : ℕ) (w : Known C H) (begun : mid ≡ in_turn o ticket w.history.entries) (agrees : Agrees writer_of o (base_of w) w.history.entries) (number : ℕ) (its : number ≡ mid.number) where
  own_number : number ≡ o.number
  own_number = its ∙ ap (λ (x : Own (Known C H) Base Entry). x.number) begun

  found_is : found_in mid.stage ≡ w.history.entries
  found_is = ap (λ (x : Own (Known C H) Base Entry). found_in x.stage) begun

  -- what the pass took before is to commit now
  pub may_commit : (done : Done) → IsToCommit o done → MayCommit number w done
  may_commit done t = record {
    seen = o.seen;
    more = agrees.begins.0;
    entries = agrees.begins.1;
    others = subst (λ (n : ℕ). All (λ (e : Entry). e.by ≢ n) agrees.begins.0) (sym own_number) (none_since writer_of o (base_of w) w.history.entries agrees agrees.begins.0 agrees.begins.1);
    is_open = subst (λ (n : ℕ). Contains (open_in o.seen) (taken_as n done.ticket (pair done.path done.trans))) (sym own_number) t.is_open;
    job = t.job;
    job_of = subst (λ (b : Base). IsJobOf b.0 b.1.budget o.seen t.job) (sym agrees.base_is) t.job_of;
    answers = subst (λ (b : Base). Answers b.0 t.job done) (sym agrees.base_is) t.answers;
  }

  -- ---- the end of the turn

  module _ (v : Known C H) (added : List Entry) (gone : HasGoneOn number w v added) where
    pub same_base : base_of v ≡ mid.base
    same_base = gone.base ∙ agrees.base_is ∙ ap (λ (x : Own (Known C H) Base Entry). x.base) (sym begun)

    behind_found : v.history.entries ≡ found_in mid.stage ++ added
    behind_found = gone.entries ∙ ap (λ (es : List Entry). es ++ added) (sym found_is)

    pub kept : StartsWith v.history.entries (found_in mid.stage)
    kept = (added, behind_found)

    pub own_added : All (λ (e : Entry). e.by ≡ mid.number) (drop (length (found_in mid.stage)) v.history.entries)
    own_added = added_behind (λ (e : Entry). e.by ≡ mid.number) (found_in mid.stage) added v.history.entries behind_found (subst (λ (n : ℕ). All (λ (e : Entry). e.by ≡ n) added) its gone.own)

    module _ (now : Own (Known C H) Base Entry) (over : now ≡ after_turn mid ticket (found_in mid.stage) v v.history.entries) where
      pub whole : IsTurn o w.history.entries added v.time.waited now
      whole = record {
        turned = turned writer_of o mid now ticket w.history.entries added v (base_of w) begun (over ∙ (λ i. after_turn mid ticket (found_is i) v (gone.entries i))) agrees
            (subst (λ (n : ℕ). All (λ (e : Entry). e.by ≡ n) added) own_number gone.own);
        history = subst (λ (q : Base × List Entry). IsHistory q.0 v.time.waited q.1) (λ i. ((gone.base ∙ agrees.base_is) i, gone.entries i)) (is_history v gone.keeps);
      }

  -- ---- what it comes to

  pub given : {X : Type 0} (r : Result Work X) (v : Known C H) (now : Own (Known C H) Base Entry) → now ≡ after_turn mid ticket (found_in mid.stage) v v.history.entries → HasGiven number w v r
      → (found : List Entry) × (added : List Entry) × (waited : ℕ) × IsTurn o found added waited now × MatchResult r (Gives o.base o.number waited found added) (λ _. added ≡ [])
  given r v now over g = (
    w.history.entries,
    g.added,
    v.time.waited,
    whole v g.added g.gone now over,
    subst (λ (q : Base × ℕ). MatchResult r (Gives q.0 q.1 v.time.waited w.history.entries g.added) (λ _. g.added ≡ [])) (λ i. (agrees.base_is i, own_number i)) g.gives,
  )

  pub settled : (r : Result Committed Done) (v : Known C H) (now : Own (Known C H) Base Entry) (done : Done) → now ≡ after_turn mid ticket (found_in mid.stage) v v.history.entries → HasSettled number w v done r
      → (found : List Entry) × (added : List Entry) × (waited : ℕ) × IsTurn o found added waited now × MatchResult r (Settles o.base o.number found added done) (λ d. (added ≡ []) × (d ≡ done))
  settled r v now done over s = (
    w.history.entries,
    s.added,
    v.time.waited,
    whole v s.added s.gone now over,
    subst (λ (q : Base × ℕ). MatchResult r (Settles q.0 q.1 w.history.entries s.added done) (λ d. (s.added ≡ []) × (d ≡ done))) (λ i. (agrees.base_is i, own_number i)) s.settles,
  )

  pub exchanged : {X : Type 0} (r : Result (Committed × Result Work X) Done) (v : Known C H) (now : Own (Known C H) Base Entry) (done : Done) → now ≡ after_turn mid ticket (found_in mid.stage) v v.history.entries → HasExchanged number w v done r
      → (found : List Entry) × (first : List Entry) × (second : List Entry) × (waited : ℕ) × IsTurn o found (first ++ second) waited now × Exchanges o.base o.number waited found first second done r
  exchanged r v now done over x = (
    w.history.entries,
    x.first,
    x.second,
    v.time.waited,
    whole v (x.first ++ x.second) x.gone now over,
    subst (λ (q : Base × ℕ). Exchanges q.0 q.1 v.time.waited w.history.entries x.first x.second done r) (λ i. (agrees.base_is i, own_number i)) x.exchanges,
  )

-- ---- what a caller of `next` commits

-- what answers the job of a turn is to commit then
pub job_is_to_commit : {V : Type 0} (o now : Own V Base Entry) (found added : List Entry) (waited : ℕ) (job : Job) (done : Done) → IsTurn o found added waited now → GivesJob o.base o.number waited found added job → Answers (now.base).0 job done → IsToCommit now done
job_is_to_commit o now found added waited job done t g answers = record {
  is_open = subst (λ (q : List Entry × ℕ). Contains (open_in q.0) (taken_as q.1 done.ticket (pair done.path done.trans))) (λ i. (sym t.turned.seen i, sym t.turned.number_stays i))
      (subst (Contains (open_in (found ++ added))) (λ i. taken_as o.number (sym answers.ticket i) (pair (sym answers.path i) (sym answers.trans i))) g.is_open);
  job = job;
  job_of = subst (λ (q : Base × List Entry). IsJobOf q.0.0 q.0.1.budget q.1 job) (λ i. (sym t.turned.base_stays i, sym t.turned.seen i)) g.job_of;
  answers = answers;
}
