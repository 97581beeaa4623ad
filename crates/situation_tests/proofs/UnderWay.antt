-- What writers took stays under way while others take and commit.
use Rattle.std.proofs.Common.{◌≡◌, ◌≢◌, ℕ, List, [], ◌∷◌, ◌++◌, Bool, true, false, cond, Option, Some, None, refl, sym, ap, subst, ◌∙◌, append_assoc}
use Rattle.std.proofs.lemmas.List.{append-nil}
use Rattle.std.specs.Prelude.{All, Contains, nat_eq, OnSome}
use Rattle.std.proofs.lemmas.List.Elements.{All-nil, All-cons}
use Rattle.estelle_tree.specs.Timers.{pair}
use Rattle.estelle_model.specs.declared.event.Event.TheVariants as event
use Rattle.estelle_model.specs.declared.event.End.{End}
use Rattle.estelle_model.specs.declared.event.End.TheVariants.{Turns, Faulted}
use Rattle.estelle_model.specs.declared.job.Job.{Job}
use Rattle.estelle_model.specs.declared.job.Done.{Done}
use Rattle.estelle_model.specs.Subject.{Subject}
use Rattle.estelle_model.specs.Jobs.{Answers}
use Rattle.estelle_model.specs.Choosers.{Draw}
use Rattle.run_history.specs.declared.entry.Entry.{Entry}
use Rattle.run_history.specs.Histories.{fires}
use Rattle.run_history.specs.Tickets.{AreTickets, IsJobOf}
use Rattle.run_history.specs.OpenTickets.{open_in}
use Rattle.run_history.proofs.OpenTickets.{stay_open, job_stays}
use Rattle.situation.specs.declared.limits.Committed.{Committed}
use Rattle.situation.specs.declared.limits.Committed.TheVariants as committed
use Rattle.situation.specs.Known.{Known, IsOfRun, IsKnownBy, IsStill, IsAnswerIn, IsOpenBy, HasTaken, HasCommitted, GoesOnTo}
use Rattle.situation.specs.Runs.{noted, ending, take_of, taken_as, ended_at}
use Rattle.situation_tests.specs.UnderWay.{IsUnderWay, KeepsOthers, KeepsAll}

-- what holds in any case, where there is something
pub on_some : {A : Type 0} (x : Option A) (P : Type 0) → P → OnSome x P
on_some None P p = tt
on_some (Some a) P p = p

pub on_some_too : {A : Type 0} (x : Option A) (P Q : Type 0) → (P → Q) → OnSome x P → OnSome x Q
on_some_too None P Q f p = tt
on_some_too (Some a) P Q f p = f p

abbrev AreBy : ℕ → List Entry → Type 0
AreBy by es = (other : ℕ) → (other ≡ by → ⊥) → All (λ (e : Entry). e.by ≢ other) es

none_by : (by : ℕ) → AreBy by []
none_by by other differ = All-nil (λ (e : Entry). e.by ≢ other)

more_by : (by : ℕ) (e : Entry) (es : List Entry) → e.by ≡ by → AreBy by es → AreBy by (e ∷ es)
more_by by e es is rest other differ = All-cons (λ (x : Entry). x.by ≢ other) e es (λ same. differ (sym same ∙ is)) (rest other differ)

-- what stands behind a firing that was noted
abbrev behind : ℕ → Bool → List Entry
behind by full = cond full (ending by Turns ∷ []) []

behind_by : (by : ℕ) (full : Bool) → AreBy by (behind by full)
behind_by by true = more_by by (ending by Turns) [] refl (none_by by)
behind_by by false = none_by by

ended_is : (by turns : ℕ) (es : List Entry) (e : Entry) → ended_at by turns (es ++ e ∷ []) ≡ es ++ e ∷ behind by (nat_eq (fires (es ++ e ∷ [])) turns)
ended_is by turns es e = one (nat_eq (fires (es ++ e ∷ [])) turns)
  where
    one : (full : Bool) → cond full ((es ++ e ∷ []) ++ ending by Turns ∷ []) (es ++ e ∷ []) ≡ es ++ e ∷ behind by full
    one true = append_assoc es (e ∷ []) (ending by Turns ∷ [])
    one false = refl

module _ {C H : Type 0} where
  -- tickets of a world are in order
  tickets_of : (w : Known C H) → IsOfRun w → AreTickets w.subject w.limits.budget w.history.entries
  tickets_of w keeps = by w.end keeps
    where
      by : (e : Option End) → IsKnownBy w e → AreTickets w.subject w.limits.budget w.history.entries
      by None h = h.going.tickets
      by (Some e) h = h.closed.tickets

  -- where others note more
  still : (other : ℕ) (v w : Known C H) → IsOfRun w → w.subject ≡ v.subject → w.limits ≡ v.limits → (more : List Entry) → w.history.entries ≡ v.history.entries ++ more → All (λ (e : Entry). e.by ≢ other) more
      → (done : Done) → IsUnderWay other v done → IsUnderWay other w done
  still other v w keeps subject limits more entries apart done u =
      let t : AreTickets v.subject v.limits.budget (v.history.entries ++ more) =
      subst (λ (q : Subject × ℕ × List Entry). AreTickets q.0 q.1 q.2) (λ i. (subject i, (limits i).budget, entries i)) (tickets_of w keeps) in
      record {
        is_open = subst (λ (es : List Entry). Contains (open_in es) (taken_as other done.ticket (pair done.path done.trans))) (sym entries)
            (stay_open v.subject v.limits.budget v.history.entries more (taken_as other done.ticket (pair done.path done.trans)) t u.is_open apart);
        answers = (
          u.answers.0,
          subst (λ (q : Subject × ℕ × List Entry). IsJobOf q.0 q.1 q.2 u.answers.0) (λ i. (sym subject i, (sym limits i).budget, sym entries i)) (job_stays v.subject v.limits.budget v.history.entries more u.answers.0 u.answers.1),
          subst (λ (s : Subject). Answers s u.answers.0 done) (sym subject) u.answers.2,
        );
      }

  -- ---- where nothing is noted

  pub still_same : (v w : Known C H) (by : ℕ) → IsOfRun w → IsStill (record v { writer = by }) w → KeepsAll v w
  still_same v w by keeps s other done u =
      still other v w keeps (ap (λ (x : Known C H). x.subject) s.0) (ap (λ (x : Known C H). x.limits) s.0) [] (s.1 ∙ sym (append-nil v.history.entries)) (All-nil (λ (e : Entry). e.by ≢ other)) done u

  -- ---- takes

  pub taken_is : (draw : Draw H) (v w : Known C H) (job : Job) → HasTaken draw v w job → (done : Done) → Answers w.subject job done → IsUnderWay v.writer w done
  taken_is draw v w job t done answers = record {
    is_open = subst (Contains (open_in w.history.entries)) (λ i. taken_as v.writer (sym answers.ticket i) (pair (sym answers.path i) (sym answers.trans i))) t.is_open;
    answers = (job, t.job_of, answers);
  }

  pub taken_keeps : (draw : Draw H) (v w : Known C H) (job : Job) → HasTaken draw v w job → IsOfRun w → KeepsOthers v.writer v w
  taken_keeps draw v w job t keeps other done differ u =
      still other v w keeps (ap (λ (x : Known C H). x.subject) t.rest) (ap (λ (x : Known C H). x.limits) t.rest) (take_of v.writer job.ticket (pair job.path job.trans) ∷ []) t.noted
      (more_by v.writer (take_of v.writer job.ticket (pair job.path job.trans)) [] refl (none_by v.writer) other differ) done u

  -- by another writer, where nothing else was noted
  pub taken_by : (by : ℕ) (v m w : Known C H) → IsStill (record v { writer = by }) m → KeepsOthers m.writer m w → (m.writer ≡ by) × KeepsOthers by v w
  taken_by by v m w s keeps =
      let writer_is : m.writer ≡ by = ap (λ (x : Known C H). x.writer) s.0 in (
        writer_is,
        λ other done differ u. keeps other done (λ same. differ (same ∙ writer_is)) (record {
          is_open = subst (λ (es : List Entry). Contains (open_in es) (taken_as other done.ticket (pair done.path done.trans))) (sym s.1) u.is_open;
          answers = (
            u.answers.0,
            subst (λ (q : Subject × ℕ × List Entry). IsJobOf q.0 q.1 q.2 u.answers.0) (λ i. ((sym s.0 i).subject, (sym s.0 i).limits.budget, sym s.1 i)) u.answers.1,
            subst (λ (x : Subject). Answers x u.answers.0 done) (λ i. (sym s.0 i).subject) u.answers.2,
          );
        }),
      )

  -- ---- commits

  module _ (by : ℕ) (v m w : Known C H) (s : IsStill (record v { writer = by }) m) (done : Done) where
    writer_is_its : m.writer ≡ by
    writer_is_its = ap (λ (x : Known C H). x.writer) s.0

    pub open_still : IsUnderWay by v done → IsOpenBy m done
    open_still u = subst (λ (q : List Entry × ℕ). Contains (open_in q.0) (taken_as q.1 done.ticket (pair done.path done.trans))) (λ i. (sym s.1 i, sym writer_is_its i)) u.is_open

    pub answers_still : IsUnderWay by v done → IsAnswerIn m done
    answers_still u = (
      u.answers.0,
      subst (λ (q : Subject × ℕ × List Entry). IsJobOf q.0 q.1 q.2 u.answers.0) (λ i. ((sym s.0 i).subject, (sym s.0 i).limits.budget, sym s.1 i)) u.answers.1,
      subst (λ (x : Subject). Answers x u.answers.0 done) (λ i. (sym s.0 i).subject) u.answers.2,
    )

    keeps_with : IsOfRun w → w.subject ≡ m.subject → w.limits ≡ m.limits → (more : List Entry) → w.history.entries ≡ m.history.entries ++ more → AreBy by more → KeepsOthers by v w
    keeps_with keeps subject limits more entries apart other one differ u =
        still other v w keeps (subject ∙ ap (λ (x : Known C H). x.subject) s.0) (limits ∙ ap (λ (x : Known C H). x.limits) s.0) more (entries ∙ ap (λ (es : List Entry). es ++ more) s.1) (apart other differ) one u

    pub put_keeps : IsOfRun w → (c : Committed) → HasCommitted m w done c → KeepsOthers by v w
    put_keeps keeps committed.Fired h =
        let e : Entry = noted m.writer (event.Fire done.path done.trans h.0 h.1) in
        let full : Bool = nat_eq (fires (m.history.entries ++ e ∷ [])) m.limits.turns in
        keeps_with keeps (ap (λ (x : Known C H). x.subject) h.3.rest) (ap (λ (x : Known C H). x.limits) h.3.rest) (e ∷ behind m.writer full)
        (h.3.noted ∙ ended_is m.writer m.limits.turns m.history.entries e)
        (more_by by e (behind m.writer full) writer_is_its (subst (λ (k : ℕ). AreBy by (behind k full)) (sym writer_is_its) (behind_by by full)))
    put_keeps keeps committed.Faulted h =
        let e : Entry = noted m.writer (event.Fault done.path done.trans h.0) in
        let last : Entry = ending m.writer (Faulted h.0) in
        keeps_with keeps (ap (λ (x : Known C H). x.subject) h.3.rest) (ap (λ (x : Known C H). x.limits) h.3.rest) (e ∷ last ∷ [])
        (h.3.noted ∙ append_assoc m.history.entries (e ∷ []) (last ∷ []))
        (more_by by e (last ∷ []) writer_is_its (more_by by last [] writer_is_its (none_by by)))
    put_keeps keeps (committed.Late e) h =
        keeps_with keeps (ap (λ (x : Known C H). x.subject) h.1) (ap (λ (x : Known C H). x.limits) h.1) []
        (ap (λ (x : Known C H). x.history.entries) h.1 ∙ sym (append-nil m.history.entries)) (none_by by)
