-- What a pass keeps while others are at work.
use Rattle.std.proofs.Common.{◌≡◌, ◌≢◌, ℕ, List, [], ◌∷◌, ◌++◌, map, Option, Some, None, sym, ap, ◌∙◌, subst}
use Rattle.std.specs.List.{range_with_len}
use Rattle.std.proofs.lemmas.List.{append-nil}
use Rattle.std.specs.Prelude.{All, Contains}
use Rattle.estelle_tree.specs.Timers.{pair}
use Rattle.estelle_model.specs.declared.job.Job.{Job}
use Rattle.estelle_model.specs.declared.event.End.{End}
use Rattle.estelle_model_legality.specs.Jobs.{IsJob}
use Rattle.run_history.specs.declared.entry.Entry.{Entry}
use Rattle.run_history.specs.Tickets.{IsJobOf, AreTickets}
use Rattle.run_history.specs.OpenTickets.{open_in}
use Rattle.run_history.proofs.OpenTickets.{stay_open, job_stays}
use Rattle.situation.specs.Runs.{taken_as}
use Rattle.turn_board.specs.declared.views.Own.{Own}
use Rattle.turn_board.specs.declared.pass.PassOf.{PassOf}
use Rattle.turn_board.specs.declared.board.Board.{Board}
use Rattle.turn_board.specs.Passes.{own, new_pass, AreNewOf}
use Rattle.turn_board.proofs.Callers.{none_since}
use Rattle.board_runner.specs.Histories.{Base, subject_of, budget_of, AreOf, end_in}
use Rattle.board_runner.specs.Turns.{IsTurn}
use Rattle.board_workers.specs.Jobs.{HasJob}

abbrev writer_of : Entry → ℕ
writer_of e = e.by

tickets_of : (b : Base) (waited : ℕ) (es : List Entry) (e : Option End) → AreOf e b waited es → AreTickets (subject_of b) (budget_of b) es
tickets_of b waited es None h = h.going.tickets
tickets_of b waited es (Some e) h = h.closed.tickets

-- a turn in which it notes nothing leaves it its job
pub still_has : {V : Type 0} (o now : Own V Base Entry) (found added : List Entry) (waited : ℕ) (job : Job) → HasJob o job → IsTurn o found added waited now → added ≡ [] → HasJob now job
still_has o now found added waited job h t none =
    let rest = t.turned.agrees.begins.0 in
    let all : found ++ added ≡ o.seen ++ rest = ap (λ (es : List Entry). found ++ es) none ∙ append-nil found ∙ t.turned.agrees.begins.1 in
    let seen : now.seen ≡ o.seen ++ rest = t.turned.seen ∙ all in
    let tickets = subst (AreTickets (subject_of o.base) (budget_of o.base)) all (tickets_of o.base waited (found ++ added) (end_in (found ++ added)) t.history.so_far) in
    let others = none_since writer_of o o.base found t.turned.agrees rest t.turned.agrees.begins.1 in
    record {
      is_open = subst (λ (q : List Entry × ℕ). Contains (open_in q.0) (taken_as q.1 job.ticket (pair job.path job.trans))) (λ i. (sym seen i, sym t.turned.number_stays i))
          (stay_open (subject_of o.base) (budget_of o.base) o.seen rest (taken_as o.number job.ticket (pair job.path job.trans)) tickets h.is_open others);
      job_of = subst (λ (q : Base × List Entry). IsJobOf (subject_of q.0) (budget_of q.0) q.1 job) (λ i. (sym t.turned.base_stays i, sym seen i)) (job_stays (subject_of o.base) (budget_of o.base) o.seen rest job h.job_of);
      meets = subst (λ (b : Base). IsJob (subject_of b) job) (sym t.turned.base_stays) h.meets;
    }

-- of two new passes the fixed part is that of the board
pub new_bases : {V B E : Type 0} (board : Board V B E) (base : B) (a b : PassOf V B E) (ps : List (PassOf V B E)) → AreNewOf board base 2 ps → ps ≡ a ∷ b ∷ [] → ((own a).base ≡ base) × ((own b).base ≡ base)
new_bases {V} {B} {E} board base a b ps h is =
    let news : own a ∷ own b ∷ [] ≡ new_pass base 1 ∷ new_pass base 2 ∷ [] = subst (λ (qs : List (PassOf V B E)). map own qs ≡ map (new_pass base) (range_with_len 1 2)) is h.1 in
    let one : own a ≡ new_pass base 1 = cc in
    let two : own b ≡ new_pass base 2 = cc in
    (ap (λ (o : Own V B E). o.base) one, ap (λ (o : Own V B E). o.base) two)
