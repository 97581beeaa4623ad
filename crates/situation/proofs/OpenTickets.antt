-- Tickets as a run goes on: with an event that settles none, with one that settles a ticket, with a take, and with the end.
use Rattle.std.proofs.Common.{◌≡◌, ℕ, ◌+◌, true, false, List, [], ◌∷◌, ◌++◌, length, Some, ap, ◌∙◌}
use Rattle.std.specs.Prelude.{slice_get, All, Contains}
use Rattle.std.specs.List.{remove, AllByRecursion}
use Rattle.std.proofs.lemmas.List.{length-append}
use Rattle.std.proofs.lemmas.List.Edits.{length-remove}
use Rattle.std.proofs.lemmas.List.Elements.{All-nil, All-cons}
use Rattle.std.proofs.lemmas.Option.{slice_get_within}
use Rattle.estelle_tree.specs.declared.transition.Pair.{Pair}
use Rattle.estelle_model.specs.declared.event.Event.{Event}
use Rattle.estelle_model.specs.declared.event.End.{End}
use Rattle.estelle_model.specs.Subject.{Subject}
use Rattle.estelle_model.specs.Runs.{situation}
use Rattle.estelle_model_legality.proofs.Lists.{not_both}
use Rattle.run_history.specs.declared.entry.Entry.{Entry}
use Rattle.run_history.specs.declared.entry.Taken.{Taken}
use Rattle.run_history.specs.Histories.{project}
use Rattle.run_history.specs.Tickets.{tickets, settled_by, AreTickets}
use Rattle.run_history.specs.OpenTickets.{open_in, untaken}
use Rattle.run_history.proofs.OpenTickets.{open_more, tickets_append, goes_on}
use Rattle.run_history.proofs.Settled.{open_apart, settling_follows, settling_takes_out, others_take_none_out}
use Rattle.situation.specs.Runs.{noted, ending, take_of, taken_as}

-- the event settles none of these tickets
abbrev pub SettlesNone : Event → List Taken → Type 0
SettlesNone e os = AllByRecursion (λ o. settled_by o.path o.trans e ≡ false) os

none_own : (os : List Taken) (e : Event) (by : ℕ) → SettlesNone e os → All (λ o. settled_by o.path o.trans e ≡ true → o.by ≡ by) os
none_own [] e by none = All-nil (λ (o : Taken). settled_by o.path o.trans e ≡ true → o.by ≡ by)
none_own (o ∷ os) e by none =
    All-cons (λ (x : Taken). settled_by x.path x.trans e ≡ true → x.by ≡ by) o os (λ it. absurd (not_both (settled_by o.path o.trans e) it none.0)) (none_own os e by none.1)

module _ (s : Subject) (budget : ℕ) (es : List Entry) (t : AreTickets s budget es) where
  -- an event that settles none
  pub noted_tickets : (by : ℕ) (e : Event) → SettlesNone e (open_in es) → AreTickets s budget (es ++ noted by e ∷ [])
  noted_tickets by e none = goes_on s budget es (noted by e) t (none_own (open_in es) e by none)

  -- one that settles the ticket at this place, by its own writer
  pub settled_tickets : (at : ℕ) (o : Taken) → slice_get (open_in es) at ≡ Some o → (e : Event) → settled_by o.path o.trans e ≡ true → AreTickets s budget (es ++ noted o.by e ∷ [])
  settled_tickets at o there e settles = goes_on s budget es (noted o.by e) t (settling_follows s budget es t at o there e settles)

  pub settled_open : (at : ℕ) (o : Taken) → slice_get (open_in es) at ≡ Some o → (by : ℕ) (e : Event) → settled_by o.path o.trans e ≡ true → open_in (es ++ noted by e ∷ []) ≡ remove (open_in es) at
  settled_open at o there by e settles = open_more es (noted by e) ∙ settling_takes_out (open_in es) (open_apart s budget es t) at o there e by settles

  -- a take of what nobody has taken
  pub taken_tickets : (by k : ℕ) (p : Pair) → k ≡ length (tickets es) + 1 → Contains (untaken (open_in es) (situation s budget (project es)).pending) p → AreTickets s budget (es ++ take_of by k p ∷ [])
  taken_tickets by k p next_is there = goes_on s budget es (take_of by k p) t (next_is, there)

  -- the end
  pub ended_tickets : (by : ℕ) (e : End) → AreTickets s budget (es ++ ending by e ∷ [])
  ended_tickets by e = goes_on s budget es (ending by e) t tt

-- ---- which are open then

pub noted_open : (es : List Entry) (by : ℕ) (e : Event) → SettlesNone e (open_in es) → open_in (es ++ noted by e ∷ []) ≡ open_in es
noted_open es by e none = open_more es (noted by e) ∙ others_take_none_out (open_in es) e by none

pub taken_open : (es : List Entry) (by k : ℕ) (p : Pair) → open_in (es ++ take_of by k p ∷ []) ≡ open_in es ++ taken_as by k p ∷ []
taken_open es by k p = open_more es (take_of by k p)

pub ended_open : (es : List Entry) (by : ℕ) (e : End) → open_in (es ++ ending by e ∷ []) ≡ open_in es
ended_open es by e = open_more es (ending by e)

-- ---- how many

pub taken_count : (es : List Entry) (by k : ℕ) (p : Pair) → length (tickets (es ++ take_of by k p ∷ [])) ≡ length (tickets es) + 1
taken_count es by k p = ap length (tickets_append es (take_of by k p ∷ [])) ∙ length-append (tickets es) (k ∷ [])

pub one_fewer : (os : List Taken) (at : ℕ) (o : Taken) → slice_get os at ≡ Some o → length (remove os at) + 1 ≡ length os
one_fewer os at o there = length-remove os at (slice_get_within os at o there)
