-- What is said with one more clause, kind by kind.
use Rattle.std.proofs.Common.{◌≡◌, ◌∙◌, ℕ, List, [], ◌∷◌, ◌++◌, Option, ap}
use Rattle.estelle_tree.specs.declared.tree.expression.Expr.{Expr}
use Rattle.estelle_tree.specs.declared.tree.type_expr.Const.{Const}
use Rattle.estelle_tree.specs.declared.tree.clause.Clause.{Clause}
use Rattle.estelle_model.specs.declared.denoter.Denoter.{Denoter}
use Rattle.estelle_model.specs.Definitions.{received}
use Rattle.estelle_model.specs.Transitions.{Choice, When, Delay, or_first, from_of, to_of, when_of, provided_of, priority_of, delay_of}
use Rattle.meaning_table.specs.Known.{Known, meanings_of}
use Rattle.flat_transitions.specs.declared.in_force.ClausesInForce.{ClausesInForce}
use Rattle.flat_transitions.specs.Choices.{grown_clause}
use Rattle.flat_transitions.specs.Walks.{with_clause}

-- by a table t of what is known
pub said_with : (k t : Known) → t ≡ k → (s : ClausesInForce) (c : Clause)
    → {from : Option (List ℕ)} {to : Option ℕ} {when : Option When} {types : List Denoter} {provided : Option Expr} {priority : Option Const} {delay : Option Delay} {choices : List (List Choice)}
    → from ≡ or_first s.from (from_of (meanings_of k) c)
    → to ≡ or_first s.to (to_of (meanings_of t) c)
    → when ≡ or_first s.when (when_of (meanings_of t) c)
    → types ≡ s.received ++ received (meanings_of t) (c ∷ [])
    → provided ≡ or_first s.provided (provided_of (meanings_of t) c)
    → priority ≡ or_first s.priority (priority_of (meanings_of t) c)
    → delay ≡ or_first s.delay (delay_of (meanings_of t) c)
    → choices ≡ grown_clause (meanings_of t) s.choices c
    → record { from = from; to = to; when = when; received = types; provided = provided; priority = priority; delay = delay; choices = choices } ≡ with_clause (meanings_of k) s c
said_with k t same s c from to when types provided priority delay choices = λ i. record {
  from = from i;
  to = (to ∙ ap (λ (u : Known). or_first s.to (to_of (meanings_of u) c)) same) i;
  when = (when ∙ ap (λ (u : Known). or_first s.when (when_of (meanings_of u) c)) same) i;
  received = (types ∙ ap (λ (u : Known). s.received ++ received (meanings_of u) (c ∷ [])) same) i;
  provided = (provided ∙ ap (λ (u : Known). or_first s.provided (provided_of (meanings_of u) c)) same) i;
  priority = (priority ∙ ap (λ (u : Known). or_first s.priority (priority_of (meanings_of u) c)) same) i;
  delay = (delay ∙ ap (λ (u : Known). or_first s.delay (delay_of (meanings_of u) c)) same) i;
  choices = (choices ∙ ap (λ (u : Known). grown_clause (meanings_of u) s.choices c) same) i;
}
