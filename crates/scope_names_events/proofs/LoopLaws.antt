-- What loops over the terms and factors of an expression have written at their ends.
use Rattle.std.proofs.Common.{◌≡◌, ℕ, ◌≤◌, List, take, length, sym, ap, ◌∙◌}
use Rattle.std.specs.List.{flat_map}
use Rattle.estelle_tree.specs.declared.tree.expression.Adding.{Adding}
use Rattle.estelle_tree.specs.declared.tree.expression.Multiplying.{Multiplying}
use Rattle.estelle_tree.specs.declared.tree.expression.Factor.{Factor}
use Rattle.estelle_tree.specs.declared.tree.expression.Simple.{Simple, out-Simple}
use Rattle.estelle_tree.specs.declared.tree.expression.Term.{Term, out-Term}
use Rattle.scope_rules.specs.TypeEvents.{Events}
use Rattle.scope_rules.specs.ExpressionEvents.{simple, term, factor}
use Rattle.scope_names_events.specs.Writing.{write}
use Rattle.scope_names_events.proofs.WritingLemmas.{write-append, whole}
use Rattle.scope_names_events.proofs.ExpressionEquations.{simple_is, term_is}

pub simple_written : (s : Simple) (ys : List (Adding × Term)) (i : ℕ) (out o1 o2 : Events) → ys ≡ (out-Simple s).others → length ys ≤ i → o1 ≡ write out (term (out-Simple s).first)
    → o2 ≡ write o1 (flat_map (λ y. term y.1) (take i ys)) → o2 ≡ write out (simple s)
simple_written s ys i out o1 o2 e all e1 e2 =
    let a = term (out-Simple s).first in
    let c = flat_map (λ y. term y.1) (out-Simple s).others in
    whole (λ y. term y.1) (out-Simple s).others ys i o1 o2 e all e2
    ∙ ap (λ o. write o c) e1 ∙ sym (write-append out a c) ∙ ap (write out) (sym (simple_is s))

pub term_written : (t : Term) (ys : List (Multiplying × Factor)) (i : ℕ) (out o1 o2 : Events) → ys ≡ (out-Term t).others → length ys ≤ i → o1 ≡ write out (factor (out-Term t).first)
    → o2 ≡ write o1 (flat_map (λ y. factor y.1) (take i ys)) → o2 ≡ write out (term t)
term_written t ys i out o1 o2 e all e1 e2 =
    let a = factor (out-Term t).first in
    let c = flat_map (λ y. factor y.1) (out-Term t).others in
    whole (λ y. factor y.1) (out-Term t).others ys i o1 o2 e all e2
    ∙ ap (λ o. write o c) e1 ∙ sym (write-append out a c) ∙ ap (write out) (sym (term_is t))
