-- What loops over the terms, factors and selectors of an expression have written at their ends.
use Rattle.std.proofs.Common.{◌≡◌, ℕ, ◌≤◌, List, ◌++◌, take, length, sym, ap, ◌∙◌}
use Rattle.std.specs.List.{flat_map}
use Rattle.std.proofs.lemmas.List.{take_all}
use Rattle.estelle_tree.specs.declared.tree.expression.Adding.{Adding}
use Rattle.estelle_tree.specs.declared.tree.expression.Multiplying.{Multiplying}
use Rattle.estelle_tree.specs.declared.tree.expression.Factor.{Factor}
use Rattle.estelle_tree.specs.declared.tree.expression.Simple.{Simple, out-Simple}
use Rattle.estelle_tree.specs.declared.tree.expression.Term.{Term, out-Term}
use Rattle.estelle_tree.specs.declared.tree.expression.Variable.{Variable, out-Variable}
use Rattle.estelle_tree.specs.declared.tree.expression.Selector.{Selector}
use Rattle.estelle_tree.specs.Expressions.{of_adding, of_multiplying}
use Rattle.estelle_printer.specs.Forms.{Tokens, mark}
use Rattle.estelle_printer.specs.TypeTokens.{name, sign}
use Rattle.estelle_printer.specs.ExpressionTokens.{simple, term, factor, variable, selector}
use Rattle.estelle_printer.specs.Writing.{write}
use Rattle.estelle_printer.proofs.WritingLemmas.{write-append}
use Rattle.estelle_printer.proofs.ExpressionEquations.{simple_is, term_is, variable_is}

whole : {X : Type 0} (f : X → Tokens) (xs ys : List X) (i : ℕ) (text out : List ℕ) → ys ≡ xs → length ys ≤ i → out ≡ write text (flat_map f (take i ys)) → out ≡ write text (flat_map f xs)
whole f xs ys i text out e all o = o ∙ ap (λ zs. write text (flat_map f zs)) (take_all i ys all ∙ e)

pub simple_written : (s : Simple) (ys : List (Adding × Term)) (i : ℕ) (text o1 o2 o3 : List ℕ) → ys ≡ (out-Simple s).others → length ys ≤ i → o1 ≡ write text (sign (out-Simple s).sign) → o2 ≡ write o1 (term (out-Simple s).first)
    → o3 ≡ write o2 (flat_map (λ y. mark (of_adding y.0) ++ term y.1) (take i ys)) → o3 ≡ write text (simple s)
simple_written s ys i text o1 o2 o3 e all e1 e2 e3 =
    let a = sign (out-Simple s).sign in
    let b = term (out-Simple s).first in
    let c = flat_map (λ y. mark (of_adding y.0) ++ term y.1) (out-Simple s).others in
    whole (λ y. mark (of_adding y.0) ++ term y.1) (out-Simple s).others ys i o2 o3 e all e3
    ∙ ap (λ o. write o c) (e2 ∙ ap (λ o. write o b) e1 ∙ sym (write-append text a b)) ∙ sym (write-append text (a ++ b) c) ∙ ap (write text) (sym (simple_is s))

pub term_written : (t : Term) (ys : List (Multiplying × Factor)) (i : ℕ) (text o1 o2 : List ℕ) → ys ≡ (out-Term t).others → length ys ≤ i → o1 ≡ write text (factor (out-Term t).first)
    → o2 ≡ write o1 (flat_map (λ y. mark (of_multiplying y.0) ++ factor y.1) (take i ys)) → o2 ≡ write text (term t)
term_written t ys i text o1 o2 e all e1 e2 =
    let a = factor (out-Term t).first in
    let c = flat_map (λ y. mark (of_multiplying y.0) ++ factor y.1) (out-Term t).others in
    whole (λ y. mark (of_multiplying y.0) ++ factor y.1) (out-Term t).others ys i o1 o2 e all e2
    ∙ ap (λ o. write o c) e1 ∙ sym (write-append text a c) ∙ ap (write text) (sym (term_is t))

pub variable_written : (v : Variable) (ys : List Selector) (i : ℕ) (text o1 o2 : List ℕ) → ys ≡ (out-Variable v).selectors → length ys ≤ i → o1 ≡ write text (name (out-Variable v).name)
    → o2 ≡ write o1 (flat_map selector (take i ys)) → o2 ≡ write text (variable v)
variable_written v ys i text o1 o2 e all e1 e2 =
    whole selector (out-Variable v).selectors ys i o1 o2 e all e2
    ∙ ap (λ o. write o (flat_map selector (out-Variable v).selectors)) e1 ∙ sym (write-append text (name (out-Variable v).name) (flat_map selector (out-Variable v).selectors)) ∙ ap (write text) (sym (variable_is v))
