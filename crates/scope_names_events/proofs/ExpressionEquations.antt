-- One equation of the events for each type of node in expressions.
use Rattle.std.proofs.Common.{◌≡◌, ◌++◌, ◌∷◌, [], List, map, ap, ◌∙◌, refl, Option, Some, None}
use Rattle.std.specs.List.{flat_map}
use Rattle.estelle_tree.specs.declared.span.Span.{Span}
use Rattle.estelle_tree.specs.declared.tree.expression.Relation.{Relation}
use Rattle.estelle_tree.specs.declared.tree.expression.Adding.{Adding}
use Rattle.estelle_tree.specs.declared.tree.expression.Multiplying.{Multiplying}
use Rattle.estelle_tree.specs.declared.tree.expression.Factor.{Factor, out-Factor, map-Factor, fold_out-Factor}
use Rattle.estelle_tree.specs.declared.tree.expression.Factor.TheOpen.{Selector-F}
use Rattle.estelle_tree.specs.declared.tree.expression.Factor.TheFolds.{map-Selector, map-Elem, map-Expr, fold_out-Selector, fold_out-Args, fold_out-Elem, fold_out-Expr, fold_out-Simple, fold_out-Term, fold_out-Variable}
use Rattle.estelle_tree.specs.declared.tree.expression.Selector.{Selector, out-Selector}
use Rattle.estelle_tree.specs.declared.tree.expression.Args.{Args, out-Args}
use Rattle.estelle_tree.specs.declared.tree.expression.Elem.{Elem, out-Elem}
use Rattle.estelle_tree.specs.declared.tree.expression.Expr.{Expr, out-Expr}
use Rattle.estelle_tree.specs.declared.tree.expression.Simple.{Simple, out-Simple}
use Rattle.estelle_tree.specs.declared.tree.expression.Term.{Term, out-Term}
use Rattle.estelle_tree.specs.declared.tree.expression.Variable.{Variable, out-Variable}
use Rattle.scope_rules.specs.declared.event.Step.{Step}
use Rattle.scope_rules.specs.declared.event.Step.TheVariants as step
use Rattle.scope_rules.specs.TypeEvents.{Events}
use Rattle.scope_rules.specs.ExpressionEvents.{optional, Selected, Accessed, factor_layer, selector_layer, args_layer, elem_layer, expr_layer, simple_layer, term_layer, variable_layer, factor, selector, args, elem, expr, simple, term, variable}
use Rattle.scope_names_events.proofs.WritingLemmas.{chain_map}

pub factor_is : (x : Factor) → factor x ≡ factor_layer (map-Factor Factor Selector Args Elem Expr Simple Term Variable Events Selected Events Events Events Events Events Accessed factor selector args elem expr simple term variable (out-Factor x))
unfolding factor selector args elem expr simple term variable
factor_is x = fold_out-Factor Events Selected Events Events Events Events Events Accessed factor_layer selector_layer args_layer elem_layer expr_layer simple_layer term_layer variable_layer x

pub selector_is : (x : Selector) → selector x ≡ selector_layer (map-Selector Factor Selector Args Elem Expr Simple Term Variable Events Selected Events Events Events Events Events Accessed factor selector args elem expr simple term variable (out-Selector x))
unfolding factor selector args elem expr simple term variable
selector_is x = fold_out-Selector Events Selected Events Events Events Events Events Accessed factor_layer selector_layer args_layer elem_layer expr_layer simple_layer term_layer variable_layer x

pub args_is : (x : Args) → args x ≡ flat_map expr (out-Args x).exprs
unfolding factor selector args elem expr simple term variable
args_is x = fold_out-Args Events Selected Events Events Events Events Events Accessed factor_layer selector_layer args_layer elem_layer expr_layer simple_layer term_layer variable_layer x ∙ chain_map (λ (es : Events). es) expr (out-Args x).exprs

elem_out : (first : Expr) (span : Span) (last : Option Expr) → elem_layer (map-Elem Factor Selector Args Elem Expr Simple Term Variable Events Selected Events Events Events Events Events Accessed factor selector args elem expr simple term variable (record { first = first; last = last; span = span })) ≡ expr first ++ optional expr last
elem_out first span None = refl
elem_out first span (Some y) = refl

pub elem_is : (x : Elem) → elem x ≡ expr (out-Elem x).first ++ optional expr (out-Elem x).last
unfolding factor selector args elem expr simple term variable
elem_is x = fold_out-Elem Events Selected Events Events Events Events Events Accessed factor_layer selector_layer args_layer elem_layer expr_layer simple_layer term_layer variable_layer x ∙ elem_out (out-Elem x).first (out-Elem x).span (out-Elem x).last

expr_out : (left : Simple) (span : Span) (right : Option (Relation × Simple)) → expr_layer (map-Expr Factor Selector Args Elem Expr Simple Term Variable Events Selected Events Events Events Events Events Accessed factor selector args elem expr simple term variable (record { left = left; right = right; span = span })) ≡ simple left ++ optional (λ y. simple y.1) right
expr_out left span None = refl
expr_out left span (Some y) = refl

pub expr_is : (x : Expr) → expr x ≡ simple (out-Expr x).left ++ optional (λ y. simple y.1) (out-Expr x).right
unfolding factor selector args elem expr simple term variable
expr_is x = fold_out-Expr Events Selected Events Events Events Events Events Accessed factor_layer selector_layer args_layer elem_layer expr_layer simple_layer term_layer variable_layer x ∙ expr_out (out-Expr x).left (out-Expr x).span (out-Expr x).right

pub simple_is : (x : Simple) → simple x ≡ term (out-Simple x).first ++ flat_map (λ y. term y.1) (out-Simple x).others
unfolding factor selector args elem expr simple term variable
simple_is x = fold_out-Simple Events Selected Events Events Events Events Events Accessed factor_layer selector_layer args_layer elem_layer expr_layer simple_layer term_layer variable_layer x ∙ ap (λ ts. term (out-Simple x).first ++ ts) (chain_map (λ (y : Adding × Events). y.1) (λ (y : Adding × Term). (y.0, term y.1)) (out-Simple x).others)

pub term_is : (x : Term) → term x ≡ factor (out-Term x).first ++ flat_map (λ y. factor y.1) (out-Term x).others
unfolding factor selector args elem expr simple term variable
term_is x = fold_out-Term Events Selected Events Events Events Events Events Accessed factor_layer selector_layer args_layer elem_layer expr_layer simple_layer term_layer variable_layer x ∙ ap (λ ts. factor (out-Term x).first ++ ts) (chain_map (λ (y : Multiplying × Events). y.1) (λ (y : Multiplying × Factor). (y.0, factor y.1)) (out-Term x).others)

pub variable_is : (x : Variable) → variable x ≡ ((out-Variable x).name, flat_map (λ s. (selector s).0) (out-Variable x).selectors, flat_map (λ s. (selector s).1) (out-Variable x).selectors)
unfolding factor selector args elem expr simple term variable
variable_is x =
    fold_out-Variable Events Selected Events Events Events Events Events Accessed factor_layer selector_layer args_layer elem_layer expr_layer simple_layer term_layer variable_layer x
    ∙ ap (λ (ss : List Step). ((out-Variable x).name, ss, flat_map (λ (s : Selected). s.1) (map selector (out-Variable x).selectors))) (chain_map (λ (s : Selected). s.0) selector (out-Variable x).selectors)
    ∙ ap (λ (es : Events). ((out-Variable x).name, flat_map (λ s. (selector s).0) (out-Variable x).selectors, es)) (chain_map (λ (s : Selected). s.1) selector (out-Variable x).selectors)

-- an index has a step for each of its expressions
pub indices_map : {A B C : Type 0} (c : C) (f : A → B) (xs : List A) → map (λ x. c) (map f xs) ≡ map (λ x. c) xs
indices_map c f [] = refl
indices_map c f (x ∷ xs) = ap (λ ss. c ∷ ss) (indices_map c f xs)

selector_out : (s : Selector) (xs : List Expr) → out-Selector s ≡ Selector-F.Index xs → selector s ≡ (map (λ (x : Expr). step.Index) xs, flat_map expr xs)
selector_out s xs e =
    selector_is s ∙ ap (λ l. selector_layer (map-Selector Factor Selector Args Elem Expr Simple Term Variable Events Selected Events Events Events Events Events Accessed factor selector args elem expr simple term variable l)) e
    ∙ ap (λ (ss : List Step). (ss, flat_map (λ (es : Events). es) (map expr xs))) (indices_map step.Index expr xs) ∙ ap (λ (es : Events). (map (λ (x : Expr). step.Index) xs, es)) (chain_map (λ (es : Events). es) expr xs)

pub index_steps : (s : Selector) (xs : List Expr) → out-Selector s ≡ Selector-F.Index xs → (selector s).0 ≡ map (λ (x : Expr). step.Index) xs
index_steps s xs e = ap (λ (p : Selected). p.0) (selector_out s xs e)

pub ruleset expressions = (factor_is, selector_is, args_is, elem_is, expr_is, simple_is, term_is, variable_is, chain_map)
