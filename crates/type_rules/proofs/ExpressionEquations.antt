-- One equation of the types of expressions, and of where rules speak of them, for each type of node.
use Rattle.std.proofs.Common.{◌≡◌, ◌∷◌, List, map, ◌∙◌, refl, Option, Some, None}
use Rattle.std.specs.Prelude.{fold}
use Rattle.estelle_tree.specs.declared.span.Span.{Span}
use Rattle.estelle_tree.specs.declared.tree.expression.Relation.{Relation}
use Rattle.estelle_tree.specs.declared.tree.expression.Adding.{Adding}
use Rattle.estelle_tree.specs.declared.tree.expression.Multiplying.{Multiplying}
use Rattle.estelle_tree.specs.declared.tree.expression.Factor.{Factor, out-Factor, map-Factor, fold_out-Factor}
use Rattle.estelle_tree.specs.declared.tree.expression.Factor.TheFolds.{map-Selector, map-Elem, map-Expr, fold_out-Selector, fold_out-Args, fold_out-Elem, fold_out-Expr, fold_out-Simple, fold_out-Term, fold_out-Variable}
use Rattle.estelle_tree.specs.declared.tree.expression.Selector.{Selector, out-Selector}
use Rattle.estelle_tree.specs.declared.tree.expression.Args.{Args, out-Args}
use Rattle.estelle_tree.specs.declared.tree.expression.Elem.{Elem, out-Elem}
use Rattle.estelle_tree.specs.declared.tree.expression.Expr.{Expr, out-Expr}
use Rattle.estelle_tree.specs.declared.tree.expression.Simple.{Simple, out-Simple}
use Rattle.estelle_tree.specs.declared.tree.expression.Term.{Term, out-Term}
use Rattle.estelle_tree.specs.declared.tree.expression.Variable.{Variable, out-Variable}
use Rattle.type_rules.specs.Meanings.{Env}
use Rattle.type_rules.specs.ExpressionSites.{Judged, Selection, optional, operation, relating, signed, added, multiplied, selected, begun_at, named, factor_layer, selector_layer, args_layer, elem_layer, expr_layer, simple_layer, term_layer, variable_layer, factor, selector, args, elem, expr, simple, term, variable}
use Rattle.type_rules.proofs.Lists.{chain_map, fold_map}

pub factor_is : (env : Env) (x : Factor) → factor env x ≡ factor_layer env (map-Factor Factor Selector Args Elem Expr Simple Term Variable Judged Selection (List Judged) (List Judged) Judged Judged Judged Judged (factor env) (selector env) (args env) (elem env) (expr env) (simple env) (term env) (variable env) (out-Factor x))
unfolding factor selector args elem expr simple term variable
factor_is env x = fold_out-Factor Judged Selection (List Judged) (List Judged) Judged Judged Judged Judged (factor_layer env) selector_layer args_layer elem_layer expr_layer simple_layer term_layer (variable_layer env) x

pub selector_is : (env : Env) (x : Selector) → selector env x ≡ selector_layer (map-Selector Factor Selector Args Elem Expr Simple Term Variable Judged Selection (List Judged) (List Judged) Judged Judged Judged Judged (factor env) (selector env) (args env) (elem env) (expr env) (simple env) (term env) (variable env) (out-Selector x))
unfolding factor selector args elem expr simple term variable
selector_is env x = fold_out-Selector Judged Selection (List Judged) (List Judged) Judged Judged Judged Judged (factor_layer env) selector_layer args_layer elem_layer expr_layer simple_layer term_layer (variable_layer env) x

pub args_is : (env : Env) (x : Args) → args env x ≡ map (expr env) (out-Args x).exprs
unfolding factor selector args elem expr simple term variable
args_is env x = fold_out-Args Judged Selection (List Judged) (List Judged) Judged Judged Judged Judged (factor_layer env) selector_layer args_layer elem_layer expr_layer simple_layer term_layer (variable_layer env) x

elem_out : (env : Env) (first : Expr) (span : Span) (last : Option Expr) → elem_layer (map-Elem Factor Selector Args Elem Expr Simple Term Variable Judged Selection (List Judged) (List Judged) Judged Judged Judged Judged (factor env) (selector env) (args env) (elem env) (expr env) (simple env) (term env) (variable env) (record { first = first; last = last; span = span })) ≡ expr env first ∷ map (expr env) (optional last)
elem_out env first span None = refl
elem_out env first span (Some y) = refl

pub elem_is : (env : Env) (x : Elem) → elem env x ≡ expr env (out-Elem x).first ∷ map (expr env) (optional (out-Elem x).last)
unfolding factor selector args elem expr simple term variable
elem_is env x = fold_out-Elem Judged Selection (List Judged) (List Judged) Judged Judged Judged Judged (factor_layer env) selector_layer args_layer elem_layer expr_layer simple_layer term_layer (variable_layer env) x ∙ elem_out env (out-Elem x).first (out-Elem x).span (out-Elem x).last

-- a simple expression, and another behind a relational operator
abbrev pub related_to : Env → Judged → Option (Relation × Simple) → Judged
related_to env e None = e
related_to env e (Some r) = operation (relating r.0) e (simple env r.1)

expr_out : (env : Env) (left : Simple) (span : Span) (right : Option (Relation × Simple)) → expr_layer (map-Expr Factor Selector Args Elem Expr Simple Term Variable Judged Selection (List Judged) (List Judged) Judged Judged Judged Judged (factor env) (selector env) (args env) (elem env) (expr env) (simple env) (term env) (variable env) (record { left = left; right = right; span = span })) ≡ related_to env (simple env left) right
expr_out env left span None = refl
expr_out env left span (Some y) = refl

pub expr_is : (env : Env) (x : Expr) → expr env x ≡ related_to env (simple env (out-Expr x).left) (out-Expr x).right
unfolding factor selector args elem expr simple term variable
expr_is env x = fold_out-Expr Judged Selection (List Judged) (List Judged) Judged Judged Judged Judged (factor_layer env) selector_layer args_layer elem_layer expr_layer simple_layer term_layer (variable_layer env) x ∙ expr_out env (out-Expr x).left (out-Expr x).span (out-Expr x).right

-- the terms so far, with one more
abbrev pub with_term : Env → Judged → Adding × Term → Judged
with_term env e y = added e (y.0, term env y.1)

pub simple_is : (env : Env) (x : Simple) → simple env x ≡ fold (with_term env) (signed (out-Simple x).span (out-Simple x).sign (term env (out-Simple x).first)) (out-Simple x).others
unfolding factor selector args elem expr simple term variable
simple_is env x = fold_out-Simple Judged Selection (List Judged) (List Judged) Judged Judged Judged Judged (factor_layer env) selector_layer args_layer elem_layer expr_layer simple_layer term_layer (variable_layer env) x ∙ fold_map added (λ (y : Adding × Term). (y.0, term env y.1)) (signed (out-Simple x).span (out-Simple x).sign (term env (out-Simple x).first)) (out-Simple x).others

-- the factors so far, with one more
abbrev pub with_factor : Env → Judged → Multiplying × Factor → Judged
with_factor env e y = multiplied e (y.0, factor env y.1)

pub term_is : (env : Env) (x : Term) → term env x ≡ fold (with_factor env) (factor env (out-Term x).first) (out-Term x).others
unfolding factor selector args elem expr simple term variable
term_is env x = fold_out-Term Judged Selection (List Judged) (List Judged) Judged Judged Judged Judged (factor_layer env) selector_layer args_layer elem_layer expr_layer simple_layer term_layer (variable_layer env) x ∙ fold_map multiplied (λ (y : Multiplying × Factor). (y.0, factor env y.1)) (factor env (out-Term x).first) (out-Term x).others

-- a variable behind a selector
abbrev pub with_selector : Env → Judged → Selector → Judged
with_selector env v s = selected env v (selector env s)

pub variable_is : (env : Env) (x : Variable) → variable env x ≡ fold (with_selector env) (begun_at (out-Variable x).span (named env (out-Variable x).name)) (out-Variable x).selectors
unfolding factor selector args elem expr simple term variable
variable_is env x = fold_out-Variable Judged Selection (List Judged) (List Judged) Judged Judged Judged Judged (factor_layer env) selector_layer args_layer elem_layer expr_layer simple_layer term_layer (variable_layer env) x ∙ fold_map (selected env) (selector env) (begun_at (out-Variable x).span (named env (out-Variable x).name)) (out-Variable x).selectors

pub ruleset expressions = (factor_is, selector_is, args_is, elem_is, expr_is, simple_is, term_is, variable_is, chain_map)
