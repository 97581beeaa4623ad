-- One equation of the tokens for each type of node in expressions.
use Rattle.std.proofs.Common.{◌≡◌, ◌++◌, ap, ◌∙◌, refl, Option, Some, None}
use Rattle.estelle_tree.specs.declared.span.Span.{Span}
use Rattle.std.specs.List.{flat_map}
use Rattle.estelle_tree.specs.declared.kind.Kind.TheVariants as k
use Rattle.estelle_tree.specs.declared.tree.expression.Relation.{Relation}
use Rattle.estelle_tree.specs.declared.tree.expression.Adding.{Adding}
use Rattle.estelle_tree.specs.declared.tree.expression.Multiplying.{Multiplying}
use Rattle.estelle_tree.specs.declared.tree.expression.Factor.{Factor, out-Factor, map-Factor, fold_out-Factor}
use Rattle.estelle_tree.specs.declared.tree.expression.Factor.TheFolds.{map-Selector, map-Elem, map-Expr, fold_out-Selector, fold_out-Args, fold_out-Elem, fold_out-Expr, fold_out-Simple, fold_out-Term, fold_out-Variable}
use Rattle.estelle_tree.specs.declared.tree.expression.Selector.{Selector, out-Selector}
use Rattle.estelle_tree.specs.declared.tree.expression.Args.{Args, out-Args}
use Rattle.estelle_tree.specs.declared.tree.expression.Elem.{Elem, out-Elem}
use Rattle.estelle_tree.specs.declared.tree.expression.Expr.{Expr, out-Expr}
use Rattle.estelle_tree.specs.declared.tree.expression.Simple.{Simple, out-Simple}
use Rattle.estelle_tree.specs.declared.tree.expression.Term.{Term, out-Term}
use Rattle.estelle_tree.specs.declared.tree.expression.Variable.{Variable, out-Variable}
use Rattle.estelle_tree.specs.Expressions.{of_relation, of_adding, of_multiplying}
use Rattle.estelle_printer.proofs.WritingLemmas.{separated_map, chain_map}
use Rattle.estelle_printer.specs.Forms.{Tokens, mark, optional, separated}
use Rattle.estelle_printer.specs.TypeTokens.{name, sign}
use Rattle.estelle_printer.specs.ExpressionTokens.{factor_layer, selector_layer, args_layer, elem_layer, expr_layer, simple_layer, term_layer, variable_layer, factor, selector, args, elem, expr, simple, term, variable}

pub factor_is : (x : Factor) → factor x ≡ factor_layer (map-Factor Factor Selector Args Elem Expr Simple Term Variable Tokens Tokens Tokens Tokens Tokens Tokens Tokens Tokens factor selector args elem expr simple term variable (out-Factor x))
unfolding factor selector args elem expr simple term variable
factor_is x = fold_out-Factor Tokens Tokens Tokens Tokens Tokens Tokens Tokens Tokens factor_layer selector_layer args_layer elem_layer expr_layer simple_layer term_layer variable_layer x

pub selector_is : (x : Selector) → selector x ≡ selector_layer (map-Selector Factor Selector Args Elem Expr Simple Term Variable Tokens Tokens Tokens Tokens Tokens Tokens Tokens Tokens factor selector args elem expr simple term variable (out-Selector x))
unfolding factor selector args elem expr simple term variable
selector_is x = fold_out-Selector Tokens Tokens Tokens Tokens Tokens Tokens Tokens Tokens factor_layer selector_layer args_layer elem_layer expr_layer simple_layer term_layer variable_layer x

pub args_is : (x : Args) → args x ≡ separated k.Comma expr (out-Args x).exprs
unfolding factor selector args elem expr simple term variable
args_is x = fold_out-Args Tokens Tokens Tokens Tokens Tokens Tokens Tokens Tokens factor_layer selector_layer args_layer elem_layer expr_layer simple_layer term_layer variable_layer x ∙ separated_map k.Comma expr (out-Args x).exprs

elem_out : (first : Expr) (span : Span) (last : Option Expr) → elem_layer (map-Elem Factor Selector Args Elem Expr Simple Term Variable Tokens Tokens Tokens Tokens Tokens Tokens Tokens Tokens factor selector args elem expr simple term variable (record { first = first; last = last; span = span })) ≡ expr first ++ optional (λ y. mark k.Dots ++ expr y) last
elem_out first span None = refl
elem_out first span (Some y) = refl

pub elem_is : (x : Elem) → elem x ≡ expr (out-Elem x).first ++ optional (λ last. mark k.Dots ++ expr last) (out-Elem x).last
unfolding factor selector args elem expr simple term variable
elem_is x = fold_out-Elem Tokens Tokens Tokens Tokens Tokens Tokens Tokens Tokens factor_layer selector_layer args_layer elem_layer expr_layer simple_layer term_layer variable_layer x ∙ elem_out (out-Elem x).first (out-Elem x).span (out-Elem x).last

expr_out : (left : Simple) (span : Span) (right : Option (Relation × Simple)) → expr_layer (map-Expr Factor Selector Args Elem Expr Simple Term Variable Tokens Tokens Tokens Tokens Tokens Tokens Tokens Tokens factor selector args elem expr simple term variable (record { left = left; right = right; span = span })) ≡ simple left ++ optional (λ y. mark (of_relation y.0) ++ simple y.1) right
expr_out left span None = refl
expr_out left span (Some y) = refl

pub expr_is : (x : Expr) → expr x ≡ simple (out-Expr x).left ++ optional (λ y. mark (of_relation y.0) ++ simple y.1) (out-Expr x).right
unfolding factor selector args elem expr simple term variable
expr_is x = fold_out-Expr Tokens Tokens Tokens Tokens Tokens Tokens Tokens Tokens factor_layer selector_layer args_layer elem_layer expr_layer simple_layer term_layer variable_layer x ∙ expr_out (out-Expr x).left (out-Expr x).span (out-Expr x).right

pub simple_is : (x : Simple) → simple x ≡ sign (out-Simple x).sign ++ term (out-Simple x).first ++ flat_map (λ y. mark (of_adding y.0) ++ term y.1) (out-Simple x).others
unfolding factor selector args elem expr simple term variable
simple_is x = fold_out-Simple Tokens Tokens Tokens Tokens Tokens Tokens Tokens Tokens factor_layer selector_layer args_layer elem_layer expr_layer simple_layer term_layer variable_layer x ∙ ap (λ ts. sign (out-Simple x).sign ++ term (out-Simple x).first ++ ts) (chain_map (λ (y : Adding × Tokens). mark (of_adding y.0) ++ y.1) (λ (y : Adding × Term). (y.0, term y.1)) (out-Simple x).others)

pub term_is : (x : Term) → term x ≡ factor (out-Term x).first ++ flat_map (λ y. mark (of_multiplying y.0) ++ factor y.1) (out-Term x).others
unfolding factor selector args elem expr simple term variable
term_is x = fold_out-Term Tokens Tokens Tokens Tokens Tokens Tokens Tokens Tokens factor_layer selector_layer args_layer elem_layer expr_layer simple_layer term_layer variable_layer x ∙ ap (λ ts. factor (out-Term x).first ++ ts) (chain_map (λ (y : Multiplying × Tokens). mark (of_multiplying y.0) ++ y.1) (λ (y : Multiplying × Factor). (y.0, factor y.1)) (out-Term x).others)

pub variable_is : (x : Variable) → variable x ≡ name (out-Variable x).name ++ flat_map selector (out-Variable x).selectors
unfolding factor selector args elem expr simple term variable
variable_is x = fold_out-Variable Tokens Tokens Tokens Tokens Tokens Tokens Tokens Tokens factor_layer selector_layer args_layer elem_layer expr_layer simple_layer term_layer variable_layer x ∙ ap (λ ts. name (out-Variable x).name ++ ts) (chain_map (λ ts. ts) selector (out-Variable x).selectors)

pub ruleset expressions = (separated_map, factor_is, selector_is, args_is, elem_is, expr_is, simple_is, term_is, variable_is)
