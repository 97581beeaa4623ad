-- Expressions without their spans, where tokens have no places.
use Rattle.std.proofs.Common.{ℕ, zero, suc, [], ◌∷◌, map, sym, subst}
use Rattle.std.specs.Option.{option_map}
use Rattle.estelle_tree.specs.declared.kind.Kind.TheVariants as k
use Rattle.estelle_tree.specs.declared.tree.expression.Factor.{Factor, out-Factor, roll-Factor}
use Rattle.estelle_tree.specs.declared.tree.expression.Factor.TheOpen.{Factor-F, Selector-F, Args-F, Elem-F, Expr-F, Simple-F}
use Rattle.estelle_tree.specs.declared.tree.expression.Factor.TheViews.{out-roll-Factor, out-roll-Selector, out-roll-Args, out-roll-Elem, out-roll-Expr, out-roll-Simple}
use Rattle.estelle_tree.specs.declared.tree.expression.Selector.{Selector, out-Selector, roll-Selector}
use Rattle.estelle_tree.specs.declared.tree.expression.Args.{Args, out-Args}
use Rattle.estelle_tree.specs.declared.tree.expression.Elem.{Elem, out-Elem}
use Rattle.estelle_tree.specs.declared.tree.expression.Expr.{Expr, out-Expr}
use Rattle.estelle_tree.specs.declared.tree.expression.Simple.{Simple, out-Simple}
use Rattle.estelle_tree.specs.declared.tree.expression.Term.{Term, out-Term}
use Rattle.estelle_tree.specs.declared.tree.expression.Variable.{Variable, out-Variable}
use Rattle.estelle_tree.specs.Input.{Input}
use Rattle.estelle_tree.specs.Spans.{FactorLayer, SelectorLayer, nowhere}
use Rattle.estelle_tree.specs.Spelling.{Spelling, Separated, Behind}
use Rattle.estelle_tree.specs.Types.{IsName, of_sign}
use Rattle.estelle_tree.specs.Expressions.{of_relation, of_adding, of_multiplying, TermOf, SimpleOf, ExprOf, ArgsOf, ElemOf, ElemsOf, SelectorLayerOf, SelectorOf, VariableOf, IsFactorLayer, FactorBelow, ExprBelow, IsExpr, IsArgs, IsVariable}
use Rattle.round_trip.specs.Types.{bare_name}
use Rattle.round_trip.specs.Expressions.{bare_factor, bare_selector, bare_args, bare_elem, bare_expr, bare_simple, bare_term, bare_variable}
use Rattle.round_trip.proofs.ExpressionMoves.{layer_of_factor, layer_of_selector, factor_opened, selector_opened, args_opened, elem_opened, expr_opened, simple_opened, term_opened, variable_opened}
use Rattle.round_trip.proofs.PlainForms.{plain, Plain, nothing, no_span, mark, optional, chain, behind, enclosed, separated, marked, rolling}
use Rattle.round_trip.proofs.PlainTypes.{plain_name, plain_number, plain_char}

module _ (F : Spelling Factor) (plainly : Plain F bare_factor) where
  plain_term : Plain (TermOf F) bare_term
  plain_term t i j h = subst (λ y. TermOf F y (plain i) (plain j)) (sym (term_opened t)) (record {
    mid = plain h.mid;
    first = plainly (out-Term t).first i h.mid h.first;
    others = chain (λ x. Behind (of_multiplying x.0) F x.1) (λ x. (x.0, bare_factor x.1)) (marked of_multiplying F bare_factor plainly) (out-Term t).others h.mid j h.others;
    span = no_span i j;
  })

  plain_simple : Plain (SimpleOf F) bare_simple
  plain_simple x i j h =
      let l : Simple-F Factor Selector Args Elem Expr Simple Term Variable = record { sign = (out-Simple x).sign; first = bare_term (out-Simple x).first; others = map (λ y. (y.0, bare_term y.1)) (out-Simple x).others; span = nowhere } in
      let first = plain_term (out-Simple x).first h.at h.mid h.first in
      let others = chain (λ x. Behind (of_adding x.0) (TermOf F) x.1) (λ x. (x.0, bare_term x.1)) (marked of_adding (TermOf F) bare_term plain_term) (out-Simple x).others h.mid j h.others in
      subst (λ y. SimpleOf F y (plain i) (plain j)) (sym (simple_opened x)) (record {
        at = plain h.at;
        mid = plain h.mid;
        sign = rw (out-roll-Simple l) (mark of_sign (out-Simple x).sign _ _ h.sign);
        first = rw (out-roll-Simple l) first;
        others = rw (out-roll-Simple l) others;
        span = rw (out-roll-Simple l) (no_span i j);
      })

  pub plain_expr_of : Plain (ExprOf F) bare_expr
  plain_expr_of x i j h =
      let l : Expr-F Factor Selector Args Elem Expr Simple Term Variable = record { left = bare_simple (out-Expr x).left; right = option_map (λ y. (y.0, bare_simple y.1)) (out-Expr x).right; span = nowhere } in
      let left = plain_simple (out-Expr x).left i h.mid h.left in
      let right = optional (λ x. Behind (of_relation x.0) (SimpleOf F) x.1) (λ x. (x.0, bare_simple x.1)) (marked of_relation (SimpleOf F) bare_simple plain_simple) (out-Expr x).right h.mid j h.right in
      subst (λ y. ExprOf F y (plain i) (plain j)) (sym (expr_opened x)) (record {
        mid = plain h.mid;
        left = rw (out-roll-Expr l) left;
        right = rw (out-roll-Expr l) right;
        span = rw (out-roll-Expr l) (no_span i j);
      })

  pub plain_args_of : Plain (ArgsOf F) bare_args
  plain_args_of x i j h =
      let l : Args-F Factor Selector Args Elem Expr Simple Term Variable = record { exprs = map bare_expr (out-Args x).exprs; span = nowhere } in
      let exprs = separated (ExprOf F) bare_expr plain_expr_of k.Comma (out-Args x).exprs i j h.exprs in
      subst (λ y. ArgsOf F y (plain i) (plain j)) (sym (args_opened x)) (record {
        exprs = rw (out-roll-Args l) exprs;
        span = rw (out-roll-Args l) (no_span i j);
      })

  plain_elem : Plain (ElemOf F) bare_elem
  plain_elem x i j h =
      let l : Elem-F Factor Selector Args Elem Expr Simple Term Variable = record { first = bare_expr (out-Elem x).first; last = option_map bare_expr (out-Elem x).last; span = nowhere } in
      let first = plain_expr_of (out-Elem x).first i h.mid h.first in
      let last = optional (Behind k.Dots (ExprOf F)) bare_expr (behind (ExprOf F) bare_expr plain_expr_of k.Dots) (out-Elem x).last h.mid j h.last in
      subst (λ y. ElemOf F y (plain i) (plain j)) (sym (elem_opened x)) (record {
        mid = plain h.mid;
        first = rw (out-roll-Elem l) first;
        last = rw (out-roll-Elem l) last;
        span = rw (out-roll-Elem l) (no_span i j);
      })

  plain_elems : Plain (ElemsOf F) (map bare_elem)
  plain_elems [] i j h = nothing h
  plain_elems (x ∷ xs) i j h = separated (ElemOf F) bare_elem plain_elem k.Comma (x ∷ xs) i j h

module _ (room : ℕ) (F : Spelling Factor) (plainly : Plain F bare_factor) where
  put_selector : (l : SelectorLayer) (i j : Input) → SelectorLayerOf room F l i j → SelectorLayerOf room F (out-Selector (roll-Selector l)) i j
  put_selector l i j h = subst (λ l. SelectorLayerOf room F l i j) (sym (out-roll-Selector l)) h

  plain_selector_layer : (l : SelectorLayer) (i j : Input) → SelectorLayerOf room F l i j → SelectorLayerOf room F (out-Selector (layer_of_selector l)) (plain i) (plain j)
  plain_selector_layer (Selector-F.Index exprs) i j h = put_selector (Selector-F.Index (map bare_expr exprs)) _ _ (
    h.0,
    enclosed (Separated k.Comma (ExprOf F)) (map bare_expr) (separated (ExprOf F) bare_expr (plain_expr_of F plainly) k.Comma) k.OpenBracket k.CloseBracket exprs i j h.1,
  )
  plain_selector_layer (Selector-F.Field name) i j h = put_selector (Selector-F.Field (bare_name name)) _ _ (behind IsName bare_name plain_name k.Dot name i j h)

  plain_selector : Plain (SelectorOf room F) bare_selector
  plain_selector = rolling (SelectorLayerOf room F) layer_of_selector out-Selector bare_selector selector_opened plain_selector_layer

  pub plain_variable_of : Plain (VariableOf room F) bare_variable
  plain_variable_of x i j h = subst (λ y. VariableOf room F y (plain i) (plain j)) (sym (variable_opened x)) (record {
    mid = plain h.mid;
    name = plain_name (out-Variable x).name i h.mid h.name;
    selectors = chain (SelectorOf room F) bare_selector plain_selector (out-Variable x).selectors h.mid j h.selectors;
    span = no_span i j;
  })

  put : (l : FactorLayer) (i j : Input) → IsFactorLayer room F l i j → IsFactorLayer room F (out-Factor (roll-Factor l)) i j
  put l i j h = subst (λ l. IsFactorLayer room F l i j) (sym (out-roll-Factor l)) h

  plain_layer : (l : FactorLayer) (i j : Input) → IsFactorLayer room F l i j → IsFactorLayer room F (out-Factor (layer_of_factor l)) (plain i) (plain j)
  plain_layer (Factor-F.Number value span) i j h = put (Factor-F.Number value nowhere) _ _ (plain_number value i j h.0, no_span i j)
  plain_layer (Factor-F.Char value span) i j h = put (Factor-F.Char value nowhere) _ _ (plain_char value i j h.0, no_span i j)
  plain_layer (Factor-F.Variable variable) i j h = put (Factor-F.Variable (bare_variable variable)) _ _ (plain_variable_of variable i j h)
  plain_layer (Factor-F.Call name args span) i j h = put (Factor-F.Call (bare_name name) (bare_args args) nowhere) _ _ (
    h.0,
    record { mid = plain h.1.mid; name = plain_name name i h.1.mid h.1.name; args = enclosed (ArgsOf F) bare_args (plain_args_of F plainly) k.OpenParenthesis k.CloseParenthesis args h.1.mid j h.1.args },
    no_span i j,
  )
  plain_layer (Factor-F.Paren inner span) i j h = put (Factor-F.Paren (bare_expr inner) nowhere) _ _ (
    h.0,
    enclosed (ExprOf F) bare_expr (plain_expr_of F plainly) k.OpenParenthesis k.CloseParenthesis inner i j h.1,
    no_span i j,
  )
  plain_layer (Factor-F.Not operand span) i j h = put (Factor-F.Not (bare_factor operand) nowhere) _ _ (h.0, behind F bare_factor plainly k.Not operand i j h.1, no_span i j)
  plain_layer (Factor-F.Set elems span) i j h = put (Factor-F.Set (map bare_elem elems) nowhere) _ _ (
    h.0,
    enclosed (ElemsOf F) (map bare_elem) (plain_elems F plainly) k.OpenBracket k.CloseBracket elems i j h.1,
    no_span i j,
  )

pub plain_below : (room : ℕ) → Plain (FactorBelow room) bare_factor
plain_below zero f i j h = absurd h
plain_below (suc room) f i j h = rolling (IsFactorLayer room (FactorBelow room)) layer_of_factor out-Factor bare_factor factor_opened (plain_layer room (FactorBelow room) (plain_below room)) f i j h

pub plain_expr_below : (room : ℕ) → Plain (ExprBelow room) bare_expr
plain_expr_below room = plain_expr_of (FactorBelow room) (plain_below room)

pub plain_expr : (room : ℕ) → Plain (IsExpr room) bare_expr
plain_expr room = plain_expr_below (suc room)

pub plain_args : (room : ℕ) → Plain (IsArgs room) bare_args
plain_args room = plain_args_of (FactorBelow (suc room)) (plain_below (suc room))

pub plain_variable : (room : ℕ) → Plain (IsVariable room) bare_variable
plain_variable room = plain_variable_of room (FactorBelow room) (plain_below room)
