-- Expressions, moved.
use Rattle.std.proofs.Common.{◌≡◌, ℕ, zero, suc, [], ◌∷◌, map, Option, Some, None, sym, refl, ap, ◌∙◌}
use Rattle.std.specs.Option.{option_map}
use Rattle.estelle_tree.specs.declared.span.Span.{Span}
use Rattle.estelle_tree.specs.declared.kind.Kind.TheVariants as k
use Rattle.estelle_tree.specs.declared.tree.expression.Relation.{Relation}
use Rattle.estelle_tree.specs.declared.tree.expression.Factor.{Factor, out-Factor, roll-Factor, map-Factor, fold_out-Factor, fold-roll-Factor}
use Rattle.estelle_tree.specs.declared.tree.expression.Factor.TheOpen.{Factor-F, Selector-F, Args-F, Elem-F, Expr-F, Simple-F, Term-F, Variable-F}
use Rattle.estelle_tree.specs.declared.tree.expression.Factor.TheFolds.{map-Selector, map-Elem, map-Expr, fold_out-Selector, fold_out-Args, fold_out-Elem, fold_out-Expr, fold_out-Simple, fold_out-Term, fold_out-Variable, fold-roll-Selector, fold-roll-Args, fold-roll-Elem, fold-roll-Expr, fold-roll-Simple, fold-roll-Term, fold-roll-Variable}
use Rattle.estelle_tree.specs.declared.tree.expression.Factor.TheViews.{out-roll-Factor, out-roll-Selector, out-roll-Args, out-roll-Elem, out-roll-Expr, out-roll-Simple}
use Rattle.estelle_tree.specs.declared.tree.expression.Selector.{Selector, out-Selector, roll-Selector}
use Rattle.estelle_tree.specs.declared.tree.expression.Args.{Args, out-Args, roll-Args}
use Rattle.estelle_tree.specs.declared.tree.expression.Elem.{Elem, out-Elem, roll-Elem}
use Rattle.estelle_tree.specs.declared.tree.expression.Expr.{Expr, out-Expr, roll-Expr}
use Rattle.estelle_tree.specs.declared.tree.expression.Simple.{Simple, out-Simple, roll-Simple}
use Rattle.estelle_tree.specs.declared.tree.expression.Term.{Term, out-Term, roll-Term}
use Rattle.estelle_tree.specs.declared.tree.expression.Variable.{Variable, out-Variable, roll-Variable}
use Rattle.estelle_tree.specs.Input.{between}
use Rattle.estelle_tree.specs.Spans.{FactorLayer, SelectorLayer, nowhere}
use Rattle.estelle_tree.specs.Spelling.{Spelling, Separated, Behind}
use Rattle.estelle_tree.specs.Types.{IsName, of_sign}
use Rattle.estelle_tree.specs.Expressions.{of_relation, of_adding, of_multiplying, TermOf, SimpleOf, ExprOf, ArgsOf, ElemOf, ElemsOf, SelectorLayerOf, SelectorOf, VariableOf, IsFactorLayer, FactorBelow, ExprBelow, IsExpr, IsArgs, IsVariable}
use Rattle.round_trip.specs.Types.{bare_name}
use Rattle.round_trip.specs.Expressions.{factor_layer, selector_layer, args_layer, elem_layer, expr_layer, simple_layer, term_layer, variable_layer, bare_factor, bare_selector, bare_args, bare_elem, bare_expr, bare_simple, bare_term, bare_variable}
use Rattle.round_trip.proofs.Moves.{nothing, mark, Moves, ap2, optional, chain, behind, enclosed, separated, marked, rolling}
use Rattle.round_trip.proofs.TypeMoves.{name_moves, number_moves, char_moves}

-- ---- one level without spans, for each type of node

abbrev pub layer_of_factor : FactorLayer → Factor
layer_of_factor l = factor_layer (map-Factor Factor Selector Args Elem Expr Simple Term Variable Factor Selector Args Elem Expr Simple Term Variable bare_factor bare_selector bare_args bare_elem bare_expr bare_simple bare_term bare_variable l)

factor_rolled : (l : FactorLayer) → bare_factor (roll-Factor l) ≡ layer_of_factor l
unfolding bare_factor bare_selector bare_args bare_elem bare_expr bare_simple bare_term bare_variable
factor_rolled l = fold-roll-Factor Factor Selector Args Elem Expr Simple Term Variable factor_layer selector_layer args_layer elem_layer expr_layer simple_layer term_layer variable_layer l

pub factor_opened : (x : Factor) → bare_factor x ≡ layer_of_factor (out-Factor x)
unfolding bare_factor bare_selector bare_args bare_elem bare_expr bare_simple bare_term bare_variable
factor_opened x = fold_out-Factor Factor Selector Args Elem Expr Simple Term Variable factor_layer selector_layer args_layer elem_layer expr_layer simple_layer term_layer variable_layer x

abbrev pub layer_of_selector : SelectorLayer → Selector
layer_of_selector l = selector_layer (map-Selector Factor Selector Args Elem Expr Simple Term Variable Factor Selector Args Elem Expr Simple Term Variable bare_factor bare_selector bare_args bare_elem bare_expr bare_simple bare_term bare_variable l)

selector_rolled : (l : SelectorLayer) → bare_selector (roll-Selector l) ≡ layer_of_selector l
unfolding bare_factor bare_selector bare_args bare_elem bare_expr bare_simple bare_term bare_variable
selector_rolled l = fold-roll-Selector Factor Selector Args Elem Expr Simple Term Variable factor_layer selector_layer args_layer elem_layer expr_layer simple_layer term_layer variable_layer l

pub selector_opened : (x : Selector) → bare_selector x ≡ layer_of_selector (out-Selector x)
unfolding bare_factor bare_selector bare_args bare_elem bare_expr bare_simple bare_term bare_variable
selector_opened x = fold_out-Selector Factor Selector Args Elem Expr Simple Term Variable factor_layer selector_layer args_layer elem_layer expr_layer simple_layer term_layer variable_layer x

abbrev pub layer_of_args : Args-F Factor Selector Args Elem Expr Simple Term Variable → Args
layer_of_args l = roll-Args (record { exprs = map bare_expr l.exprs; span = nowhere })

args_rolled : (l : Args-F Factor Selector Args Elem Expr Simple Term Variable) → bare_args (roll-Args l) ≡ layer_of_args l
unfolding bare_factor bare_selector bare_args bare_elem bare_expr bare_simple bare_term bare_variable
args_rolled l = fold-roll-Args Factor Selector Args Elem Expr Simple Term Variable factor_layer selector_layer args_layer elem_layer expr_layer simple_layer term_layer variable_layer l

pub args_opened : (x : Args) → bare_args x ≡ layer_of_args (out-Args x)
unfolding bare_factor bare_selector bare_args bare_elem bare_expr bare_simple bare_term bare_variable
args_opened x = fold_out-Args Factor Selector Args Elem Expr Simple Term Variable factor_layer selector_layer args_layer elem_layer expr_layer simple_layer term_layer variable_layer x

abbrev pub layer_of_elem : Elem-F Factor Selector Args Elem Expr Simple Term Variable → Elem
layer_of_elem l = roll-Elem (record { first = bare_expr l.first; last = option_map bare_expr l.last; span = nowhere })

elem_computed : (l : Elem-F Factor Selector Args Elem Expr Simple Term Variable) → elem_layer (map-Elem Factor Selector Args Elem Expr Simple Term Variable Factor Selector Args Elem Expr Simple Term Variable bare_factor bare_selector bare_args bare_elem bare_expr bare_simple bare_term bare_variable l) ≡ layer_of_elem l
elem_computed l = go l.first l.last l.span
  where
    go : (first : Expr) (last : Option Expr) (span : Span) → elem_layer (map-Elem Factor Selector Args Elem Expr Simple Term Variable Factor Selector Args Elem Expr Simple Term Variable bare_factor bare_selector bare_args bare_elem bare_expr bare_simple bare_term bare_variable (record { first = first; last = last; span = span })) ≡ layer_of_elem (record { first = first; last = last; span = span })
    go first None span = refl
    go first (Some x) span = refl

elem_rolled : (l : Elem-F Factor Selector Args Elem Expr Simple Term Variable) → bare_elem (roll-Elem l) ≡ layer_of_elem l
unfolding bare_factor bare_selector bare_args bare_elem bare_expr bare_simple bare_term bare_variable
elem_rolled l = fold-roll-Elem Factor Selector Args Elem Expr Simple Term Variable factor_layer selector_layer args_layer elem_layer expr_layer simple_layer term_layer variable_layer l ∙ elem_computed l

pub elem_opened : (x : Elem) → bare_elem x ≡ layer_of_elem (out-Elem x)
unfolding bare_factor bare_selector bare_args bare_elem bare_expr bare_simple bare_term bare_variable
elem_opened x = fold_out-Elem Factor Selector Args Elem Expr Simple Term Variable factor_layer selector_layer args_layer elem_layer expr_layer simple_layer term_layer variable_layer x ∙ elem_computed (out-Elem x)

abbrev pub layer_of_expr : Expr-F Factor Selector Args Elem Expr Simple Term Variable → Expr
layer_of_expr l = roll-Expr (record { left = bare_simple l.left; right = option_map (λ y. (y.0, bare_simple y.1)) l.right; span = nowhere })

expr_computed : (l : Expr-F Factor Selector Args Elem Expr Simple Term Variable) → expr_layer (map-Expr Factor Selector Args Elem Expr Simple Term Variable Factor Selector Args Elem Expr Simple Term Variable bare_factor bare_selector bare_args bare_elem bare_expr bare_simple bare_term bare_variable l) ≡ layer_of_expr l
expr_computed l = go l.left l.right l.span
  where
    go : (left : Simple) (right : Option (Relation × Simple)) (span : Span) → expr_layer (map-Expr Factor Selector Args Elem Expr Simple Term Variable Factor Selector Args Elem Expr Simple Term Variable bare_factor bare_selector bare_args bare_elem bare_expr bare_simple bare_term bare_variable (record { left = left; right = right; span = span })) ≡ layer_of_expr (record { left = left; right = right; span = span })
    go left None span = refl
    go left (Some x) span = refl

expr_rolled : (l : Expr-F Factor Selector Args Elem Expr Simple Term Variable) → bare_expr (roll-Expr l) ≡ layer_of_expr l
unfolding bare_factor bare_selector bare_args bare_elem bare_expr bare_simple bare_term bare_variable
expr_rolled l = fold-roll-Expr Factor Selector Args Elem Expr Simple Term Variable factor_layer selector_layer args_layer elem_layer expr_layer simple_layer term_layer variable_layer l ∙ expr_computed l

pub expr_opened : (x : Expr) → bare_expr x ≡ layer_of_expr (out-Expr x)
unfolding bare_factor bare_selector bare_args bare_elem bare_expr bare_simple bare_term bare_variable
expr_opened x = fold_out-Expr Factor Selector Args Elem Expr Simple Term Variable factor_layer selector_layer args_layer elem_layer expr_layer simple_layer term_layer variable_layer x ∙ expr_computed (out-Expr x)

abbrev pub layer_of_simple : Simple-F Factor Selector Args Elem Expr Simple Term Variable → Simple
layer_of_simple l = roll-Simple (record { sign = l.sign; first = bare_term l.first; others = map (λ y. (y.0, bare_term y.1)) l.others; span = nowhere })

simple_rolled : (l : Simple-F Factor Selector Args Elem Expr Simple Term Variable) → bare_simple (roll-Simple l) ≡ layer_of_simple l
unfolding bare_factor bare_selector bare_args bare_elem bare_expr bare_simple bare_term bare_variable
simple_rolled l = fold-roll-Simple Factor Selector Args Elem Expr Simple Term Variable factor_layer selector_layer args_layer elem_layer expr_layer simple_layer term_layer variable_layer l

pub simple_opened : (x : Simple) → bare_simple x ≡ layer_of_simple (out-Simple x)
unfolding bare_factor bare_selector bare_args bare_elem bare_expr bare_simple bare_term bare_variable
simple_opened x = fold_out-Simple Factor Selector Args Elem Expr Simple Term Variable factor_layer selector_layer args_layer elem_layer expr_layer simple_layer term_layer variable_layer x

abbrev pub layer_of_term : Term-F Factor Selector Args Elem Expr Simple Term Variable → Term
layer_of_term l = roll-Term (record { first = bare_factor l.first; others = map (λ y. (y.0, bare_factor y.1)) l.others; span = nowhere })

term_rolled : (l : Term-F Factor Selector Args Elem Expr Simple Term Variable) → bare_term (roll-Term l) ≡ layer_of_term l
unfolding bare_factor bare_selector bare_args bare_elem bare_expr bare_simple bare_term bare_variable
term_rolled l = fold-roll-Term Factor Selector Args Elem Expr Simple Term Variable factor_layer selector_layer args_layer elem_layer expr_layer simple_layer term_layer variable_layer l

pub term_opened : (x : Term) → bare_term x ≡ layer_of_term (out-Term x)
unfolding bare_factor bare_selector bare_args bare_elem bare_expr bare_simple bare_term bare_variable
term_opened x = fold_out-Term Factor Selector Args Elem Expr Simple Term Variable factor_layer selector_layer args_layer elem_layer expr_layer simple_layer term_layer variable_layer x

abbrev pub layer_of_variable : Variable-F Factor Selector Args Elem Expr Simple Term Variable → Variable
layer_of_variable l = roll-Variable (record { name = bare_name l.name; selectors = map bare_selector l.selectors; span = nowhere })

variable_rolled : (l : Variable-F Factor Selector Args Elem Expr Simple Term Variable) → bare_variable (roll-Variable l) ≡ layer_of_variable l
unfolding bare_factor bare_selector bare_args bare_elem bare_expr bare_simple bare_term bare_variable
variable_rolled l = fold-roll-Variable Factor Selector Args Elem Expr Simple Term Variable factor_layer selector_layer args_layer elem_layer expr_layer simple_layer term_layer variable_layer l

pub variable_opened : (x : Variable) → bare_variable x ≡ layer_of_variable (out-Variable x)
unfolding bare_factor bare_selector bare_args bare_elem bare_expr bare_simple bare_term bare_variable
variable_opened x = fold_out-Variable Factor Selector Args Elem Expr Simple Term Variable factor_layer selector_layer args_layer elem_layer expr_layer simple_layer term_layer variable_layer x

-- ---- over the factors

module _ (F : Spelling Factor) (moves : Moves F bare_factor) where
  term_moves : Moves (TermOf F) bare_term
  term_moves t i j i' h s =
      let m = moves (out-Term t).first _ _ _ h.first s in
      let n = chain (λ x. Behind (of_multiplying x.0) F x.1) (λ x. (x.0, bare_factor x.1)) (marked of_multiplying F bare_factor moves) (out-Term t).others _ _ _ h.others m.alike in
      let l : Term-F Factor Selector Args Elem Expr Simple Term Variable = record { first = m.thing; others = n.thing; span = between i' n.end } in
      record {
        thing = roll-Term l;
        end = n.end;
        is = record { mid = m.end; first = m.is; others = n.is; span = refl };
        same = term_rolled l ∙ ap2 (λ a b. roll-Term (record { first = a; others = b; span = nowhere })) m.same n.same ∙ sym (term_opened t);
        alike = n.alike;
      }

  simple_moves : Moves (SimpleOf F) bare_simple
  simple_moves x i j i' h s =
      let p = mark of_sign (out-Simple x).sign h.sign s in
      let m = term_moves (out-Simple x).first _ _ _ h.first p.alike in
      let n = chain (λ x. Behind (of_adding x.0) (TermOf F) x.1) (λ x. (x.0, bare_term x.1)) (marked of_adding (TermOf F) bare_term term_moves) (out-Simple x).others _ _ _ h.others m.alike in
      let l : Simple-F Factor Selector Args Elem Expr Simple Term Variable = record { sign = (out-Simple x).sign; first = m.thing; others = n.thing; span = between i' n.end } in
      record {
        thing = roll-Simple l;
        end = n.end;
        is = record { at = p.end; mid = m.end; sign = rw out-roll-Simple p.is; first = rw out-roll-Simple m.is; others = rw out-roll-Simple n.is; span = rw out-roll-Simple refl };
        same = simple_rolled l ∙ ap2 (λ a b. roll-Simple (record { sign = (out-Simple x).sign; first = a; others = b; span = nowhere })) m.same n.same ∙ sym (simple_opened x);
        alike = n.alike;
      }

  pub expr_of_moves : Moves (ExprOf F) bare_expr
  expr_of_moves x i j i' h s =
      let m = simple_moves (out-Expr x).left _ _ _ h.left s in
      let n = optional (λ x. Behind (of_relation x.0) (SimpleOf F) x.1) (λ x. (x.0, bare_simple x.1)) (marked of_relation (SimpleOf F) bare_simple simple_moves) (out-Expr x).right _ _ _ h.right m.alike in
      let l : Expr-F Factor Selector Args Elem Expr Simple Term Variable = record { left = m.thing; right = n.thing; span = between i' n.end } in
      record {
        thing = roll-Expr l;
        end = n.end;
        is = record { mid = m.end; left = rw out-roll-Expr m.is; right = rw out-roll-Expr n.is; span = rw out-roll-Expr refl };
        same = expr_rolled l ∙ ap2 (λ a b. roll-Expr (record { left = a; right = b; span = nowhere })) m.same n.same ∙ sym (expr_opened x);
        alike = n.alike;
      }

  pub args_of_moves : Moves (ArgsOf F) bare_args
  args_of_moves x i j i' h s =
      let m = separated (ExprOf F) bare_expr expr_of_moves k.Comma (out-Args x).exprs _ _ _ h.exprs s in
      let l : Args-F Factor Selector Args Elem Expr Simple Term Variable = record { exprs = m.thing; span = between i' m.end } in
      record {
        thing = roll-Args l;
        end = m.end;
        is = record { exprs = rw out-roll-Args m.is; span = rw out-roll-Args refl };
        same = args_rolled l ∙ ap (λ a. roll-Args (record { exprs = a; span = nowhere })) m.same ∙ sym (args_opened x);
        alike = m.alike;
      }

  elem_moves : Moves (ElemOf F) bare_elem
  elem_moves x i j i' h s =
      let m = expr_of_moves (out-Elem x).first _ _ _ h.first s in
      let n = optional (Behind k.Dots (ExprOf F)) bare_expr (behind (ExprOf F) bare_expr expr_of_moves k.Dots) (out-Elem x).last _ _ _ h.last m.alike in
      let l : Elem-F Factor Selector Args Elem Expr Simple Term Variable = record { first = m.thing; last = n.thing; span = between i' n.end } in
      record {
        thing = roll-Elem l;
        end = n.end;
        is = record { mid = m.end; first = rw out-roll-Elem m.is; last = rw out-roll-Elem n.is; span = rw out-roll-Elem refl };
        same = elem_rolled l ∙ ap2 (λ a b. roll-Elem (record { first = a; last = b; span = nowhere })) m.same n.same ∙ sym (elem_opened x);
        alike = n.alike;
      }

  elems_moves : Moves (ElemsOf F) (map bare_elem)
  elems_moves [] i j i' h s = let p = nothing h s in record { thing = []; end = p.end; is = p.is; same = refl; alike = p.alike }
  elems_moves (x ∷ xs) i j i' h s =
      let m = elem_moves x _ _ _ h.1 s in
      let n = chain (Behind k.Comma (ElemOf F)) bare_elem (behind (ElemOf F) bare_elem elem_moves k.Comma) xs _ _ _ h.2 m.alike in
      record { thing = m.thing ∷ n.thing; end = n.end; is = (m.end, m.is, n.is); same = ap2 (λ y ys. y ∷ ys) m.same n.same; alike = n.alike }

module _ (room : ℕ) (F : Spelling Factor) (moves : Moves F bare_factor) where
  selector_layer_moves : Moves (SelectorLayerOf room F) layer_of_selector
  selector_layer_moves (Selector-F.Index exprs) i j i' h s =
      let m = enclosed (Separated k.Comma (ExprOf F)) (map bare_expr) (separated (ExprOf F) bare_expr (expr_of_moves F moves) k.Comma) k.OpenBracket k.CloseBracket exprs _ _ _ h.1 s in
      record { thing = Selector-F.Index m.thing; end = m.end; is = (h.0, m.is); same = ap (λ a. roll-Selector (Selector-F.Index a)) m.same; alike = m.alike }
  selector_layer_moves (Selector-F.Field name) i j i' h s =
      let m = behind IsName bare_name name_moves k.Dot name _ _ _ h s in
      record { thing = Selector-F.Field m.thing; end = m.end; is = m.is; same = ap (λ a. roll-Selector (Selector-F.Field a)) m.same; alike = m.alike }

  selector_moves : Moves (SelectorOf room F) bare_selector
  selector_moves = rolling (SelectorLayerOf room F) layer_of_selector out-Selector roll-Selector bare_selector out-roll-Selector selector_rolled selector_opened selector_layer_moves

  pub variable_of_moves : Moves (VariableOf room F) bare_variable
  variable_of_moves x i j i' h s =
      let m = name_moves (out-Variable x).name _ _ _ h.name s in
      let n = chain (SelectorOf room F) bare_selector selector_moves (out-Variable x).selectors _ _ _ h.selectors m.alike in
      let l : Variable-F Factor Selector Args Elem Expr Simple Term Variable = record { name = m.thing; selectors = n.thing; span = between i' n.end } in
      record {
        thing = roll-Variable l;
        end = n.end;
        is = record { mid = m.end; name = m.is; selectors = n.is; span = refl };
        same = variable_rolled l ∙ ap2 (λ a b. roll-Variable (record { name = a; selectors = b; span = nowhere })) m.same n.same ∙ sym (variable_opened x);
        alike = n.alike;
      }

  factor_layer_moves : Moves (IsFactorLayer room F) layer_of_factor
  factor_layer_moves (Factor-F.Number value span) i j i' h s =
      let m = number_moves value _ _ _ h.0 s in
      record { thing = Factor-F.Number m.thing (between i' m.end); end = m.end; is = (m.is, refl); same = ap (λ n. roll-Factor (Factor-F.Number n nowhere)) m.same; alike = m.alike }
  factor_layer_moves (Factor-F.Char value span) i j i' h s =
      let m = char_moves value _ _ _ h.0 s in
      record { thing = Factor-F.Char m.thing (between i' m.end); end = m.end; is = (m.is, refl); same = ap (λ c. roll-Factor (Factor-F.Char c nowhere)) m.same; alike = m.alike }
  factor_layer_moves (Factor-F.Variable variable) i j i' h s =
      let m = variable_of_moves variable _ _ _ h s in
      record { thing = Factor-F.Variable m.thing; end = m.end; is = m.is; same = ap (λ v. roll-Factor (Factor-F.Variable v)) m.same; alike = m.alike }
  factor_layer_moves (Factor-F.Call name args span) i j i' h s =
      let m = name_moves name _ _ _ h.1.name s in
      let n = enclosed (ArgsOf F) bare_args (args_of_moves F moves) k.OpenParenthesis k.CloseParenthesis args _ _ _ h.1.args m.alike in
      record {
        thing = Factor-F.Call m.thing n.thing (between i' n.end);
        end = n.end;
        is = (h.0, record { mid = m.end; name = m.is; args = n.is }, refl);
        same = ap2 (λ a b. roll-Factor (Factor-F.Call a b nowhere)) m.same n.same;
        alike = n.alike;
      }
  factor_layer_moves (Factor-F.Paren inner span) i j i' h s =
      let m = enclosed (ExprOf F) bare_expr (expr_of_moves F moves) k.OpenParenthesis k.CloseParenthesis inner _ _ _ h.1 s in
      record { thing = Factor-F.Paren m.thing (between i' m.end); end = m.end; is = (h.0, m.is, refl); same = ap (λ e. roll-Factor (Factor-F.Paren e nowhere)) m.same; alike = m.alike }
  factor_layer_moves (Factor-F.Not operand span) i j i' h s =
      let m = behind F bare_factor moves k.Not operand _ _ _ h.1 s in
      record { thing = Factor-F.Not m.thing (between i' m.end); end = m.end; is = (h.0, m.is, refl); same = ap (λ f. roll-Factor (Factor-F.Not f nowhere)) m.same; alike = m.alike }
  factor_layer_moves (Factor-F.Set elems span) i j i' h s =
      let m = enclosed (ElemsOf F) (map bare_elem) (elems_moves F moves) k.OpenBracket k.CloseBracket elems _ _ _ h.1 s in
      record { thing = Factor-F.Set m.thing (between i' m.end); end = m.end; is = (h.0, m.is, refl); same = ap (λ xs. roll-Factor (Factor-F.Set xs nowhere)) m.same; alike = m.alike }

-- ---- at each room

pub factor_below_moves : (room : ℕ) → Moves (FactorBelow room) bare_factor
factor_below_moves zero f i j i' h s = absurd h
factor_below_moves (suc room) f i j i' h s =
    rolling (IsFactorLayer room (FactorBelow room)) layer_of_factor out-Factor roll-Factor bare_factor out-roll-Factor factor_rolled factor_opened
    (factor_layer_moves room (FactorBelow room) (factor_below_moves room)) f i j i' h s

pub expr_below_moves : (room : ℕ) → Moves (ExprBelow room) bare_expr
expr_below_moves room = expr_of_moves (FactorBelow room) (factor_below_moves room)

pub expr_moves : (room : ℕ) → Moves (IsExpr room) bare_expr
expr_moves room = expr_below_moves (suc room)

pub args_moves : (room : ℕ) → Moves (IsArgs room) bare_args
args_moves room = args_of_moves (FactorBelow (suc room)) (factor_below_moves (suc room))

pub variable_moves : (room : ℕ) → Moves (IsVariable room) bare_variable
variable_moves room = variable_of_moves room (FactorBelow room) (factor_below_moves room)
