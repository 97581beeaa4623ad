-- Which tokens an expression spells.
use Rattle.std.proofs.Common.{◌≡◌, ℕ, zero, suc, true, false, List, [], ◌∷◌, ◌++◌, map, refl, sym, ap, ◌∙◌}
use Rattle.std.specs.List.{flat_map}
use Rattle.estelle_tree.specs.declared.kind.Kind.TheVariants as k
use Rattle.estelle_tree.specs.declared.token.Token.TheVariants as token
use Rattle.estelle_tree.specs.declared.tree.expression.Relation.{Relation}
use Rattle.estelle_tree.specs.declared.tree.expression.Relation.TheVariants as relation
use Rattle.estelle_tree.specs.declared.tree.expression.Adding.{Adding}
use Rattle.estelle_tree.specs.declared.tree.expression.Adding.TheVariants as adding
use Rattle.estelle_tree.specs.declared.tree.expression.Multiplying.{Multiplying}
use Rattle.estelle_tree.specs.declared.tree.expression.Multiplying.TheVariants as multiplying
use Rattle.estelle_tree.specs.declared.tree.expression.Factor.{Factor, out-Factor, map-Factor}
use Rattle.estelle_tree.specs.declared.tree.expression.Factor.TheOpen.{Factor-F, Selector-F}
use Rattle.estelle_tree.specs.declared.tree.expression.Factor.TheFolds.{map-Selector}
use Rattle.estelle_tree.specs.declared.tree.expression.Selector.{Selector, out-Selector}
use Rattle.estelle_tree.specs.declared.tree.expression.Args.{Args, out-Args}
use Rattle.estelle_tree.specs.declared.tree.expression.Elem.{Elem, out-Elem}
use Rattle.estelle_tree.specs.declared.tree.expression.Expr.{Expr, out-Expr}
use Rattle.estelle_tree.specs.declared.tree.expression.Simple.{Simple, out-Simple}
use Rattle.estelle_tree.specs.declared.tree.expression.Term.{Term, out-Term}
use Rattle.estelle_tree.specs.declared.tree.expression.Variable.{Variable, out-Variable}
use Rattle.estelle_tree.specs.Input.{Input}
use Rattle.estelle_tree.specs.Spans.{FactorLayer, SelectorLayer}
use Rattle.estelle_tree.specs.Spelling.{Spelling, Chain, Behind, Separated}
use Rattle.estelle_tree.specs.Expressions.{of_relation, of_adding, of_multiplying, TermOf, SimpleOf, ExprOf, ArgsOf, ElemOf, ElemsOf, SelectorLayerOf, SelectorOf, VariableOf, IsFactorLayer, FactorBelow, ExprBelow, IsFactor, IsExpr, IsArgs, IsVariable}
use Rattle.estelle_printer.specs.Forms.{Tokens, mark, separated, enclosed}
use Rattle.estelle_printer.specs.Canonical.{without_places}
use Rattle.estelle_printer.specs.ExpressionTokens.{factor_layer, selector_layer, factor, selector, args, elem, expr, simple, term, variable}
use Rattle.estelle_printer.proofs.TerminalLaws.{is_plain}
use Rattle.estelle_printer.proofs.WritingLemmas.{separated_map}
use Rattle.estelle_printer.proofs.FormLaws.{Stand, ◌⋯◌, is_calm, ends_so, calm_join, ends_join, follow, none, same_tokens, one_token, Tells, behind, chained, may_be, separate, enclosed_in}
use Rattle.estelle_printer.proofs.TypeLaws.{name_tells, sign_tells, name_no_end, behind_name, dot_name}
use Rattle.estelle_printer.proofs.ExpressionEquations.{factor_is, selector_is, args_is, elem_is, expr_is, simple_is, term_is, variable_is}

relation_one : (r : Relation) → is_plain (of_relation r) ≡ true
relation_one relation.Equal = refl
relation_one _ = refl

adding_one : (a : Adding) → is_plain (of_adding a) ≡ true
adding_one adding.Plus = refl
adding_one _ = refl

multiplying_one : (m : Multiplying) → is_plain (of_multiplying m) ≡ true
multiplying_one multiplying.Star = refl
multiplying_one _ = refl

module _ (F : Spelling Factor) (tells : Tells F factor) where
  pub term_tells : Tells (TermOf F) term
  term_tells t i j h = same_tokens (term_is t) (tells (out-Term t).first i h.mid h.first
      ⋯ chained (λ x. Behind (of_multiplying x.0) F x.1) (λ x. mark (of_multiplying x.0) ++ factor x.1)
      (λ x m n b. behind F factor tells (of_multiplying x.0) (multiplying_one x.0) x.1 m n b) (out-Term t).others h.mid j h.others)

  pub simple_tells : Tells (SimpleOf F) simple
  simple_tells s i j h = same_tokens (simple_is s) (sign_tells (out-Simple s).sign i h.at h.sign
      ⋯ term_tells (out-Simple s).first h.at h.mid h.first
      ⋯ chained (λ x. Behind (of_adding x.0) (TermOf F) x.1) (λ x. mark (of_adding x.0) ++ term x.1)
      (λ x m n b. behind (TermOf F) term term_tells (of_adding x.0) (adding_one x.0) x.1 m n b) (out-Simple s).others h.mid j h.others)

  pub expr_tells : Tells (ExprOf F) expr
  expr_tells e i j h = same_tokens (expr_is e) (simple_tells (out-Expr e).left i h.mid h.left
      ⋯ may_be (λ x. Behind (of_relation x.0) (SimpleOf F) x.1) (λ x. mark (of_relation x.0) ++ simple x.1)
      (λ x m n b. behind (SimpleOf F) simple simple_tells (of_relation x.0) (relation_one x.0) x.1 m n b) (out-Expr e).right h.mid j h.right)

  pub exprs_tell : Tells (Separated k.Comma (ExprOf F)) (separated k.Comma expr)
  exprs_tell = separate (ExprOf F) expr expr_tells k.Comma refl

  pub args_tells : Tells (ArgsOf F) args
  args_tells a i j h = same_tokens (args_is a) (exprs_tell (out-Args a).exprs i j h.exprs)

  elem_tells : Tells (ElemOf F) elem
  elem_tells x i j h = same_tokens (elem_is x) (expr_tells (out-Elem x).first i h.mid h.first
      ⋯ may_be (Behind k.Dots (ExprOf F)) (λ last. mark k.Dots ++ expr last) (behind (ExprOf F) expr expr_tells k.Dots refl) (out-Elem x).last h.mid j h.last)

  elems_tell : Tells (ElemsOf F) (separated k.Comma elem)
  elems_tell [] i j h = none h
  elems_tell (x ∷ xs) i j h = separate (ElemOf F) elem elem_tells k.Comma refl (x ∷ xs) i j h

module _ (room : ℕ) (F : Spelling Factor) (tells : Tells F factor) where
  -- what a selector spells, which may begin with a `.` and does not end with the word `end`
  record Selects (ts : Tokens) (i j : Input) : Type 0 where
    is : without_places i.tokens ≡ ts ++ without_places j.tokens
    calm : is_calm false ts ≡ true
    ends : ends_so false ts ≡ false

  selector_layer_tells : (s : SelectorLayer) (i j : Input) → SelectorLayerOf room F s i j → Selects (selector_layer (map-Selector Factor Selector Args Elem Expr Simple Term Variable Tokens Tokens Tokens Tokens Tokens Tokens Tokens Tokens factor selector args elem expr simple term variable s)) i j
  selector_layer_tells (Selector-F.Index exprs) i j h =
      let s : Stand (selector_layer (Selector-F.Index (map expr exprs))) i j = same_tokens (ap (enclosed k.OpenBracket k.CloseBracket) (separated_map k.Comma expr exprs)) (enclosed_in (Separated k.Comma (ExprOf F)) (separated k.Comma expr) (exprs_tell F tells) k.OpenBracket k.CloseBracket refl refl exprs i j h.1) in
      record { is = s.is; calm = s.calm false; ends = ends_join false (mark k.OpenBracket ++ separated k.Comma (λ x. x) (map expr exprs)) (mark k.CloseBracket) }
  selector_layer_tells (Selector-F.Field n) i j h = record { is = dot_name n i h.at j h.mark h.item; calm = refl; ends = name_no_end n h.at j h.item }

  selector_tells : (s : Selector) (i j : Input) → SelectorOf room F s i j → Selects (selector s) i j
  selector_tells s i j h =
      let l = selector_layer_tells (out-Selector s) i j h in
      let e = selector_is s in
      record { is = l.is ∙ ap (λ ts. ts ++ without_places j.tokens) (sym e); calm = ap (is_calm false) e ∙ l.calm; ends = ap (ends_so false) e ∙ l.ends }

  selectors_tell : (xs : List Selector) (i j : Input) → Chain (SelectorOf room F) xs i j → Selects (flat_map selector xs) i j
  selectors_tell [] i j h = record { is = ap (λ (p : Input). without_places p.tokens) h; calm = refl; ends = refl }
  selectors_tell (x ∷ xs) i j h =
      let s = selector_tells x i h.0 h.1 in
      let t = selectors_tell xs h.0 j h.2 in
      record {
        is = follow (selector x) (flat_map selector xs) i h.0 j s.is t.is;
        calm = calm_join false (selector x) (flat_map selector xs) s.calm (ap (λ c. is_calm c (flat_map selector xs)) s.ends ∙ t.calm);
        ends = ends_join false (selector x) (flat_map selector xs) ∙ ap (λ c. ends_so c (flat_map selector xs)) s.ends ∙ t.ends;
      }

  pub variable_tells : Tells (VariableOf room F) variable
  variable_tells v i j h =
      let s = selectors_tell (out-Variable v).selectors h.mid j h.selectors in
      same_tokens (variable_is v) (behind_name (out-Variable v).name (flat_map selector (out-Variable v).selectors) i h.mid j h.name s.is s.calm)

  factor_layer_tells : (f : FactorLayer) (i j : Input) → IsFactorLayer room F f i j → Stand (factor_layer (map-Factor Factor Selector Args Elem Expr Simple Term Variable Tokens Tokens Tokens Tokens Tokens Tokens Tokens Tokens factor selector args elem expr simple term variable f)) i j
  factor_layer_tells (Factor-F.Number value span) i j h = one_token (token.Number value) i j refl h.0.token h.0.next
  factor_layer_tells (Factor-F.Char value span) i j h = one_token (token.Char value) i j refl h.0.token h.0.next
  factor_layer_tells (Factor-F.Variable v) i j h = variable_tells v i j h
  factor_layer_tells (Factor-F.Call n a span) i j h = name_tells n i h.1.mid h.1.name ⋯ enclosed_in (ArgsOf F) args (args_tells F tells) k.OpenParenthesis k.CloseParenthesis refl refl a h.1.mid j h.1.args
  factor_layer_tells (Factor-F.Paren inner span) i j h = enclosed_in (ExprOf F) expr (expr_tells F tells) k.OpenParenthesis k.CloseParenthesis refl refl inner i j h.1
  factor_layer_tells (Factor-F.Not operand span) i j h = behind F factor tells k.Not refl operand i j h.1
  factor_layer_tells (Factor-F.Set elems span) i j h = same_tokens (ap (enclosed k.OpenBracket k.CloseBracket) (separated_map k.Comma elem elems)) (enclosed_in (ElemsOf F) (separated k.Comma elem) (elems_tell F tells) k.OpenBracket k.CloseBracket refl refl elems i j h.1)

pub factor_below_tells : (room : ℕ) → Tells (FactorBelow room) factor
factor_below_tells zero f i j h = absurd h
factor_below_tells (suc room) f i j h = same_tokens (factor_is f) (factor_layer_tells room (FactorBelow room) (factor_below_tells room) (out-Factor f) i j h)

pub expr_below_tells : (room : ℕ) → Tells (ExprBelow room) expr
expr_below_tells room = expr_tells (FactorBelow room) (factor_below_tells room)

pub is_expr_tells : (room : ℕ) → Tells (IsExpr room) expr
is_expr_tells room = expr_tells (IsFactor room) (factor_below_tells (suc room))

pub is_args_tells : (room : ℕ) → Tells (IsArgs room) args
is_args_tells room = args_tells (IsFactor room) (factor_below_tells (suc room))

pub is_variable_tells : (room : ℕ) → Tells (IsVariable room) variable
is_variable_tells room = variable_tells room (FactorBelow room) (factor_below_tells room)
