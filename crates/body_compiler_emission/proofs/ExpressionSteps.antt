-- Expressions step by step, as they are compiled.
use Rattle.std.proofs.Common.{◌≡◌, ◌∙◌, ℕ, List, [], ◌∷◌, length, map, fold, Option, Some, None, refl, sym, ap, true, false}
use Rattle.pascal_values.specs.declared.value.Value.TheVariants as pascal
use Rattle.estelle_tree.specs.declared.span.Span.{Span}
use Rattle.estelle_tree.specs.declared.tree.name.Name.{Name}
use Rattle.estelle_tree.specs.declared.tree.type_expr.Sign.{Sign}
use Rattle.estelle_tree.specs.declared.tree.type_expr.Sign.TheVariants as sign
use Rattle.estelle_tree.specs.declared.tree.expression.Relation.{Relation}
use Rattle.estelle_tree.specs.declared.tree.expression.Relation.TheVariants as relation
use Rattle.estelle_tree.specs.declared.tree.expression.Adding.{Adding}
use Rattle.estelle_tree.specs.declared.tree.expression.Adding.TheVariants as adding
use Rattle.estelle_tree.specs.declared.tree.expression.Multiplying.{Multiplying}
use Rattle.estelle_tree.specs.declared.tree.expression.Multiplying.TheVariants as multiplying
use Rattle.estelle_tree.specs.declared.tree.expression.Factor.{Factor, out-Factor, map-Factor, fold_out-Factor}
use Rattle.estelle_tree.specs.declared.tree.expression.Selector.{Selector, out-Selector}
use Rattle.estelle_tree.specs.declared.tree.expression.Args.{Args, out-Args}
use Rattle.estelle_tree.specs.declared.tree.expression.Elem.{Elem, out-Elem}
use Rattle.estelle_tree.specs.declared.tree.expression.Expr.{Expr, out-Expr}
use Rattle.estelle_tree.specs.declared.tree.expression.Simple.{Simple, out-Simple}
use Rattle.estelle_tree.specs.declared.tree.expression.Term.{Term, out-Term}
use Rattle.estelle_tree.specs.declared.tree.expression.Variable.{Variable, out-Variable}
use Rattle.estelle_tree.specs.declared.tree.expression.Factor.TheOpen.{Factor-F, Selector-F}
use Rattle.estelle_tree.specs.declared.tree.expression.Factor.TheFolds.{map-Selector, map-Args, map-Elem, map-Expr, map-Simple, map-Term, map-Variable, fold-Args, fold-Variable, fold_out-Selector, fold_out-Args, fold_out-Elem, fold_out-Expr, fold_out-Simple, fold_out-Term, fold_out-Variable}
use Rattle.body_code.specs.declared.instr.Instr.{Instr}
use Rattle.body_code.specs.declared.instr.Instr.TheVariants as op
use Rattle.estelle_model.specs.declared.denoter.Host.{Host}
use Rattle.estelle_model.specs.declared.denoter.Host.TheVariants as hosts
use Rattle.body_compiler_pieces.specs.Pieces.{Piece, none, one, ◌⨾◌, fork}
use Rattle.body_compiler_pieces.specs.ExpressionCode as code
use Rattle.body_compiler_pieces.specs.ExpressionCode.{Operand, Selecting, Written, computed, truth, added, added_host, factor_layer, selector_layer, args_layer, elem_layer, expr_layer, simple_layer, term_layer, variable_layer}
use Rattle.body_compiler_emission.specs.Drafts.{Drafted, grown, with_instr, fork_closed}
use Rattle.body_compiler_emission.specs.Scopes.{Scoped, scope_of}
use Rattle.body_compiler_emission.specs.Tails.{truth_tail, sum_tail, product_tail, relation_instr, signed, signed_host}
use Rattle.body_compiler_emission.specs.Emitted.{expr, simple, term, factor, elem, selector, united, valued, designated}
use Rattle.body_compiler_emission.proofs.Growth.{grown_none, grown_one, grown_then}
use Rattle.body_compiler_emission.proofs.Holes.{fork_made}

-- an instruction behind a piece
pub then_one : (p : Piece) (i : Instr) (u : Drafted) → grown (p ⨾ one i) u ≡ with_instr i (grown p u)
then_one p i u = grown_then p (one i) u ∙ grown_one i (grown p u)

-- ---- operators

-- a fork between a push and a piece, and between a piece and a push
pub or_made : (i : Instr) (q : Piece) (u : Drafted) (x y : Instr) (test end : ℕ) → test ≡ length u.instrs → end ≡ length (with_instr i (with_instr x u)).instrs
    → fork_closed test end (grown q (with_instr y (with_instr i (with_instr x u)))) ≡ grown (fork (one i) q) u
or_made i q u x y test end e f =
    ap (λ v. fork_closed test end (grown q (with_instr y v))) (sym (grown_one i (with_instr x u)))
    ∙ fork_made (one i) q u x y test end e (f ∙ ap (λ (v : Drafted). length v.instrs) (sym (grown_one i (with_instr x u))))

pub and_made : (q : Piece) (i : Instr) (u : Drafted) (x y : Instr) (test end : ℕ) → test ≡ length u.instrs → end ≡ length (grown q (with_instr x u)).instrs
    → fork_closed test end (with_instr i (with_instr y (grown q (with_instr x u)))) ≡ grown (fork q (one i)) u
and_made q i u x y test end e f = ap (λ v. fork_closed test end v) (sym (grown_one i (with_instr y (grown q (with_instr x u))))) ∙ fork_made q (one i) u x y test end e f

pub truth_made : (u : Drafted) (x y : Instr) (test end : ℕ) → test ≡ length u.instrs → end ≡ length (with_instr (op.Push (pascal.Bool true)) (with_instr x u)).instrs
    → fork_closed test end (with_instr (op.Push (pascal.Bool false)) (with_instr y (with_instr (op.Push (pascal.Bool true)) (with_instr x u)))) ≡ grown truth_tail u
unfolding truth_tail
truth_made u x y test end e f = ap (λ v. fork_closed test end v) (sym (grown_one (op.Push (pascal.Bool false)) (with_instr y (with_instr (op.Push (pascal.Bool true)) (with_instr x u))))) ∙ or_made (op.Push (pascal.Bool true)) (one (op.Push (pascal.Bool false))) u x y test end e f

truth_is : (q : Piece) (u : Drafted) → grown (truth q) u ≡ grown truth_tail (grown q u)
unfolding truth_tail
truth_is q u = grown_then q (fork (one (op.Push (pascal.Bool true))) (one (op.Push (pascal.Bool false)))) u

pub plus_steps : (q : Piece) (u : Drafted) → grown (sum_tail adding.Plus q) u ≡ with_instr op.Add (grown q u)
unfolding sum_tail
plus_steps q u = then_one q op.Add u

pub minus_steps : (q : Piece) (u : Drafted) → grown (sum_tail adding.Minus q) u ≡ with_instr op.Sub (grown q u)
unfolding sum_tail
minus_steps q u = then_one q op.Sub u

pub or_steps : (q : Piece) (u : Drafted) (x y : Instr) (test end : ℕ) → test ≡ length u.instrs → end ≡ length (with_instr (op.Push (pascal.Bool true)) (with_instr x u)).instrs
    → fork_closed test end (grown truth_tail (grown q (with_instr y (with_instr (op.Push (pascal.Bool true)) (with_instr x u))))) ≡ grown (sum_tail adding.Or q) u
unfolding sum_tail
or_steps q u x y test end e f =
    ap (λ v. fork_closed test end v) (sym (truth_is q (with_instr y (with_instr (op.Push (pascal.Bool true)) (with_instr x u)))))
    ∙ or_made (op.Push (pascal.Bool true)) (truth q) u x y test end e f

pub star_steps : (q : Piece) (u : Drafted) → grown (product_tail multiplying.Star q) u ≡ with_instr op.Mul (grown q u)
unfolding product_tail
star_steps q u = then_one q op.Mul u

pub div_steps : (q : Piece) (u : Drafted) → grown (product_tail multiplying.Div q) u ≡ with_instr op.Div (grown q u)
unfolding product_tail
div_steps q u = then_one q op.Div u

pub mod_steps : (q : Piece) (u : Drafted) → grown (product_tail multiplying.Mod q) u ≡ with_instr op.Mod (grown q u)
unfolding product_tail
mod_steps q u = then_one q op.Mod u

pub and_steps : (q : Piece) (u : Drafted) (x y : Instr) (test end : ℕ) → test ≡ length u.instrs → end ≡ length (grown truth_tail (grown q (with_instr x u))).instrs
    → fork_closed test end (with_instr (op.Push (pascal.Bool false)) (with_instr y (grown truth_tail (grown q (with_instr x u))))) ≡ grown (product_tail multiplying.And q) u
unfolding product_tail
and_steps q u x y test end e f =
    ap (λ v. fork_closed test end (with_instr (op.Push (pascal.Bool false)) (with_instr y v))) (sym (truth_is q (with_instr x u)))
    ∙ and_made (truth q) (op.Push (pascal.Bool false)) u x y test end e (f ∙ ap (λ (v : Drafted). length v.instrs) (sym (truth_is q (with_instr x u))))

added_is : (o : Adding) (p q : Piece) (u : Drafted) → grown (added o p q) u ≡ grown (sum_tail o q) (grown p u)
unfolding sum_tail
added_is adding.Plus p q u = grown_then p (q ⨾ one op.Add) u
added_is adding.Minus p q u = grown_then p (q ⨾ one op.Sub) u
added_is adding.Or p q u = grown_then p (fork (one (op.Push (pascal.Bool true))) (truth q)) u

module _ (t : Scoped) where
  multiplied_is : (o : Multiplying) (p q : Piece) (u : Drafted) → grown (code.multiplied (scope_of t) o p q) u ≡ grown (product_tail o q) (grown p u)
  unfolding product_tail
  multiplied_is multiplying.Star p q u = grown_then p (q ⨾ one op.Mul) u
  multiplied_is multiplying.Div p q u = grown_then p (q ⨾ one op.Div) u
  multiplied_is multiplying.Mod p q u = grown_then p (q ⨾ one op.Mod) u
  multiplied_is multiplying.And p q u = grown_then p (fork (truth q) (one (op.Push (pascal.Bool false)))) u

  -- ---- an expression

  related_value : (r : Relation) (e f : Operand) (u : Drafted) → grown (code.related_to (scope_of t) e (Some (r, f))).value u ≡ with_instr (relation_instr r) (grown f.value (grown e.value u))
  related_value r e f u = grown_then e.value (f.value ⨾ code.relation_of (scope_of t) r) u ∙ grown_then f.value (code.relation_of (scope_of t) r) (grown e.value u) ∙ by r
    where
      by : (r : Relation) → grown (code.relation_of (scope_of t) r) (grown f.value (grown e.value u)) ≡ with_instr (relation_instr r) (grown f.value (grown e.value u))
      by relation.Equal = grown_one op.Eq (grown f.value (grown e.value u))
      by relation.NotEqual = grown_one op.Ne (grown f.value (grown e.value u))
      by relation.Less = grown_one op.Lt (grown f.value (grown e.value u))
      by relation.AtMost = grown_one op.Le (grown f.value (grown e.value u))
      by relation.Greater = grown_one op.Gt (grown f.value (grown e.value u))
      by relation.AtLeast = grown_one op.Ge (grown f.value (grown e.value u))
      by relation.Member = grown_one op.Has (grown f.value (grown e.value u))

  abbrev related : Simple → Option (Relation × Simple) → Operand
  related left None = simple t left
  related left (Some r) = code.related_to (scope_of t) (simple t left) (Some (r.0, simple t r.1))

  expr_out : (left : Simple) (right : Option (Relation × Simple)) (span : Span) → expr_layer (scope_of t) (map-Expr Factor Selector Args Elem Expr Simple Term Variable Operand Selecting (List Operand) Piece Operand Operand Operand Written (factor t) (selector t) (code.args (scope_of t)) (elem t) (expr t) (simple t) (term t) (code.variable (scope_of t)) (record { left = left; right = right; span = span })) ≡ related left right
  expr_out left None span = refl
  expr_out left (Some r) span = refl

  expr_opened : (x : Expr) → expr t x ≡ related (out-Expr x).left (out-Expr x).right
  unfolding expr simple term factor elem selector code.expr code.args code.variable
  expr_opened x = fold_out-Expr Operand Selecting (List Operand) Piece Operand Operand Operand Written (factor_layer (scope_of t)) (selector_layer (scope_of t)) (args_layer (scope_of t)) (elem_layer (scope_of t)) (expr_layer (scope_of t)) (simple_layer (scope_of t)) (term_layer (scope_of t)) (variable_layer (scope_of t)) x ∙ expr_out (out-Expr x).left (out-Expr x).right (out-Expr x).span

  pub expr_is : (x : Expr) (right : Option (Relation × Simple)) → (out-Expr x).right ≡ right → expr t x ≡ related (out-Expr x).left right
  expr_is x right is = expr_opened x ∙ ap (related (out-Expr x).left) is

  pub expr_alone : (x : Expr) → (out-Expr x).right ≡ None → expr t x ≡ simple t (out-Expr x).left
  expr_alone x is = expr_is x None is

  pub expr_value : (x : Expr) (r : Relation × Simple) (u : Drafted) → (out-Expr x).right ≡ Some r → grown (expr t x).value u ≡ with_instr (relation_instr r.0) (grown (simple t r.1).value (grown (simple t (out-Expr x).left).value u))
  expr_value x r u is = ap (λ (e : Operand). grown e.value u) (expr_is x (Some r) is) ∙ related_value r.0 (simple t (out-Expr x).left) (simple t r.1) u

  pub expr_host : (x : Expr) (r : Relation × Simple) → (out-Expr x).right ≡ Some r → (expr t x).host ≡ hosts.Boolean
  expr_host x r is = ap (λ (e : Operand). e.host) (expr_is x (Some r) is)

  -- ---- terms from left to right

  abbrev pub add_term : Drafted → Adding × Term → Drafted
  add_term u o = grown (sum_tail o.0 (term t o.1).value) u

  abbrev pub sum_host : Host → Adding × Term → Host
  sum_host h o = added_host o.0

  sum_value : (e : Operand) (os : List (Adding × Term)) (u : Drafted) → grown (code.simple_of (scope_of t) e (map (λ o. (o.0, term t o.1)) os)).value u ≡ fold add_term (grown e.value u) os
  sum_value e [] u = refl
  sum_value e (o ∷ os) u = sum_value (computed (added_host o.0) (added o.0 e.value (term t o.1).value)) os u ∙ ap (λ v. fold add_term v os) (added_is o.0 e.value (term t o.1).value u)

  sum_of_host : (e : Operand) (os : List (Adding × Term)) → (code.simple_of (scope_of t) e (map (λ o. (o.0, term t o.1)) os)).host ≡ fold sum_host e.host os
  sum_of_host e [] = refl
  sum_of_host e (o ∷ os) = sum_of_host (computed (added_host o.0) (added o.0 e.value (term t o.1).value)) os

  simple_opened : (x : Simple) → simple t x ≡ code.simple_of (scope_of t) (code.with_sign (scope_of t) (out-Simple x).sign (term t (out-Simple x).first)) (map (λ o. (o.0, term t o.1)) (out-Simple x).others)
  unfolding expr simple term factor elem selector code.expr code.args code.variable
  simple_opened x = fold_out-Simple Operand Selecting (List Operand) Piece Operand Operand Operand Written (factor_layer (scope_of t)) (selector_layer (scope_of t)) (args_layer (scope_of t)) (elem_layer (scope_of t)) (expr_layer (scope_of t)) (simple_layer (scope_of t)) (term_layer (scope_of t)) (variable_layer (scope_of t)) x

  sign_value : (s : Option Sign) (e : Operand) (u : Drafted) → grown (code.with_sign (scope_of t) s e).value u ≡ signed s (grown e.value u)
  sign_value None e u = refl
  sign_value (Some sign.Plus) e u = refl
  sign_value (Some sign.Minus) e u = then_one e.value op.Neg u

  sign_host : (s : Option Sign) (e : Operand) → (code.with_sign (scope_of t) s e).host ≡ signed_host s e.host
  sign_host None e = refl
  sign_host (Some sign.Plus) e = refl
  sign_host (Some sign.Minus) e = refl

  pub simple_value : (x : Simple) (u : Drafted) → grown (simple t x).value u ≡ fold add_term (signed (out-Simple x).sign (grown (term t (out-Simple x).first).value u)) (out-Simple x).others
  simple_value x u =
      ap (λ (e : Operand). grown e.value u) (simple_opened x)
      ∙ sum_value (code.with_sign (scope_of t) (out-Simple x).sign (term t (out-Simple x).first)) (out-Simple x).others u
      ∙ ap (λ v. fold add_term v (out-Simple x).others) (sign_value (out-Simple x).sign (term t (out-Simple x).first) u)

  pub simple_host : (x : Simple) → (simple t x).host ≡ fold sum_host (signed_host (out-Simple x).sign (term t (out-Simple x).first).host) (out-Simple x).others
  simple_host x =
      ap (λ (e : Operand). e.host) (simple_opened x)
      ∙ sum_of_host (code.with_sign (scope_of t) (out-Simple x).sign (term t (out-Simple x).first)) (out-Simple x).others
      ∙ ap (λ h. fold sum_host h (out-Simple x).others) (sign_host (out-Simple x).sign (term t (out-Simple x).first))

  pub simple_is : (x : Simple) (s : Option Sign) (os : List (Adding × Term)) → (out-Simple x).sign ≡ s → (out-Simple x).others ≡ os → simple t x ≡ code.simple_of (scope_of t) (code.with_sign (scope_of t) s (term t (out-Simple x).first)) (map (λ o. (o.0, term t o.1)) os)
  simple_is x s os signs others = simple_opened x ∙ (λ i. code.simple_of (scope_of t) (code.with_sign (scope_of t) (signs i) (term t (out-Simple x).first)) (map (λ o. (o.0, term t o.1)) (others i)))

  -- ---- factors from left to right

  abbrev pub multiply_factor : Drafted → Multiplying × Factor → Drafted
  multiply_factor u o = grown (product_tail o.0 (factor t o.1).value) u

  abbrev pub product_host : Host → Multiplying × Factor → Host
  product_host h o = code.multiplied_host (scope_of t) o.0

  product_value : (e : Operand) (os : List (Multiplying × Factor)) (u : Drafted) → grown (code.term_of (scope_of t) e (map (λ o. (o.0, factor t o.1)) os)).value u ≡ fold multiply_factor (grown e.value u) os
  product_value e [] u = refl
  product_value e (o ∷ os) u = product_value (computed (code.multiplied_host (scope_of t) o.0) (code.multiplied (scope_of t) o.0 e.value (factor t o.1).value)) os u ∙ ap (λ v. fold multiply_factor v os) (multiplied_is o.0 e.value (factor t o.1).value u)

  product_of_host : (e : Operand) (os : List (Multiplying × Factor)) → (code.term_of (scope_of t) e (map (λ o. (o.0, factor t o.1)) os)).host ≡ fold product_host e.host os
  product_of_host e [] = refl
  product_of_host e (o ∷ os) = product_of_host (computed (code.multiplied_host (scope_of t) o.0) (code.multiplied (scope_of t) o.0 e.value (factor t o.1).value)) os

  term_opened : (x : Term) → term t x ≡ code.term_of (scope_of t) (factor t (out-Term x).first) (map (λ o. (o.0, factor t o.1)) (out-Term x).others)
  unfolding expr simple term factor elem selector code.expr code.args code.variable
  term_opened x = fold_out-Term Operand Selecting (List Operand) Piece Operand Operand Operand Written (factor_layer (scope_of t)) (selector_layer (scope_of t)) (args_layer (scope_of t)) (elem_layer (scope_of t)) (expr_layer (scope_of t)) (simple_layer (scope_of t)) (term_layer (scope_of t)) (variable_layer (scope_of t)) x

  pub term_value : (x : Term) (u : Drafted) → grown (term t x).value u ≡ fold multiply_factor (grown (factor t (out-Term x).first).value u) (out-Term x).others
  term_value x u = ap (λ (e : Operand). grown e.value u) (term_opened x) ∙ product_value (factor t (out-Term x).first) (out-Term x).others u

  pub term_host : (x : Term) → (term t x).host ≡ fold product_host (factor t (out-Term x).first).host (out-Term x).others
  term_host x = ap (λ (e : Operand). e.host) (term_opened x) ∙ product_of_host (factor t (out-Term x).first) (out-Term x).others

  pub term_is : (x : Term) (os : List (Multiplying × Factor)) → (out-Term x).others ≡ os → term t x ≡ code.term_of (scope_of t) (factor t (out-Term x).first) (map (λ o. (o.0, factor t o.1)) os)
  term_is x os others = term_opened x ∙ (λ i. code.term_of (scope_of t) (factor t (out-Term x).first) (map (λ o. (o.0, factor t o.1)) (others i)))

  -- ---- factors

  abbrev pub factor_as : Factor-F Factor Selector Args Elem Expr Simple Term Variable → Operand
  factor_as (Factor-F.Number n span) = computed hosts.Integer (one (op.Push (pascal.Int n)))
  factor_as (Factor-F.Char n span) = computed hosts.Char (one (op.Push (pascal.Char n)))
  factor_as (Factor-F.Variable v) = valued t (out-Variable v).name (out-Variable v).selectors
  factor_as (Factor-F.Call x es span) = designated t x (out-Args es).exprs
  factor_as (Factor-F.Paren e span) = computed (expr t e).host (expr t e).value
  factor_as (Factor-F.Not e span) = computed hosts.Boolean ((factor t e).value ⨾ one op.Not)
  factor_as (Factor-F.Set es span) = computed hosts.Integer (one op.Empty ⨾ united t es)

  pub variable_opened : (v : Variable) → code.variable (scope_of t) v ≡ record { name = (out-Variable v).name; selectors = map (selector t) (out-Variable v).selectors }
  unfolding expr simple term factor elem selector code.expr code.args code.variable
  variable_opened v = fold_out-Variable Operand Selecting (List Operand) Piece Operand Operand Operand Written (factor_layer (scope_of t)) (selector_layer (scope_of t)) (args_layer (scope_of t)) (elem_layer (scope_of t)) (expr_layer (scope_of t)) (simple_layer (scope_of t)) (term_layer (scope_of t)) (variable_layer (scope_of t)) v

  pub args_opened : (x : Args) → code.args (scope_of t) x ≡ map (expr t) (out-Args x).exprs
  unfolding expr simple term factor elem selector code.expr code.args code.variable
  args_opened x = fold_out-Args Operand Selecting (List Operand) Piece Operand Operand Operand Written (factor_layer (scope_of t)) (selector_layer (scope_of t)) (args_layer (scope_of t)) (elem_layer (scope_of t)) (expr_layer (scope_of t)) (simple_layer (scope_of t)) (term_layer (scope_of t)) (variable_layer (scope_of t)) x

  factor_out : (l : Factor-F Factor Selector Args Elem Expr Simple Term Variable) → factor_layer (scope_of t) (map-Factor Factor Selector Args Elem Expr Simple Term Variable Operand Selecting (List Operand) Piece Operand Operand Operand Written (factor t) (selector t) (code.args (scope_of t)) (elem t) (expr t) (simple t) (term t) (code.variable (scope_of t)) l) ≡ factor_as l
  unfolding valued designated united
  factor_out (Factor-F.Number n span) = refl
  factor_out (Factor-F.Char n span) = refl
  factor_out (Factor-F.Variable v) = ap (λ (w : Written). code.valued (scope_of t) w.name ((scope_of t).meant w.name) w.selectors) (variable_opened v)
  factor_out (Factor-F.Call x es span) = ap (λ (os : List Operand). code.designated (scope_of t) x ((scope_of t).meant x) os) (args_opened es)
  factor_out (Factor-F.Paren e span) = refl
  factor_out (Factor-F.Not e span) = refl
  factor_out (Factor-F.Set es span) = refl

  factor_opened : (x : Factor) → factor t x ≡ factor_as (out-Factor x)
  unfolding expr simple term factor elem selector code.expr code.args code.variable
  factor_opened x = fold_out-Factor Operand Selecting (List Operand) Piece Operand Operand Operand Written (factor_layer (scope_of t)) (selector_layer (scope_of t)) (args_layer (scope_of t)) (elem_layer (scope_of t)) (expr_layer (scope_of t)) (simple_layer (scope_of t)) (term_layer (scope_of t)) (variable_layer (scope_of t)) x ∙ factor_out (out-Factor x)

  pub factor_is : (x : Factor) (l : Factor-F Factor Selector Args Elem Expr Simple Term Variable) → out-Factor x ≡ l → factor t x ≡ factor_as l
  factor_is x l is = factor_opened x ∙ ap factor_as is

  -- ---- sets

  abbrev pub elem_as : Expr → Option Expr → Piece
  elem_as first None = (expr t first).value ⨾ one op.One
  elem_as first (Some e) = ((expr t first).value ⨾ one op.Ord) ⨾ (expr t e).value ⨾ one op.Span

  elem_out : (first : Expr) (last : Option Expr) (span : Span) → elem_layer (scope_of t) (map-Elem Factor Selector Args Elem Expr Simple Term Variable Operand Selecting (List Operand) Piece Operand Operand Operand Written (factor t) (selector t) (code.args (scope_of t)) (elem t) (expr t) (simple t) (term t) (code.variable (scope_of t)) (record { first = first; last = last; span = span })) ≡ elem_as first last
  elem_out first None span = refl
  elem_out first (Some e) span = refl

  elem_is : (x : Elem) (last : Option Expr) → (out-Elem x).last ≡ last → elem t x ≡ elem_as (out-Elem x).first last
  unfolding expr simple term factor elem selector code.expr code.args code.variable
  elem_is x last is = fold_out-Elem Operand Selecting (List Operand) Piece Operand Operand Operand Written (factor_layer (scope_of t)) (selector_layer (scope_of t)) (args_layer (scope_of t)) (elem_layer (scope_of t)) (expr_layer (scope_of t)) (simple_layer (scope_of t)) (term_layer (scope_of t)) (variable_layer (scope_of t)) x ∙ elem_out (out-Elem x).first (out-Elem x).last (out-Elem x).span ∙ ap (elem_as (out-Elem x).first) is

  pub one_member_steps : (x : Elem) (u : Drafted) → (out-Elem x).last ≡ None → grown (elem t x) u ≡ with_instr op.One (grown (expr t (out-Elem x).first).value u)
  one_member_steps x u is = ap (λ p. grown p u) (elem_is x None is) ∙ then_one (expr t (out-Elem x).first).value op.One u

  pub span_steps : (x : Elem) (e : Expr) (u : Drafted) → (out-Elem x).last ≡ Some e → grown (elem t x) u ≡ with_instr op.Span (grown (expr t e).value (with_instr op.Ord (grown (expr t (out-Elem x).first).value u)))
  span_steps x e u is =
      ap (λ p. grown p u) (elem_is x (Some e) is)
      ∙ grown_then ((expr t (out-Elem x).first).value ⨾ one op.Ord) ((expr t e).value ⨾ one op.Span) u
      ∙ ap (λ v. grown ((expr t e).value ⨾ one op.Span) v) (then_one (expr t (out-Elem x).first).value op.Ord u)
      ∙ then_one (expr t e).value op.Span (with_instr op.Ord (grown (expr t (out-Elem x).first).value u))

  abbrev pub unite_elem : Drafted → Elem → Drafted
  unite_elem u e = with_instr op.Unite (grown (elem t e) u)

  pub united_value : (es : List Elem) (u : Drafted) → grown (united t es) u ≡ fold unite_elem u es
  unfolding united
  united_value [] u = grown_none u
  united_value (e ∷ es) u =
      grown_then (elem t e) (one op.Unite ⨾ united t es) u
      ∙ grown_then (one op.Unite) (united t es) (grown (elem t e) u)
      ∙ ap (λ v. grown (united t es) v) (grown_one op.Unite (grown (elem t e) u))
      ∙ united_value es (unite_elem u e)
