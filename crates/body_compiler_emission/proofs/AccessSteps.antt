-- Variable accesses step by step, as they are compiled.
use Rattle.std.proofs.Common.{◌≡◌, ◌∙◌, ℕ, ◌+◌, ◌<◌, ◌≤◌, List, [], ◌∷◌, length, get_or, drop, map, fold, Option, Some, None, refl, sym, ap}
use Rattle.std.specs.Prelude.{option_map}
use Rattle.estelle_tree.specs.declared.tree.name.Name.{Name}
use Rattle.estelle_tree.specs.declared.tree.expression.Factor.{Factor}
use Rattle.estelle_tree.specs.declared.tree.expression.Selector.{Selector, out-Selector}
use Rattle.estelle_tree.specs.declared.tree.expression.Selector.TheVariants as selectors
use Rattle.estelle_tree.specs.declared.tree.expression.Args.{Args}
use Rattle.estelle_tree.specs.declared.tree.expression.Elem.{Elem}
use Rattle.estelle_tree.specs.declared.tree.expression.Expr.{Expr}
use Rattle.estelle_tree.specs.declared.tree.expression.Simple.{Simple}
use Rattle.estelle_tree.specs.declared.tree.expression.Term.{Term}
use Rattle.estelle_tree.specs.declared.tree.expression.Variable.{Variable}
use Rattle.estelle_tree.specs.declared.tree.expression.Factor.TheOpen.{Selector-F}
use Rattle.estelle_tree.specs.declared.tree.expression.Factor.TheFolds.{map-Selector, fold_out-Selector}
use Rattle.body_code.specs.declared.instr.Instr.TheVariants as op
use Rattle.estelle_model.specs.Types.{item_of, field_of}
use Rattle.estelle_model.specs.declared.denoter.Denoter.{Denoter, out-Denoter}
use Rattle.estelle_model.specs.declared.meaning.Meaning.{Meaning}
use Rattle.estelle_model.specs.declared.meaning.Meaning.TheVariants.{Own, Exported, Local, Var, Module, Field}
use Rattle.body_compiler_pieces.specs.Pieces.{Piece, none, one, ◌⨾◌}
use Rattle.body_compiler_pieces.specs.ExpressionCode as code
use Rattle.body_compiler_pieces.specs.ExpressionCode.{Operand, Access, Selecting, Written, factor_layer, selector_layer, args_layer, elem_layer, expr_layer, simple_layer, term_layer, variable_layer}
use Rattle.body_compiler_emission.specs.Drafts.{Drafted, grown, with_instr}
use Rattle.body_compiler_emission.specs.Scopes.{Scoped, scope_of}
use Rattle.body_compiler_emission.specs.Tails.{reached}
use Rattle.body_compiler_emission.specs.Emitted.{expr, simple, term, factor, elem, selector, accessed, selected, selected_at, fielded, behind_selector, indexed, at, exported, behind_dot, behind_module, behind, begun, first_selector}
use Rattle.body_compiler_emission.proofs.Lists.{opened, all_dropped}
use Rattle.body_compiler_emission.proofs.Growth.{grown_none, grown_one, grown_then}
use Rattle.body_compiler_emission.proofs.ExpressionSteps.{then_one}

-- an access from a unit on
abbrev pub gone : Access → Drafted → Drafted × Denoter
gone a u = (grown a.place u, a.denoter)

module _ (t : Scoped) where
  -- ---- indices

  abbrev pub at_index : Drafted × Denoter → Expr → Drafted × Denoter
  at_index s e = (grown (code.item_code (out-Denoter s.1)) (with_instr op.Ord (grown (expr t e).value s.0)), item_of s.1)

  indices : (es : List Expr) (a : Access) (u : Drafted) → gone (code.indexed (scope_of t) (map (expr t) es) a) u ≡ fold at_index (gone a u) es
  indices [] a u = refl
  indices (e ∷ es) a u =
      let c = code.item_code (out-Denoter a.denoter) in
      let p = (expr t e).value ⨾ one op.Ord in
      indices es (record { denoter = item_of a.denoter; place = a.place ⨾ p ⨾ c }) u
      ∙ ap (λ v. fold at_index (v, item_of a.denoter) es) (grown_then a.place (p ⨾ c) u ∙ grown_then p c (grown a.place u) ∙ ap (λ v. grown c v) (then_one (expr t e).value op.Ord (grown a.place u)))

  pub indexed_steps : (es : List Expr) (u : Drafted) (d : Denoter) → indexed t es u d ≡ fold at_index (u, d) es
  unfolding indexed
  indexed_steps es u d = indices es (at t d) u ∙ ap (λ v. fold at_index (v, d) es) (grown_none u)

  -- ---- selectors

  abbrev selecting : Selector-F Factor Selector Args Elem Expr Simple Term Variable → Selecting
  selecting (Selector-F.Index es) = record { over = code.indexed (scope_of t) (map (expr t) es); name = None }
  selecting (Selector-F.Field x) = record { over = code.fielded (scope_of t) ((scope_of t).meant x); name = Some x }

  selector_out : (l : Selector-F Factor Selector Args Elem Expr Simple Term Variable) → selector_layer (scope_of t) (map-Selector Factor Selector Args Elem Expr Simple Term Variable Operand Selecting (List Operand) Piece Operand Operand Operand Written (factor t) (selector t) (code.args (scope_of t)) (elem t) (expr t) (simple t) (term t) (code.variable (scope_of t)) l) ≡ selecting l
  selector_out (Selector-F.Index es) = refl
  selector_out (Selector-F.Field x) = refl

  selector_opened : (x : Selector) → selector t x ≡ selecting (out-Selector x)
  unfolding expr simple term factor elem selector code.expr code.args code.variable
  selector_opened x = fold_out-Selector Operand Selecting (List Operand) Piece Operand Operand Operand Written (factor_layer (scope_of t)) (selector_layer (scope_of t)) (args_layer (scope_of t)) (elem_layer (scope_of t)) (expr_layer (scope_of t)) (simple_layer (scope_of t)) (term_layer (scope_of t)) (variable_layer (scope_of t)) x ∙ selector_out (out-Selector x)

  -- a selector behind an access
  field_goes : (m : Meaning) (a : Access) (u : Drafted) (r : Drafted × Denoter) → fielded t m (grown a.place u) a.denoter ≡ Some r → gone (code.fielded (scope_of t) m a) u ≡ r
  field_goes (Field k) a u r is =
      let known : (with_instr (op.Field k) (grown a.place u), field_of a.denoter k) ≡ r = cc in
      ap (λ v. (v, field_of a.denoter k)) (then_one a.place (op.Field k) u) ∙ known
  field_goes _ a u r is = absurd (cc)

  over_goes : (l : Selector-F Factor Selector Args Elem Expr Simple Term Variable) (a : Access) (u : Drafted) (r : Drafted × Denoter) → selected_at t l (grown a.place u) a.denoter ≡ Some r → gone ((selecting l).over a) u ≡ r
  over_goes (Selector-F.Index es) a u r is =
      let known : indexed t es (grown a.place u) a.denoter ≡ r = cc in
      indices es a u ∙ sym (indexed_steps es (grown a.place u) a.denoter) ∙ known
  over_goes (Selector-F.Field x) a u r is = field_goes ((scope_of t).meant x) a u r is

  selector_goes : (s : Selector) (a : Access) (u : Drafted) (r : Drafted × Denoter) → selected t s (grown a.place u) a.denoter ≡ Some r → gone ((selector t s).over a) u ≡ r
  unfolding selected
  selector_goes s a u r is = ap (λ (x : Selecting). gone (x.over a) u) (selector_opened s) ∙ over_goes (out-Selector s) a u r is

  no_end : (ss : List Selector) (r : Drafted × Denoter) → fold (behind_selector t) None ss ≡ Some r → ⊥
  no_end [] r is = cc
  no_end (s ∷ ss) r is = no_end ss r is

  goes_by : (s : Selector) (ss : List Selector) (a : Access) (u : Drafted) (r : Drafted × Denoter) (goal : Type 0) → ((q : Drafted × Denoter) → selected t s (grown a.place u) a.denoter ≡ Some q → fold (behind_selector t) (Some q) ss ≡ Some r → goal)
      → (o : Option (Drafted × Denoter)) → selected t s (grown a.place u) a.denoter ≡ o → fold (behind_selector t) o ss ≡ Some r → goal
  goes_by s ss a u r goal k None e f = absurd (no_end ss r f)
  goes_by s ss a u r goal k (Some q) e f = k q e f

  all_go : (ss : List Selector) (a : Access) (u : Drafted) (r : Drafted × Denoter) → fold (behind_selector t) (Some (gone a u)) ss ≡ Some r → gone (code.selected (scope_of t) (map (selector t) ss) a) u ≡ r
  all_go [] a u r is = cc
  all_go (s ∷ ss) a u r is = goes_by s ss a u r (gone (code.selected (scope_of t) (map (selector t) ss) ((selector t s).over a)) u ≡ r)
      (λ q e f. all_go ss ((selector t s).over a) u r (ap (λ z. fold (behind_selector t) (Some z) ss) (selector_goes s a u q e) ∙ f))
      (selected t s (grown a.place u) a.denoter) refl is

  pub behind_next : (ss : List Selector) (i : ℕ) (s : Selector) (u v : Drafted) (d e : Denoter) → i < length ss → s ≡ get_or ss i s → Some (v, e) ≡ selected t s u d → behind t (drop (i + 1) ss) v e ≡ behind t (drop i ss) u d
  behind_next ss i s u v d e some at is = ap (λ o. fold (behind_selector t) o (drop (i + 1) ss)) is ∙ ap (λ l. behind t l u d) (sym (opened ss i s some at))

  pub behind_all : (ss : List Selector) (i : ℕ) (u : Drafted) (d : Denoter) → length ss ≤ i → behind t (drop i ss) u d ≡ Some (u, d)
  behind_all ss i u d end = ap (λ l. behind t l u d) (all_dropped ss i end)

  -- ---- where accesses begin

  abbrev rest_of : List Selector → List Selector
  rest_of [] = []
  rest_of (s ∷ ss) = ss

  abbrev behind_beginning : Meaning → List Selector → List Selector
  behind_beginning (Module m) ss = rest_of ss
  behind_beginning _ ss = ss

  rest_is : (ss : List Selector) → rest_of ss ≡ drop 1 ss
  rest_is [] = refl
  rest_is (s ∷ ss) = refl

  beginning_is : (m : Meaning) (ss : List Selector) → behind_beginning m ss ≡ drop (first_selector m) ss
  beginning_is (Module m) ss = rest_is ss
  beginning_is _ ss = refl

  abbrev on : List Selector → Option Access → Option Access
  on ss o = option_map (λ a. code.selected (scope_of t) (map (selector t) ss) a) o

  exported_goes : (m : ℕ) (n : Meaning) (ss : List Selector) → code.exported (scope_of t) m n (map (selector t) ss) ≡ on ss (exported t m n)
  exported_goes m (Exported k d) ss = refl
  exported_goes m _ ss = refl

  dot_goes : (m : ℕ) (l : Selector-F Factor Selector Args Elem Expr Simple Term Variable) (ss : List Selector) → code.behind_dot (scope_of t) m (selecting l).name (map (selector t) ss) ≡ on ss (behind_dot t m l)
  dot_goes m (Selector-F.Index es) ss = refl
  dot_goes m (Selector-F.Field x) ss = exported_goes m ((scope_of t).meant x) ss

  module_goes : (m : ℕ) (ss : List Selector) → code.behind_module (scope_of t) m (map (selector t) ss) ≡ on (rest_of ss) (behind_module t m ss)
  module_goes m [] = refl
  module_goes m (s ∷ ss) = ap (λ (x : Selecting). code.behind_dot (scope_of t) m x.name (map (selector t) ss)) (selector_opened s) ∙ dot_goes m (out-Selector s) ss

  access_goes : (m : Meaning) (ss : List Selector) → accessed t m ss ≡ on (behind_beginning m ss) (begun t m ss)
  unfolding accessed begun
  access_goes (Own k d) ss = refl
  access_goes (Exported k d) ss = refl
  access_goes (Local k d) ss = refl
  access_goes (Var k d) ss = refl
  access_goes (Module m) ss = module_goes m ss
  access_goes _ ss = refl

  reached_behind : (o : Option Access) (ss : List Selector) (u v w : Drafted) (d e : Denoter) → Some (v, d) ≡ reached o u → fold (behind_selector t) (Some (v, d)) ss ≡ Some (w, e) → Some (w, e) ≡ reached (on ss o) u
  unfolding reached
  reached_behind None ss u v w d e is f = absurd (cc)
  reached_behind (Some a) ss u v w d e is f =
      let known : (v, d) ≡ gone a u = cc in
      ap (λ z. Some z) (sym (all_go ss a u (w, e) (ap (λ z. fold (behind_selector t) (Some z) ss) (sym known) ∙ f)))

  pub accessed_steps : (m : Meaning) (ss : List Selector) (u v w : Drafted) (d e : Denoter) → Some (v, d) ≡ reached (begun t m ss) u → Some (w, e) ≡ behind t (drop (first_selector m) ss) v d → Some (w, e) ≡ reached (accessed t m ss) u
  accessed_steps m ss u v w d e is f = reached_behind (begun t m ss) (behind_beginning m ss) u v w d e is (ap (λ l. behind t l v d) (beginning_is m ss) ∙ sym f) ∙ ap (λ o. reached o u) (sym (access_goes m ss))
