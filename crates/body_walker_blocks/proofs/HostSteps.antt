-- The hosts of types, which need no evaluation.
use Rattle.std.proofs.Common.{◌≡◌, ◌∙◌, ℕ, zero, suc, ◌+◌, ◌-◌, ◌<◌, ◌≤◌, List, [], ◌∷◌, length, get_or, map, refl, sym, ap, add-one, arith, Option, Some, None}
use Rattle.pascal_values.specs.declared.value.Value.{Value}
use Rattle.estelle_tree.specs.declared.span.Span.{Span}
use Rattle.estelle_tree.specs.declared.tree.name.Name.{Name}
use Rattle.estelle_tree.specs.declared.tree.type_expr.Sign.{Sign}
use Rattle.estelle_tree.specs.declared.tree.type_expr.Sign.TheVariants as sign
use Rattle.estelle_tree.specs.declared.tree.expression.Relation.{Relation}
use Rattle.estelle_tree.specs.declared.tree.expression.Adding.{Adding}
use Rattle.estelle_tree.specs.declared.tree.expression.Multiplying.{Multiplying}
use Rattle.estelle_tree.specs.declared.tree.expression.Factor.{Factor, out-Factor}
use Rattle.estelle_tree.specs.declared.tree.expression.Selector.{Selector, out-Selector}
use Rattle.estelle_tree.specs.declared.tree.expression.Args.{Args}
use Rattle.estelle_tree.specs.declared.tree.expression.Elem.{Elem}
use Rattle.estelle_tree.specs.declared.tree.expression.Expr.{Expr, out-Expr}
use Rattle.estelle_tree.specs.declared.tree.expression.Simple.{Simple, out-Simple}
use Rattle.estelle_tree.specs.declared.tree.expression.Term.{Term, out-Term}
use Rattle.estelle_tree.specs.declared.tree.expression.Variable.{Variable}
use Rattle.estelle_tree.specs.declared.tree.expression.Factor.TheOpen.{Factor-F, Selector-F}
use Rattle.estelle_model.specs.declared.denoter.Denoter.{Denoter}
use Rattle.estelle_model.specs.declared.denoter.Host.{Host}
use Rattle.estelle_model.specs.declared.denoter.Host.TheVariants as hosts
use Rattle.estelle_model.specs.declared.meaning.Meaning.{Meaning}
use Rattle.estelle_model.specs.declared.meaning.Meaning.TheVariants.{Constant, Called, RequiredFunction, Own, Exported, Local, Var, Module, Field}
use Rattle.estelle_tree.specs.declared.required.Required.{Required}
use Rattle.estelle_model.specs.declared.meaning.Routine.{Routine}
use Rattle.estelle_model.specs.declared.place.Place.TheVariants.{Of, In}
use Rattle.estelle_model.specs.declared.place.Environment.{Environment}
use Rattle.std.specs.Prelude.{slice_get}
use Rattle.estelle_model.specs.Types.{item_of, host_of}
use Rattle.estelle_model.specs.Operators.{required_host}
use Rattle.estelle_model.specs.States.{Logged, on_log}
use Rattle.estelle_model.specs.Steps.{◌>>=◌, pure, checked}
use Rattle.estelle_model.specs.Places.{child_step}
use Rattle.estelle_model.specs.Expressions as spec
use Rattle.estelle_model.specs.Expressions.{Operand, Access, Selecting, computed, simple_of, term_of, result_host, reference_at}
use Rattle.estelle_model.proofs.ExpressionEquations.{expr_at, selector_at, expr_opened, simple_opened, term_opened, selector_opened}
use Rattle.body_walker_blocks.specs.Scopes.{Scoped, meanings}
use Rattle.body_walker_blocks.specs.Accesses.{rest_of}
use Rattle.body_walker_blocks.specs.Hosts.{item_behind, field_type, component_at, component, components, of_exported, of_child, exported_type, behind_type, accessed_type}
use Rattle.body_walker_blocks.specs.Walked.{calling, expr, simple, term, factor, selector, valued, designated}
use Rattle.body_walker_blocks.proofs.ExpressionSteps.{factor_as, factor_steps}
use Rattle.body_walker_blocks.proofs.CallSteps.{only_one}

-- ---- loops over types

-- one index more
pub item_turn : (d r t : Denoter) (n i : ℕ) → i < n → r ≡ item_of d → item_behind d (n - i) ≡ t → item_behind r (n - (i + 1)) ≡ t
item_turn d r t n i below is before =
    let left : n - i ≡ (n - (i + 1)) + 1 = omega (arith, below) in
    ap (λ (k : Denoter). item_behind k (n - (i + 1))) is ∙ sym (ap (λ (m : ℕ). item_behind d m) (left ∙ add-one (n - (i + 1)))) ∙ before

-- ---- the last item of a list

abbrev sum_host : Host → List (Adding × Term) → Host
sum_host k [] = k
sum_host k (o ∷ os) = sum_host (spec.added_host o.0) os

abbrev product_host : Host → List (Multiplying × Factor) → Host
product_host k [] = k
product_host k (o ∷ os) = product_host (spec.multiplied_host o.0) os

last_sum : (k : Host) (os : List (Adding × Term)) (i : ℕ) (o : Adding × Term) → suc i ≡ length os → o ≡ get_or os i o → sum_host k os ≡ spec.added_host o.0
last_sum k [] i o some at = absurd (omega (arith, some))
last_sum k (p ∷ []) zero o some at = ap (λ (q : Adding × Term). spec.added_host q.0) (sym at)
last_sum k (p ∷ []) (suc i) o some at = absurd (omega (arith, some))
last_sum k (p ∷ (q ∷ os)) zero o some at = absurd (omega (arith, some))
last_sum k (p ∷ (q ∷ os)) (suc i) o some at = last_sum (spec.added_host p.0) (q ∷ os) i o (omega (arith, some)) at

last_product : (k : Host) (os : List (Multiplying × Factor)) (i : ℕ) (o : Multiplying × Factor) → suc i ≡ length os → o ≡ get_or os i o → product_host k os ≡ spec.multiplied_host o.0
last_product k [] i o some at = absurd (omega (arith, some))
last_product k (p ∷ []) zero o some at = ap (λ (q : Multiplying × Factor). spec.multiplied_host q.0) (sym at)
last_product k (p ∷ []) (suc i) o some at = absurd (omega (arith, some))
last_product k (p ∷ (q ∷ os)) zero o some at = absurd (omega (arith, some))
last_product k (p ∷ (q ∷ os)) (suc i) o some at = last_product (spec.multiplied_host p.0) (q ∷ os) i o (omega (arith, some)) at

no_items : {A : Type 0} (xs : List A) → length xs < 1 → xs ≡ []
no_items [] few = refl
no_items (x ∷ xs) few = absurd (omega (arith, few))

module _ (t : Scoped) (h : Environment) where
  -- ---- expressions

  abbrev pub expr_host : Simple → Option (Relation × Simple) → Host
  expr_host left None = (simple t h left).host
  expr_host left (Some r) = hosts.Boolean

  expr_out : (left : Simple) (right : Option (Relation × Simple)) (span : Span) → (expr_at Logged on_log (meanings t) (calling t h) h (record { left = left; right = right; span = span })).host ≡ expr_host left right
  unfolding simple
  expr_out left None span = refl
  expr_out left (Some r) span = refl

  pub host_of_expr : (x : Expr) (right : Option (Relation × Simple)) → (out-Expr x).right ≡ right → (expr t h x).host ≡ expr_host (out-Expr x).left right
  unfolding expr
  host_of_expr x right is =
      ap (λ (e : Operand Logged). e.host) (expr_opened Logged on_log (meanings t) (calling t h) h x)
      ∙ expr_out (out-Expr x).left (out-Expr x).right (out-Expr x).span
      ∙ ap (λ (o : Option (Relation × Simple)). expr_host (out-Expr x).left o) is

  -- ---- simple expressions

  abbrev pub signed_host : Option Sign → Host → Host
  signed_host None k = k
  signed_host (Some sign) k = hosts.Integer

  sign_out : (sign : Option Sign) (e : Operand Logged) → (spec.with_sign Logged on_log (meanings t) (calling t h) h sign e).host ≡ signed_host sign e.host
  sign_out None e = refl
  sign_out (Some sign.Plus) e = refl
  sign_out (Some sign.Minus) e = refl

  sums : (e : Operand Logged) (os : List (Adding × Term)) → (simple_of Logged on_log (meanings t) (calling t h) h e (map (λ o. (o.0, term t h o.1)) os)).host ≡ sum_host e.host os
  sums e [] = refl
  sums e (o ∷ os) = sums (computed (spec.added_host o.0) (spec.added o.0 e.value (term t h o.1).value)) os

  simple_out : (x : Simple) → (simple t h x).host ≡ sum_host (signed_host (out-Simple x).sign (term t h (out-Simple x).first).host) (out-Simple x).others
  unfolding simple term
  simple_out x =
      ap (λ (e : Operand Logged). e.host) (simple_opened Logged on_log (meanings t) (calling t h) h x)
      ∙ sums (spec.with_sign Logged on_log (meanings t) (calling t h) h (out-Simple x).sign (term t h (out-Simple x).first)) (out-Simple x).others
      ∙ ap (λ (k : Host). sum_host k (out-Simple x).others) (sign_out (out-Simple x).sign (term t h (out-Simple x).first))

  pub host_of_simple : (x : Simple) (os : List (Adding × Term)) (sign : Option Sign) → os ≡ (out-Simple x).others → length os < 1 → (out-Simple x).sign ≡ sign → (simple t h x).host ≡ signed_host sign (term t h (out-Simple x).first).host
  host_of_simple x os sign own few is =
      simple_out x
      ∙ ap (λ (ps : List (Adding × Term)). sum_host (signed_host (out-Simple x).sign (term t h (out-Simple x).first).host) ps) (sym own ∙ no_items os few)
      ∙ ap (λ (o : Option Sign). signed_host o (term t h (out-Simple x).first).host) is

  pub host_of_sum : (x : Simple) (os : List (Adding × Term)) (o : Adding × Term) → os ≡ (out-Simple x).others → 1 ≤ length os → o ≡ get_or os (length os - 1) o → (simple t h x).host ≡ spec.added_host o.0
  host_of_sum x os o own some at =
      simple_out x
      ∙ ap (λ (ps : List (Adding × Term)). sum_host (signed_host (out-Simple x).sign (term t h (out-Simple x).first).host) ps) (sym own)
      ∙ last_sum (signed_host (out-Simple x).sign (term t h (out-Simple x).first).host) os (length os - 1) o (omega (arith, some)) at

  -- ---- terms

  products : (e : Operand Logged) (os : List (Multiplying × Factor)) → (term_of Logged on_log (meanings t) (calling t h) h e (map (λ o. (o.0, factor t h o.1)) os)).host ≡ product_host e.host os
  products e [] = refl
  products e (o ∷ os) = products (computed (spec.multiplied_host o.0) (spec.multiplied o.0 e.value (factor t h o.1).value)) os

  term_out : (x : Term) → (term t h x).host ≡ product_host (factor t h (out-Term x).first).host (out-Term x).others
  unfolding term factor
  term_out x = ap (λ (e : Operand Logged). e.host) (term_opened Logged on_log (meanings t) (calling t h) h x) ∙ products (factor t h (out-Term x).first) (out-Term x).others

  pub host_of_term : (x : Term) (os : List (Multiplying × Factor)) → os ≡ (out-Term x).others → length os < 1 → (term t h x).host ≡ (factor t h (out-Term x).first).host
  host_of_term x os own few = term_out x ∙ ap (λ (ps : List (Multiplying × Factor)). product_host (factor t h (out-Term x).first).host ps) (sym own ∙ no_items os few)

  pub host_of_product : (x : Term) (os : List (Multiplying × Factor)) (o : Multiplying × Factor) → os ≡ (out-Term x).others → 1 ≤ length os → o ≡ get_or os (length os - 1) o → (term t h x).host ≡ spec.multiplied_host o.0
  host_of_product x os o own some at =
      term_out x
      ∙ ap (λ (ps : List (Multiplying × Factor)). product_host (factor t h (out-Term x).first).host ps) (sym own)
      ∙ last_product (factor t h (out-Term x).first).host os (length os - 1) o (omega (arith, some)) at

  -- ---- factors

  pub host_of_factor : (x : Factor) (l : Factor-F Factor Selector Args Elem Expr Simple Term Variable) → out-Factor x ≡ l → (factor t h x).host ≡ (factor_as t h l).host
  host_of_factor x l is = ap (λ (e : Operand Logged). e.host) (factor_steps t h x ∙ ap (λ (k : Factor-F Factor Selector Args Elem Expr Simple Term Variable). factor_as t h k) is)

  -- ---- calls

  abbrev pub call_host : Meaning → List Expr → Host
  call_host (Called r) es = result_host r.result
  call_host (RequiredFunction f) (e ∷ []) = required_host f (expr t h e).host
  call_host _ es = hosts.Integer

  call_out : (m : Meaning) (es : List Expr) → (spec.designated Logged on_log (meanings t) (calling t h) h m (map (expr t h) es)).host ≡ call_host m es
  call_out (Called r) es = refl
  call_out (RequiredFunction f) [] = refl
  call_out (RequiredFunction f) (e ∷ []) = refl
  call_out (RequiredFunction f) (e ∷ (d ∷ es)) = refl
  call_out _ es = refl

  pub host_of_call : (x : Name) (es : List Expr) (m : Meaning) → meanings t x ≡ m → (designated t h x es).host ≡ call_host m es
  unfolding designated
  host_of_call x es m is = call_out (meanings t x) es ∙ ap (λ (k : Meaning). call_host k es) is

  pub host_of_required : (x : Name) (es : List Expr) (f : Required) (e : Expr) → meanings t x ≡ RequiredFunction f → 1 ≤ length es → length es < 2 → e ≡ get_or es 0 e → (designated t h x es).host ≡ required_host f (expr t h e).host
  host_of_required x es f e is some few at = host_of_call x es (RequiredFunction f) is ∙ ap (λ (ds : List Expr). call_host (RequiredFunction f) ds) (only_one t h es e some few at)

  wrong_host : (f : Required) (es : List Expr) → (length es ≡ 1 → ⊥) → call_host (RequiredFunction f) es ≡ hosts.Integer
  wrong_host f [] other = refl
  wrong_host f (e ∷ []) other = absurd (other refl)
  wrong_host f (e ∷ (d ∷ es)) other = refl

  pub host_of_wrong : (x : Name) (es : List Expr) (f : Required) → meanings t x ≡ RequiredFunction f → (length es ≡ 1 → ⊥) → (designated t h x es).host ≡ hosts.Integer
  host_of_wrong x es f is other = host_of_call x es (RequiredFunction f) is ∙ wrong_host f es other

  -- a name that is no function's
  pub host_of_other : (x : Name) (es : List Expr) (m : Meaning) → meanings t x ≡ m → ((r : Routine) → m ≡ Called r → ⊥) → ((f : Required) → m ≡ RequiredFunction f → ⊥) → (designated t h x es).host ≡ hosts.Integer
  host_of_other x es (Called r) is no_call no_function = absurd (no_call r refl)
  host_of_other x es (RequiredFunction f) is no_call no_function = absurd (no_function f refl)
  host_of_other x es m is no_call no_function = host_of_call x es m is

  -- ---- names

  abbrev denoter_of : Option (Access Logged) → Option Denoter
  denoter_of None = None
  denoter_of (Some a) = Some a.denoter

  abbrev pub host_at : Option Denoter → Host
  host_at None = hosts.Integer
  host_at (Some d) = host_of d

  indexed_type : (es : List Expr) (a : Access Logged) → (spec.indexed Logged on_log (meanings t) (calling t h) h (map (expr t h) es) a).denoter ≡ item_behind a.denoter (length es)
  indexed_type [] a = refl
  indexed_type (e ∷ es) a = indexed_type es (record { denoter = item_of a.denoter; place = spec.index_step Logged on_log (meanings t) (calling t h) h a (expr t h e) })

  fielded_type : (m : Meaning) (a : Access Logged) → (spec.fielded Logged on_log (meanings t) (calling t h) h m a).denoter ≡ field_type m a.denoter
  fielded_type (Field k) a = refl
  fielded_type _ a = refl

  over_type : (s : Selector-F Factor Selector Args Elem Expr Simple Term Variable) (a : Access Logged) → ((selector_at Logged on_log (meanings t) (calling t h) h s).over a).denoter ≡ component_at (meanings t) a.denoter s
  unfolding expr
  over_type (Selector-F.Index es) a = indexed_type es a
  over_type (Selector-F.Field x) a = fielded_type (meanings t x) a

  selector_type : (s : Selector) (a : Access Logged) → ((selector t h s).over a).denoter ≡ component (meanings t) a.denoter s
  unfolding selector
  selector_type s a = ap (λ (x : Selecting Logged). (x.over a).denoter) (selector_opened Logged on_log (meanings t) (calling t h) h s) ∙ over_type (out-Selector s) a

  selected_type : (ss : List Selector) (a : Access Logged) → (spec.selected Logged on_log (meanings t) (calling t h) h (map (selector t h) ss) a).denoter ≡ components (meanings t) a.denoter ss
  selected_type [] a = refl
  selected_type (s ∷ ss) a = selected_type ss ((selector t h s).over a) ∙ ap (λ (d : Denoter). components (meanings t) d ss) (selector_type s a)

  child_type : (k : ℕ) (m : Meaning) (ss : List Selector) → denoter_of (spec.exported Logged on_log (meanings t) (calling t h) h k m (map (selector t h) ss)) ≡ behind_type (meanings t) (of_exported m) ss
  child_type k (Exported n d) ss = ap (λ (r : Denoter). Some r) (selected_type ss (record { denoter = d; place = child_step Logged on_log h.path k >>= λ p. pure (Of p n []) }))
  child_type k _ ss = refl

  dot_type : (k : ℕ) (s : Selector-F Factor Selector Args Elem Expr Simple Term Variable) (ss : List Selector) → denoter_of (spec.behind_dot Logged on_log (meanings t) (calling t h) h k (selector_at Logged on_log (meanings t) (calling t h) h s).name (map (selector t h) ss)) ≡ behind_type (meanings t) (of_child (meanings t) s) ss
  dot_type k (Selector-F.Field x) ss = child_type k (meanings t x) ss
  dot_type k (Selector-F.Index es) ss = refl

  module_type : (k : ℕ) (ss : List Selector) → denoter_of (spec.behind_module Logged on_log (meanings t) (calling t h) h k (map (selector t h) ss)) ≡ behind_type (meanings t) (exported_type (meanings t) ss) (rest_of ss)
  unfolding selector
  module_type k [] = refl
  module_type k (s ∷ ss) = ap (λ (x : Selecting Logged). denoter_of (spec.behind_dot Logged on_log (meanings t) (calling t h) h k x.name (map (selector t h) ss))) (selector_opened Logged on_log (meanings t) (calling t h) h s) ∙ dot_type k (out-Selector s) ss

  type_of_access : (m : Meaning) (ss : List Selector) → denoter_of (spec.accessed Logged on_log (meanings t) (calling t h) h m (map (selector t h) ss)) ≡ accessed_type (meanings t) m ss
  type_of_access (Own k d) ss = ap (λ (r : Denoter). Some r) (selected_type ss (record { denoter = d; place = pure (Of h.path k []) }))
  type_of_access (Exported k d) ss = ap (λ (r : Denoter). Some r) (selected_type ss (record { denoter = d; place = pure (Of h.path k []) }))
  type_of_access (Local k d) ss = ap (λ (r : Denoter). Some r) (selected_type ss (record { denoter = d; place = pure (In h.frame k []) }))
  type_of_access (Var k d) ss = ap (λ (r : Denoter). Some r) (selected_type ss (record { denoter = d; place = checked (reference_at (slice_get h.references k)) }))
  type_of_access (Module k) ss = module_type k ss
  type_of_access _ ss = refl

  access_host : (o : Option (Access Logged)) → (spec.of_access Logged on_log (meanings t) (calling t h) h o).host ≡ host_at (denoter_of o)
  access_host None = refl
  access_host (Some a) = refl

  abbrev pub named_host : Meaning → List Selector → Host
  named_host (Constant v k) ss = k
  named_host (Called r) ss = result_host r.result
  named_host m ss = host_at (accessed_type (meanings t) m ss)

  named_out : (m : Meaning) (ss : List Selector) → (spec.valued Logged on_log (meanings t) (calling t h) h m (map (selector t h) ss)).host ≡ named_host m ss
  named_out (Constant v k) ss = refl
  named_out (Called r) ss = refl
  named_out m ss = access_host (spec.accessed Logged on_log (meanings t) (calling t h) h m (map (selector t h) ss)) ∙ ap host_at (type_of_access m ss)

  pub host_of_name : (x : Name) (ss : List Selector) (m : Meaning) → meanings t x ≡ m → (valued t h x ss).host ≡ named_host m ss
  unfolding valued
  host_of_name x ss m is = named_out (meanings t x) ss ∙ ap (λ (k : Meaning). named_host k ss) is

  -- a name that is neither a constant nor a routine's
  pub host_of_access : (x : Name) (ss : List Selector) (m : Meaning) (o : Option Denoter) → meanings t x ≡ m → ((v : Value) (k : Host) → m ≡ Constant v k → ⊥) → ((r : Routine) → m ≡ Called r → ⊥) → o ≡ accessed_type (meanings t) m ss → (valued t h x ss).host ≡ host_at o
  host_of_access x ss (Constant v k) o is no_constant no_call typed = absurd (no_constant v k refl)
  host_of_access x ss (Called r) o is no_constant no_call typed = absurd (no_call r refl)
  host_of_access x ss m o is no_constant no_call typed = host_of_name x ss m is ∙ ap host_at (sym typed)
