-- Factors, names and calls step by step, as they are compiled.
use Rattle.std.proofs.Common.{◌≡◌, ◌∙◌, ℕ, suc, zero, ◌+◌, ◌<◌, ℤ, List, [], ◌∷◌, length, map, get_or, drop, Option, Some, None, refl, sym, ap, arith}
use Rattle.pascal_values.specs.declared.value.Value.{Value}
use Rattle.pascal_values.specs.declared.value.Value.TheVariants as pascal
use Rattle.estelle_tree.specs.declared.span.Span.{Span}
use Rattle.estelle_tree.specs.declared.tree.name.Name.{Name}
use Rattle.estelle_tree.specs.declared.tree.type_expr.Sign.{Sign}
use Rattle.estelle_tree.specs.declared.tree.expression.Adding.{Adding}
use Rattle.estelle_tree.specs.declared.tree.expression.Multiplying.{Multiplying}
use Rattle.estelle_tree.specs.declared.tree.expression.Factor.{Factor, out-Factor}
use Rattle.estelle_tree.specs.declared.tree.expression.Factor.TheVariants as factors
use Rattle.estelle_tree.specs.declared.tree.expression.Selector.{Selector}
use Rattle.estelle_tree.specs.declared.tree.expression.Args.{Args, out-Args}
use Rattle.estelle_tree.specs.declared.tree.expression.Elem.{Elem}
use Rattle.estelle_tree.specs.declared.tree.expression.Expr.{Expr}
use Rattle.estelle_tree.specs.declared.tree.expression.Simple.{Simple, out-Simple}
use Rattle.estelle_tree.specs.declared.tree.expression.Term.{Term, out-Term}
use Rattle.estelle_tree.specs.declared.tree.expression.Variable.{Variable, out-Variable}
use Rattle.estelle_tree.specs.declared.required.Required.{Required}
use Rattle.body_code.specs.declared.instr.Instr.TheVariants as op
use Rattle.estelle_model.specs.Types.{shape_of, host_of}
use Rattle.estelle_model.specs.Operators.{required_host}
use Rattle.estelle_model.specs.Expressions.{result_host}
use Rattle.estelle_model.specs.declared.denoter.Host.{Host}
use Rattle.estelle_model.specs.declared.denoter.Host.TheVariants as hosts
use Rattle.estelle_model.specs.declared.denoter.Denoter.{Denoter}
use Rattle.estelle_model.specs.declared.meaning.Meaning.{Meaning}
use Rattle.estelle_model.specs.declared.meaning.Meaning.TheVariants.{Constant, Called, RequiredFunction}
use Rattle.estelle_model.specs.declared.meaning.Passing.{Passing}
use Rattle.estelle_model.specs.declared.meaning.Passing.TheVariants.{ByValue, ByPlace}
use Rattle.estelle_model.specs.declared.meaning.Routine.{Routine}
use Rattle.body_compiler_pieces.specs.Pieces.{Piece, one, ◌⨾◌}
use Rattle.body_compiler_pieces.specs.ExpressionCode as code
use Rattle.body_compiler_pieces.specs.ExpressionCode.{Operand, Access, by_number, of_access}
use Rattle.body_compiler_emission.specs.Drafts.{Drafted, grown, with_instr}
use Rattle.body_compiler_emission.specs.Scopes.{Scoped, scope_of}
use Rattle.body_compiler_emission.specs.Tails.{Computes, reached, placed}
use Rattle.body_compiler_emission.specs.Emitted.{selector, expr, simple, term, factor, united, valued, designated, accessed, called, call, give, give_all, required_code}
use Rattle.body_compiler_emission.proofs.Growth.{grown_none, grown_one, grown_then}
use Rattle.body_compiler_emission.proofs.ExpressionSteps.{then_one, factor_is, simple_is, term_is}

no_items : {A : Type 0} (xs : List A) → length xs < 1 → xs ≡ []
no_items [] few = refl
no_items (x ∷ xs) few = absurd (omega (arith, few))

module _ (t : Scoped) where
  -- ---- factors

  pub number_value : (n : ℤ) (span : Span) (u : Drafted) → grown (factor t (factors.Number n span)).value u ≡ with_instr (op.Push (pascal.Int n)) u
  number_value n span u = ap (λ (e : Operand). grown e.value u) (factor_is t (factors.Number n span) _ (factors.outs-Number n span)) ∙ grown_one (op.Push (pascal.Int n)) u

  pub number_host : (n : ℤ) (span : Span) → (factor t (factors.Number n span)).host ≡ hosts.Integer
  number_host n span = ap (λ (e : Operand). e.host) (factor_is t (factors.Number n span) _ (factors.outs-Number n span))

  pub char_value : (n : ℕ) (span : Span) (u : Drafted) → grown (factor t (factors.Char n span)).value u ≡ with_instr (op.Push (pascal.Char n)) u
  char_value n span u = ap (λ (e : Operand). grown e.value u) (factor_is t (factors.Char n span) _ (factors.outs-Char n span)) ∙ grown_one (op.Push (pascal.Char n)) u

  pub char_host : (n : ℕ) (span : Span) → (factor t (factors.Char n span)).host ≡ hosts.Char
  char_host n span = ap (λ (e : Operand). e.host) (factor_is t (factors.Char n span) _ (factors.outs-Char n span))

  pub variable_is : (v : Variable) → factor t (factors.Variable v) ≡ valued t (out-Variable v).name (out-Variable v).selectors
  variable_is v = factor_is t (factors.Variable v) _ (factors.outs-Variable v)

  pub call_is : (x : Name) (es : Args) (span : Span) → factor t (factors.Call x es span) ≡ designated t x (out-Args es).exprs
  call_is x es span = factor_is t (factors.Call x es span) _ (factors.outs-Call x es span)

  pub paren_value : (e : Expr) (span : Span) (u : Drafted) → grown (factor t (factors.Paren e span)).value u ≡ grown (expr t e).value u
  paren_value e span u = ap (λ (o : Operand). grown o.value u) (factor_is t (factors.Paren e span) _ (factors.outs-Paren e span))

  pub paren_host : (e : Expr) (span : Span) → (factor t (factors.Paren e span)).host ≡ (expr t e).host
  paren_host e span = ap (λ (o : Operand). o.host) (factor_is t (factors.Paren e span) _ (factors.outs-Paren e span))

  pub not_value : (e : Factor) (span : Span) (u : Drafted) → grown (factor t (factors.Not e span)).value u ≡ with_instr op.Not (grown (factor t e).value u)
  not_value e span u = ap (λ (o : Operand). grown o.value u) (factor_is t (factors.Not e span) _ (factors.outs-Not e span)) ∙ then_one (factor t e).value op.Not u

  pub not_host : (e : Factor) (span : Span) → (factor t (factors.Not e span)).host ≡ hosts.Boolean
  not_host e span = ap (λ (o : Operand). o.host) (factor_is t (factors.Not e span) _ (factors.outs-Not e span))

  pub set_value : (es : List Elem) (span : Span) (u : Drafted) → grown (factor t (factors.Set es span)).value u ≡ grown (united t es) (with_instr op.Empty u)
  set_value es span u =
      ap (λ (o : Operand). grown o.value u) (factor_is t (factors.Set es span) _ (factors.outs-Set es span))
      ∙ grown_then (one op.Empty) (united t es) u
      ∙ ap (λ v. grown (united t es) v) (grown_one op.Empty u)

  pub set_host : (es : List Elem) (span : Span) → (factor t (factors.Set es span)).host ≡ hosts.Integer
  set_host es span = ap (λ (o : Operand). o.host) (factor_is t (factors.Set es span) _ (factors.outs-Set es span))

  -- ---- the variable that an expression is alone

  pub simple_alone : (x : Simple) (os : List (Adding × Term)) → (out-Simple x).sign ≡ None → os ≡ (out-Simple x).others → length os < 1 → simple t x ≡ term t (out-Simple x).first
  simple_alone x os unsigned own few = simple_is t x None [] unsigned (sym own ∙ no_items os few)

  pub term_alone : (x : Term) (os : List (Multiplying × Factor)) → os ≡ (out-Term x).others → length os < 1 → term t x ≡ factor t (out-Term x).first
  term_alone x os own few = term_is t x [] (sym own ∙ no_items os few)

  -- ---- names

  pub constant_value : (x : Name) (ss : List Selector) (v : Value) (h : Host) (u : Drafted) → (scope_of t).meant x ≡ Constant v h → grown (valued t x ss).value u ≡ with_instr (op.Push v) u
  unfolding valued
  constant_value x ss v h u is = ap (λ (m : Meaning). grown (code.valued (scope_of t) x m (map (selector t) ss)).value u) is ∙ grown_one (op.Push v) u

  pub constant_host : (x : Name) (ss : List Selector) (v : Value) (h : Host) → (scope_of t).meant x ≡ Constant v h → (valued t x ss).host ≡ h
  unfolding valued
  constant_host x ss v h is = ap (λ (m : Meaning). (code.valued (scope_of t) x m (map (selector t) ss)).host) is

  pub function_is : (x : Name) (ss : List Selector) (r : Routine) → (scope_of t).meant x ≡ Called r → valued t x ss ≡ called t x r []
  unfolding valued called
  function_is x ss r is = ap (λ (m : Meaning). code.valued (scope_of t) x m (map (selector t) ss)) is

  -- a name that is neither a constant nor a routine's is that of a variable
  access_is : (x : Name) (ss : List Selector) (m : Meaning) → m ≡ (scope_of t).meant x → ((v : Value) (h : Host) → m ≡ Constant v h → ⊥) → ((r : Routine) → m ≡ Called r → ⊥) → valued t x ss ≡ of_access (scope_of t) (accessed t m ss)
  unfolding valued accessed
  access_is x ss (Constant v h) is no_constant no_call = absurd (no_constant v h refl)
  access_is x ss (Called r) is no_constant no_call = absurd (no_call r refl)
  access_is x ss m is no_constant no_call = ap (λ (n : Meaning). code.valued (scope_of t) x n (map (selector t) ss)) (sym is)

  loaded : (o : Option Access) (u v : Drafted) (d : Denoter) → Some (v, d) ≡ reached o u → Computes (of_access (scope_of t) o) (host_of d) u (with_instr op.Load v)
  unfolding reached
  loaded None u v d is = absurd (cc)
  loaded (Some a) u v d is =
      let known : (v, d) ≡ (grown a.place u, a.denoter) = cc in
      let unit = ap (λ (p : Drafted × Denoter). p.0) known in
      let same_type = ap (λ (p : Drafted × Denoter). p.1) known in
      (ap host_of same_type, ap (λ w. with_instr op.Load w) unit ∙ sym (then_one a.place op.Load u))

  pub loaded_steps : (x : Name) (ss : List Selector) (m : Meaning) (u v : Drafted) (d : Denoter) → m ≡ (scope_of t).meant x → ((v : Value) (h : Host) → m ≡ Constant v h → ⊥) → ((r : Routine) → m ≡ Called r → ⊥) → Some (v, d) ≡ reached (accessed t m ss) u
      → Computes (valued t x ss) (host_of d) u (with_instr op.Load v)
  loaded_steps x ss m u v d is no_constant no_call h =
      let k = loaded (accessed t m ss) u v d h in
      let e = access_is x ss m is no_constant no_call in
      (k.0 ∙ ap (λ (o : Operand). o.host) (sym e), k.1 ∙ ap (λ (o : Operand). grown o.value u) (sym e))

  place_of_access : (o : Option Access) (u v : Drafted) (d : Denoter) → Some (v, d) ≡ reached o u → Some v ≡ placed (of_access (scope_of t) o).place u
  unfolding reached placed
  place_of_access None u v d is = absurd (cc)
  place_of_access (Some a) u v d is = let known : (v, d) ≡ (grown a.place u, a.denoter) = cc in ap (λ (p : Drafted × Denoter). Some p.0) known

  pub place_steps : (x : Name) (ss : List Selector) (m : Meaning) (u v : Drafted) (d : Denoter) → m ≡ (scope_of t).meant x → ((v : Value) (h : Host) → m ≡ Constant v h → ⊥) → ((r : Routine) → m ≡ Called r → ⊥) → Some (v, d) ≡ reached (accessed t m ss) u
      → Some v ≡ placed (valued t x ss).place u
  place_steps x ss m u v d is no_constant no_call h = place_of_access (accessed t m ss) u v d h ∙ ap (λ (o : Operand). placed o.place u) (sym (access_is x ss m is no_constant no_call))

  -- ---- calls

  pub designated_call : (x : Name) (es : List Expr) (r : Routine) → (scope_of t).meant x ≡ Called r → designated t x es ≡ called t x r es
  unfolding designated called
  designated_call x es r is = ap (λ (m : Meaning). code.designated (scope_of t) x m (map (expr t) es)) is

  required_is : (x : Name) (f : Required) (e : Expr) → (scope_of t).meant x ≡ RequiredFunction f → designated t x (e ∷ []) ≡ code.computed (required_host f (expr t e).host) ((expr t e).value ⨾ code.required_code (scope_of t) f (expr t e).host)
  unfolding designated
  required_is x f e is = ap (λ (m : Meaning). code.designated (scope_of t) x m (expr t e ∷ [])) is

  only_one : (es : List Expr) (e : Expr) → length es ≡ 1 → e ≡ get_or es 0 e → es ≡ e ∷ []
  only_one [] e few at = absurd (omega (arith, few))
  only_one (d ∷ []) e few at = ap (λ x. x ∷ []) (sym at)
  only_one (d ∷ (c ∷ es)) e few at = absurd (omega (arith, few))

  pub required_steps : (x : Name) (es : List Expr) (f : Required) (e : Expr) (h k : Host) (u v w : Drafted) → (scope_of t).meant x ≡ RequiredFunction f → length es ≡ 1 → e ≡ get_or es 0 e
      → Computes (expr t e) h u v → k ≡ required_host f h → w ≡ grown (required_code t f h) v → Computes (designated t x es) k u w
  unfolding required_code
  required_steps x es f e h k u v w is few at got host unit =
      let i = ap (λ (ds : List Expr). designated t x ds) (only_one es e few at) ∙ required_is x f e is in (
        host ∙ ap (required_host f) got.0 ∙ ap (λ (o : Operand). o.host) (sym i),
        unit ∙ ap (λ g. grown (code.required_code (scope_of t) f g) v) got.0 ∙ ap (λ z. grown (code.required_code (scope_of t) f (expr t e).host) z) got.1 ∙ sym (grown_then (expr t e).value (code.required_code (scope_of t) f (expr t e).host) u) ∙ ap (λ (o : Operand). grown o.value u) (sym i),
      )

  pub called_value : (x : Name) (r : Routine) (es : List Expr) (d : Denoter) → r.result ≡ Some d → (called t x r es).value ≡ call t x r es
  unfolding called call
  called_value x r es d is = ap (λ (o : Option Denoter). code.where_result (scope_of t) o (code.call (scope_of t) ((scope_of t).routine x) r (map (expr t) es))) is

  pub called_host : (x : Name) (r : Routine) (es : List Expr) (d : Denoter) → r.result ≡ Some d → (called t x r es).host ≡ host_of d
  unfolding called
  called_host x r es d is = ap (λ (o : Option Denoter). result_host o) is

  pub call_made : (x : Name) (r : Routine) (es : List Expr) (u : Drafted) (b k n : ℕ) → (scope_of t).routine x ≡ Some (b, k) → n ≡ length r.parameters → grown (call t x r es) u ≡ with_instr (op.Call b k n) (grown (give_all t r.parameters es) u)
  unfolding call give_all
  call_made x r es u b k n is count =
      ap (λ (o : Option (ℕ × ℕ)). grown (code.call (scope_of t) o r (map (expr t) es)) u) is
      ∙ then_one (code.give_all (scope_of t) r.parameters (map (expr t) es)) (op.Call b k (length r.parameters)) u
      ∙ ap (λ m. with_instr (op.Call b k m) (grown (code.give_all (scope_of t) r.parameters (map (expr t) es)) u)) (sym count)

  none_given : (ps : List Passing) (v : Drafted) → length ps ≡ 0 → grown (give_all t ps []) v ≡ v
  unfolding give_all
  none_given [] v e = grown_none v
  none_given (p ∷ ps) v e = absurd (omega (arith, e))

  pub lone_call : (x : Name) (r : Routine) (u : Drafted) (b k : ℕ) → (scope_of t).routine x ≡ Some (b, k) → length r.parameters ≡ 0 → grown (call t x r []) u ≡ with_instr (op.Call b k 0) u
  lone_call x r u b k is none_there = call_made x r [] u b k 0 is (sym none_there) ∙ ap (λ v. with_instr (op.Call b k 0) v) (none_given r.parameters u none_there)

  -- ---- arguments

  give_first : (p : Passing) (ps : List Passing) (e : Expr) (es : List Expr) (u : Drafted) → grown (give_all t (p ∷ ps) (e ∷ es)) u ≡ grown (give_all t ps es) (grown (give t p e) u)
  unfolding give_all give
  give_first p ps e es u = grown_then (code.give (scope_of t) p (expr t e)) (code.give_all (scope_of t) ps (map (expr t) es)) u

  next_given : (ps : List Passing) (es : List Expr) (i : ℕ) (p : Passing) (e : Expr) (u : Drafted) → i < length ps → i < length es → p ≡ get_or ps i p → e ≡ get_or es i e
      → grown (give_all t (drop i ps) (drop i es)) u ≡ grown (give_all t (drop (suc i) ps) (drop (suc i) es)) (grown (give t p e) u)
  next_given [] es i p e u some more at there = absurd (omega (arith, some))
  next_given (q ∷ ps) [] i p e u some more at there = absurd (omega (arith, more))
  next_given (q ∷ ps) (d ∷ es) zero p e u some more at there = give_first q ps d es u ∙ (λ i. grown (give_all t ps es) (grown (give t (sym at i) (sym there i)) u))
  next_given (q ∷ ps) (d ∷ es) (suc i) p e u some more at there = next_given ps es i p e u (omega (arith, some)) (omega (arith, more)) at there

  pub given_next : (ps : List Passing) (es : List Expr) (i : ℕ) (p : Passing) (e : Expr) (u : Drafted) → i < length ps → i < length es → p ≡ get_or ps i p → e ≡ get_or es i e
      → grown (give_all t (drop (i + 1) ps) (drop (i + 1) es)) (grown (give t p e) u) ≡ grown (give_all t (drop i ps) (drop i es)) u
  given_next ps es i p e u some more at there = ap (λ n. grown (give_all t (drop n ps) (drop n es)) (grown (give t p e) u)) (let k : i + 1 ≡ suc i = omega arith in k) ∙ sym (next_given ps es i p e u some more at there)

  pub given_all : (ps : List Passing) (es : List Expr) (i : ℕ) (u : Drafted) → length ps ≡ length es → i ≡ length es → grown (give_all t (drop i ps) (drop i es)) u ≡ u
  unfolding give_all
  given_all [] [] zero u same end = grown_none u
  given_all [] [] (suc i) u same end = absurd (omega (arith, end))
  given_all [] (e ∷ es) i u same end = absurd (omega (arith, same))
  given_all (p ∷ ps) [] i u same end = absurd (omega (arith, same))
  given_all (p ∷ ps) (e ∷ es) zero u same end = absurd (omega (arith, end))
  given_all (p ∷ ps) (e ∷ es) (suc i) u same end = given_all ps es i u (omega (arith, same)) (omega (arith, end))

  pub given_value : (d : Denoter) (e : Expr) (n : ℕ) (u : Drafted) → (scope_of t).number (shape_of d) ≡ Some n → grown (give t (ByValue d) e) u ≡ with_instr (op.Fit n) (grown (expr t e).value u)
  unfolding give
  given_value d e n u is = ap (λ (o : Option ℕ). grown ((expr t e).value ⨾ by_number o (λ n. one (op.Fit n))) u) is ∙ then_one (expr t e).value (op.Fit n) u

  placed_is : (o : Option Piece) (u v : Drafted) → Some v ≡ placed o u → v ≡ grown (code.place_of_operand (scope_of t) o) u
  unfolding placed
  placed_is None u v is = absurd (cc)
  placed_is (Some p) u v is = cc

  pub given_place : (e : Expr) (u v : Drafted) → Some v ≡ placed (expr t e).place u → v ≡ grown (give t ByPlace e) u
  unfolding give
  given_place e u v is = placed_is (expr t e).place u v is
