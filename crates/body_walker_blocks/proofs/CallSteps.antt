-- Names in expressions, arguments and calls step by step.
use Rattle.std.proofs.Common.{◌≡◌, ◌∙◌, ℕ, zero, suc, ◌+◌, ◌-◌, ◌<◌, ◌≤◌, List, [], ◌∷◌, ◌++◌, length, get_or, drop, length-drop, map, refl, sym, ap, add-one, arith, Option, Some, None, Result, Ok, Err}
use Rattle.std.proofs.Math.ListN.{drop_of_length-le}
use Rattle.std.proofs.lemmas.List.{length-map, get_or-map}
use Rattle.pascal_values.specs.declared.fault.Fault.TheVariants.{CallDepth}
use Rattle.pascal_values.specs.declared.value.Value.{Value}
use Rattle.estelle_tree.specs.declared.tree.type_expr.Sign.{Sign}
use Rattle.estelle_tree.specs.declared.tree.type_expr.Sign.TheVariants as sign
use Rattle.estelle_tree.specs.declared.tree.expression.Relation.{Relation}
use Rattle.estelle_tree.specs.declared.tree.expression.Adding.{Adding}
use Rattle.estelle_tree.specs.declared.tree.expression.Multiplying.{Multiplying}
use Rattle.estelle_tree.specs.declared.tree.name.Name.{Name}
use Rattle.estelle_tree.specs.declared.tree.expression.Factor.{Factor, out-Factor}
use Rattle.estelle_tree.specs.declared.tree.expression.Selector.{Selector}
use Rattle.estelle_tree.specs.declared.tree.expression.Args.{Args, out-Args}
use Rattle.estelle_tree.specs.declared.tree.expression.Elem.{Elem}
use Rattle.estelle_tree.specs.declared.tree.expression.Expr.{Expr, out-Expr}
use Rattle.estelle_tree.specs.declared.tree.expression.Simple.{Simple, out-Simple}
use Rattle.estelle_tree.specs.declared.tree.expression.Term.{Term, out-Term}
use Rattle.estelle_tree.specs.declared.tree.expression.Variable.{Variable, out-Variable}
use Rattle.estelle_tree.specs.declared.tree.expression.Factor.TheOpen.{Factor-F}
use Rattle.estelle_model.specs.declared.denoter.Denoter.{Denoter}
use Rattle.estelle_model.specs.declared.denoter.Host.{Host}
use Rattle.estelle_tree.specs.declared.required.Required.{Required}
use Rattle.estelle_model.specs.declared.meaning.Meaning.{Meaning}
use Rattle.estelle_model.specs.declared.meaning.Meaning.TheVariants.{Constant, Called, RequiredFunction}
use Rattle.estelle_model.specs.declared.meaning.Routine.{Routine}
use Rattle.estelle_model.specs.declared.meaning.Passing.{Passing}
use Rattle.estelle_model.specs.declared.meaning.Passing.TheVariants.{ByValue, ByPlace}
use Rattle.estelle_model.specs.declared.place.Place.{Place}
use Rattle.estelle_model.specs.declared.place.Environment.{Environment}
use Rattle.estelle_model.specs.declared.place.ActualParameters.{ActualParameters}
use Rattle.estelle_model.specs.Types.{shape_of, assignable}
use Rattle.estelle_tree.specs.Paths.{Path}
use Rattle.estelle_model.specs.Operators.{◌>>>◌, required_value}
use Rattle.estelle_model.specs.States.{Logged, on_log}
use Rattle.estelle_model.specs.Stops as model
use Rattle.estelle_model.specs.Stops.{Faults, Broken, stopping}
use Rattle.estelle_model.specs.Steps.{Running, Step, Do, and_then, ◌>>=◌, ◌>>◌, pure, fail, breaks, checked, spend}
use Rattle.estelle_model.specs.Places.{set_value, load}
use Rattle.estelle_model.specs.Expressions as spec
use Rattle.estelle_model.specs.Expressions.{Operand, Access, computed, give_all, no_arguments, place_of_operand, simple_of, term_of}
use Rattle.estelle_model.specs.Calls as calls
use Rattle.estelle_model.specs.Calls.{nested, max_depth, enter, leave}
use Rattle.estelle_model.proofs.ExpressionEquations.{expr_at, expr_opened, simple_opened, term_opened}
use Rattle.body_values.specs.declared.stop.Stop.{Stop}
use Rattle.body_state.specs.Follows.{Leads}
use Rattle.body_walker_blocks.specs.Scopes.{Scoped, meanings}
use Rattle.body_walker_blocks.specs.Located.{Located}
use Rattle.body_walker_blocks.specs.Operands.{fitted, variable_in, variable_in_expr, variable_of_simple, variable_in_simple, variable_of_term, variable_in_term, variable_of_factor, variable_at, with_value, with_reference}
use Rattle.body_walker_blocks.specs.Walked.{actions, entering, calling, expr, simple, term, factor, selector, valued, designated, arguments, give, invoked, within, located, accessed, stmts}
use Rattle.body_walker_blocks.proofs.Plans.{Plan, First, Last, Check, Finish, Refuse, run, Is, Runs}
use Rattle.body_walker_blocks.proofs.Plans as plan
use Rattle.body_walker_blocks.proofs.Chains.{next_item}
use Rattle.body_walker_blocks.proofs.Followed.{then_pure, then_then, follows_outcome, follows_stops}
use Rattle.body_walker_blocks.proofs.ExpressionSteps.{factor_as, factor_steps}

module _ (t : Scoped) (h : Environment) where
  -- ---- names

  -- a function's result
  abbrev pub result_of_call : Routine → List Expr → Plan Value
  result_of_call r es = First (invoked t h r es) (λ v. Check (set_value (Some v)))

  abbrev pub value_plan : Meaning → List Selector → Plan Value
  value_plan (Constant v k) ss = Finish v
  value_plan (Called r) ss = result_of_call r []
  value_plan m ss = First (accessed t h m ss) (λ l. Last (load Logged on_log l.place))

  called_steps : (r : Routine) (es : List Expr) → spec.called Logged on_log (meanings t) (calling t h) h r (map (expr t h) es) ≡ run (result_of_call r es)
  unfolding spec.called
  called_steps r es = sym (then_then (λ given. calling t h r given) (λ v. checked (set_value (Some v))) (arguments t h r.parameters es))

  loaded : (o : Option (Access Logged)) → (spec.of_access Logged on_log (meanings t) (calling t h) h o).value ≡ (located o >>= λ l. load Logged on_log l.place)
  loaded None = refl
  loaded (Some a) = sym (then_then (λ p. pure (record { place = p; denoter = a.denoter })) (λ (l : Located). load Logged on_log l.place) a.place)

  value_out : (m : Meaning) (ss : List Selector) → (spec.valued Logged on_log (meanings t) (calling t h) h m (map (selector t h) ss)).value ≡ run (value_plan m ss)
  unfolding accessed
  value_out (Constant v k) ss = refl
  value_out (Called r) ss = called_steps r []
  value_out m ss = loaded (spec.accessed Logged on_log (meanings t) (calling t h) h m (map (selector t h) ss))

  pub valued_steps : (x : Name) (ss : List Selector) (m : Meaning) → meanings t x ≡ m → Is (valued t h x ss).value (value_plan m ss)
  unfolding valued
  valued_steps x ss m is = record { is = value_out (meanings t x) ss ∙ ap (λ (k : Meaning). run (value_plan k ss)) is }

  -- a name that is neither a constant nor a routine's
  pub valued_other : (x : Name) (ss : List Selector) (m : Meaning) → meanings t x ≡ m → ((v : Value) (k : Host) → m ≡ Constant v k → ⊥) → ((r : Routine) → m ≡ Called r → ⊥)
      → Is (valued t h x ss).value (First (accessed t h m ss) (λ l. Last (load Logged on_log l.place)))
  valued_other x ss (Constant v k) is no_constant no_call = absurd (no_constant v k refl)
  valued_other x ss (Called r) is no_constant no_call = absurd (no_call r refl)
  valued_other x ss m is no_constant no_call = valued_steps x ss m is

  abbrev pub designate_plan : Meaning → List Expr → Plan Value
  designate_plan (Called r) es = result_of_call r es
  designate_plan (RequiredFunction f) (e ∷ []) = First (expr t h e).value (λ v. Check (required_value f (expr t h e).host v))
  designate_plan _ es = Refuse Broken

  designate_out : (m : Meaning) (es : List Expr) → (spec.designated Logged on_log (meanings t) (calling t h) h m (map (expr t h) es)).value ≡ run (designate_plan m es)
  designate_out (Called r) es = called_steps r es
  designate_out (RequiredFunction f) [] = refl
  designate_out (RequiredFunction f) (e ∷ []) = refl
  designate_out (RequiredFunction f) (e ∷ (d ∷ es)) = refl
  designate_out _ es = refl

  pub designated_steps : (x : Name) (es : List Expr) (m : Meaning) → meanings t x ≡ m → Is (designated t h x es).value (designate_plan m es)
  unfolding designated
  designated_steps x es m is = record { is = designate_out (meanings t x) es ∙ ap (λ (k : Meaning). run (designate_plan k es)) is }

  pub only_one : (es : List Expr) (e : Expr) → 1 ≤ length es → length es < 2 → e ≡ get_or es 0 e → es ≡ e ∷ []
  only_one [] e some few at = absurd (omega (arith, some))
  only_one (d ∷ []) e some few at = ap (λ x. x ∷ []) (sym at)
  only_one (d ∷ (c ∷ es)) e some few at = absurd (omega (arith, few))

  -- a required function with its one argument
  pub designated_required : (x : Name) (es : List Expr) (f : Required) (e : Expr) → meanings t x ≡ RequiredFunction f → 1 ≤ length es → length es < 2 → e ≡ get_or es 0 e
      → Is (designated t h x es).value (First (expr t h e).value (λ v. Check (required_value f (expr t h e).host v)))
  designated_required x es f e is some few at = record { is = (designated_steps x es (RequiredFunction f) is).is ∙ ap (λ (ds : List Expr). run (designate_plan (RequiredFunction f) ds)) (only_one es e some few at) }

  required_refuses : (f : Required) (es : List Expr) → (length es ≡ 1 → ⊥) → run (designate_plan (RequiredFunction f) es) ≡ breaks
  required_refuses f [] other = refl
  required_refuses f (e ∷ []) other = absurd (other refl)
  required_refuses f (e ∷ (d ∷ es)) other = refl

  pub designated_wrongly : (x : Name) (es : List Expr) (f : Required) → meanings t x ≡ RequiredFunction f → (length es ≡ 1 → ⊥) → Is (designated t h x es).value (Refuse Broken)
  designated_wrongly x es f is other = record { is = (designated_steps x es (RequiredFunction f) is).is ∙ required_refuses f es other }

  -- a name that is no function's
  pub designated_other : (x : Name) (es : List Expr) (m : Meaning) → meanings t x ≡ m → ((r : Routine) → m ≡ Called r → ⊥) → ((f : Required) → m ≡ RequiredFunction f → ⊥) → Is (designated t h x es).value (Refuse Broken)
  designated_other x es (Called r) is no_call no_function = absurd (no_call r refl)
  designated_other x es (RequiredFunction f) is no_call no_function = absurd (no_function f refl)
  designated_other x es m is no_call no_function = designated_steps x es m is

  -- ---- the variable that an expression is alone

  abbrev place_there : Option Variable → Option (Step Logged Place)
  place_there None = None
  place_there (Some v) = (valued t h (out-Variable v).name (out-Variable v).selectors).place

  designated_place : (m : Meaning) (es : List (Operand Logged)) → (spec.designated Logged on_log (meanings t) (calling t h) h m es).place ≡ None
  designated_place (Called r) es = refl
  designated_place (RequiredFunction f) [] = refl
  designated_place (RequiredFunction f) (e ∷ []) = refl
  designated_place (RequiredFunction f) (e ∷ (d ∷ es)) = refl
  designated_place _ es = refl

  call_place : (x : Name) (es : List Expr) → (designated t h x es).place ≡ None
  unfolding designated
  call_place x es = designated_place (meanings t x) (map (expr t h) es)

  factor_place : (f : Factor) → (factor t h f).place ≡ place_there (variable_of_factor f)
  factor_place f = ap (λ (e : Operand Logged). e.place) (factor_steps t h f) ∙ by (out-Factor f)
    where
      by : (l : Factor-F Factor Selector Args Elem Expr Simple Term Variable) → (factor_as t h l).place ≡ place_there (variable_at l)
      by (Factor-F.Variable v) = refl
      by (Factor-F.Call x es span) = call_place x (out-Args es).exprs
      by _ = refl

  more_factors : (e : Operand Logged) → e.place ≡ None → (os : List (Multiplying × Operand Logged)) → (term_of Logged on_log (meanings t) (calling t h) h e os).place ≡ None
  more_factors e none [] = none
  more_factors e none (o ∷ os) = more_factors (computed (spec.multiplied_host o.0) (spec.multiplied o.0 e.value o.1.value)) refl os

  term_place : (x : Term) → (term t h x).place ≡ place_there (variable_of_term x)
  unfolding term factor
  term_place x = ap (λ (e : Operand Logged). e.place) (term_opened Logged on_log (meanings t) (calling t h) h x) ∙ by (out-Term x).others
    where
      by : (os : List (Multiplying × Factor)) → (term_of Logged on_log (meanings t) (calling t h) h (factor t h (out-Term x).first) (map (λ o. (o.0, factor t h o.1)) os)).place ≡ place_there (variable_in_term (out-Term x).first os)
      by [] = factor_place (out-Term x).first
      by (o ∷ os) = more_factors (computed (spec.multiplied_host o.0) (spec.multiplied o.0 (factor t h (out-Term x).first).value (factor t h o.1).value)) refl (map (λ o. (o.0, factor t h o.1)) os)

  more_terms : (e : Operand Logged) → e.place ≡ None → (os : List (Adding × Operand Logged)) → (simple_of Logged on_log (meanings t) (calling t h) h e os).place ≡ None
  more_terms e none [] = none
  more_terms e none (o ∷ os) = more_terms (computed (spec.added_host o.0) (spec.added o.0 e.value o.1.value)) refl os

  simple_place : (x : Simple) → (simple t h x).place ≡ place_there (variable_of_simple x)
  unfolding simple term
  simple_place x = ap (λ (e : Operand Logged). e.place) (simple_opened Logged on_log (meanings t) (calling t h) h x) ∙ by (out-Simple x).sign (out-Simple x).others
    where
      by : (sign : Option Sign) (os : List (Adding × Term)) → (simple_of Logged on_log (meanings t) (calling t h) h (spec.with_sign Logged on_log (meanings t) (calling t h) h sign (term t h (out-Simple x).first)) (map (λ o. (o.0, term t h o.1)) os)).place ≡ place_there (variable_in_simple sign (out-Simple x).first os)
      by None [] = term_place (out-Simple x).first
      by None (o ∷ os) = more_terms (computed (spec.added_host o.0) (spec.added o.0 (term t h (out-Simple x).first).value (term t h o.1).value)) refl (map (λ o. (o.0, term t h o.1)) os)
      by (Some sign.Plus) os = more_terms (spec.with_sign Logged on_log (meanings t) (calling t h) h (Some sign.Plus) (term t h (out-Simple x).first)) refl (map (λ o. (o.0, term t h o.1)) os)
      by (Some sign.Minus) os = more_terms (spec.with_sign Logged on_log (meanings t) (calling t h) h (Some sign.Minus) (term t h (out-Simple x).first)) refl (map (λ o. (o.0, term t h o.1)) os)

  expr_place : (x : Expr) → (expr t h x).place ≡ place_there (variable_in x)
  unfolding expr simple
  expr_place x = ap (λ (e : Operand Logged). e.place) (expr_opened Logged on_log (meanings t) (calling t h) h x) ∙ by (out-Expr x).right
    where
      by : (right : Option (Relation × Simple)) → (expr_at Logged on_log (meanings t) (calling t h) h (record { left = (out-Expr x).left; right = right; span = (out-Expr x).span })).place ≡ place_there (variable_in_expr (out-Expr x).left right)
      by None = simple_place (out-Expr x).left
      by (Some r) = refl

  -- ---- arguments

  abbrev variable_place : Option Variable → Step Logged Place
  variable_place None = breaks
  variable_place (Some v) = accessed t h (meanings t (out-Variable v).name) (out-Variable v).selectors >>= λ l. pure l.place

  accessed_place : (o : Option (Access Logged)) → place_of_operand (spec.of_access Logged on_log (meanings t) (calling t h) h o).place ≡ (located o >>= λ l. pure l.place)
  accessed_place None = refl
  accessed_place (Some a) = sym (then_then (λ p. pure (record { place = p; denoter = a.denoter })) (λ (l : Located). pure l.place) a.place ∙ then_pure a.place)

  valued_place : (m : Meaning) (ss : List Selector) → place_of_operand (spec.valued Logged on_log (meanings t) (calling t h) h m (map (selector t h) ss)).place ≡ (accessed t h m ss >>= λ l. pure l.place)
  unfolding accessed
  valued_place (Constant v k) ss = refl
  valued_place (Called r) ss = refl
  valued_place m ss = accessed_place (spec.accessed Logged on_log (meanings t) (calling t h) h m (map (selector t h) ss))

  place_out : (o : Option Variable) → place_of_operand (place_there o) ≡ variable_place o
  unfolding valued
  place_out None = refl
  place_out (Some v) = valued_place (meanings t (out-Variable v).name) (out-Variable v).selectors

  abbrev pub reference_plan : Option Variable → ActualParameters → Plan ActualParameters
  reference_plan None g = Refuse Broken
  reference_plan (Some v) g = First (accessed t h (meanings t (out-Variable v).name) (out-Variable v).selectors) (λ l. Check (with_reference g l.place))

  reference_out : (o : Option Variable) (g : ActualParameters) → (variable_place o >>= λ p. checked (with_reference g p)) ≡ run (reference_plan o g)
  reference_out None g = refl
  reference_out (Some v) g = then_then (λ l. pure l.place) (λ p. checked (with_reference g p)) (accessed t h (meanings t (out-Variable v).name) (out-Variable v).selectors)

  abbrev pub give_plan : Passing → Expr → ActualParameters → Plan ActualParameters
  give_plan (ByValue d) e g = First (expr t h e).value (λ v. plan.Given (fitted d v) (λ w. Check (with_value g w)))
  give_plan ByPlace e g = reference_plan (variable_in e) g

  fitting : (fit : Result (Unit {0}) model.Stop) (v : Value) (g : ActualParameters) → (checked {S = Logged} fit >>= λ ok. pure (record g { values = g.values ++ v ∷ [] })) ≡ (checked (fit >>> λ ok. Ok v) >>= λ w. checked (with_value g w))
  fitting (Ok ok) v g = refl
  fitting (Err f) v g = refl

  give_out : (p : Passing) (e : Expr) (g : ActualParameters) → give t h p e g ≡ run (give_plan p e g)
  give_out (ByValue d) e g = λ i. (expr t h e).value >>= λ v. fitting (stopping (assignable (shape_of d) v)) v g i
  give_out ByPlace e g = ap (λ (p : Step Logged Place). p >>= λ q. pure (record g { references = g.references ++ q ∷ [] })) (ap (λ (o : Option (Step Logged Place)). place_of_operand o) (expr_place e) ∙ place_out (variable_in e)) ∙ reference_out (variable_in e) g

  pub give_steps : (p q : Passing) (e : Expr) (g : ActualParameters) → p ≡ q → Is (give t h p e g) (give_plan q e g)
  give_steps p q e g is = record { is = give_out p e g ∙ ap (λ (x : Passing). run (give_plan x e g)) is }

  -- a value
  pub give_is : (p q : Passing) (e : Expr) (g : ActualParameters) → p ≡ q → Is (give t h p e g) (Last (give t h q e g))
  give_is p q e g is = record { is = ap (λ (x : Passing). give t h x e g) is }

  pub reference_steps : (p : Passing) (e : Expr) (o : Option Variable) (g : ActualParameters) → p ≡ ByPlace → variable_in e ≡ o → Is (give t h p e g) (reference_plan o g)
  reference_steps p e o g by_place is = record { is = give_out p e g ∙ ap (λ (x : Passing). run (give_plan x e g)) by_place ∙ ap (λ (x : Option Variable). run (reference_plan x g)) is }

  -- the variable by what its name means
  pub reference_reads : (p : Passing) (e : Expr) (v : Variable) (g : ActualParameters) (m : Meaning) (ss : List Selector) → p ≡ ByPlace → variable_in e ≡ Some v → m ≡ meanings t (out-Variable v).name → ss ≡ (out-Variable v).selectors
      → Is (give t h p e g) (First (accessed t h m ss) (λ l. Check (with_reference g l.place)))
  reference_reads p e v g m ss by_place is means own = record {
    is = (reference_steps p e (Some v) g by_place is).is
        ∙ ap (λ (k : Meaning). run (First (accessed t h k (out-Variable v).selectors) (λ l. Check (with_reference g l.place)))) (sym means)
        ∙ ap (λ (xs : List Selector). run (First (accessed t h m xs) (λ l. Check (with_reference g l.place)))) (sym own);
  }

-- ---- the arguments from left to right

-- what is left to give, from these arguments and this state on, gives what all gave
pub record LeftToGive (t : Scoped) (h : Environment) (ps : List Passing) (es : List Expr) (i : ℕ) (g : ActualParameters) (s s0 : Running Logged) : Type 0 where
  pub same : give_all (drop i ps) (map (expr t h) (drop i es)) g s ≡ arguments t h ps es s0

next_given : (t : Scoped) (h : Environment) (ps : List Passing) (es : List Expr) (i : ℕ) (g : ActualParameters) (p : Passing) (e : Expr) → i < length ps → i < length es → p ≡ get_or ps i p → e ≡ get_or es i e
    → give_all (drop i ps) (map (expr t h) (drop i es)) g ≡ (give t h p e g >>= λ k. give_all (drop (suc i) ps) (map (expr t h) (drop (suc i) es)) k)
next_given t h ps es i g p e below inside at here = ap (λ qs. give_all qs (map (expr t h) (drop i es)) g) (next_item ps i p below at) ∙ ap (λ xs. give_all (p ∷ drop (suc i) ps) (map (expr t h) xs) g) (next_item es i e inside here)

module _ {t : Scoped} {h : Environment} {ps : List Passing} {es : List Expr} {i : ℕ} {g : ActualParameters} {s s0 : Running Logged} where
  -- one more is given
  pub given_turn : {p : Passing} {e : Expr} {k : ActualParameters} {u : Running Logged} → LeftToGive t h ps es i g s s0 → i < length ps → i < length es → p ≡ get_or ps i p → e ≡ get_or es i e → give t h p e g s ≡ Ok (k, u) → LeftToGive t h ps es (i + 1) k u s0
  given_turn {p} {e} {k} {u} before below inside at here does = record {
    same = rw add-one (sym (ap (λ q. and_then q (λ c. give_all (drop (suc i) ps) (map (expr t h) (drop (suc i) es)) c)) does) ∙ ap (λ (q : Step Logged ActualParameters). q s) (sym (next_given t h ps es i g p e below inside at here)) ∙ before.same);
  }

  pub given_stops : {p : Passing} {e : Expr} {x : Stop} {u : Running Logged} → LeftToGive t h ps es i g s s0 → i < length ps → i < length es → p ≡ get_or ps i p → e ≡ get_or es i e → Leads (give t h p e g) s (Err x) u → Runs (Last (arguments t h ps es)) s0 (Err x) u
  given_stops {p} {e} {x} {u} before below inside at here stops = record {
    follows = follows_outcome (arguments t h ps es) s0 (Err x) u (give t h p e g >>= λ k. give_all (drop (suc i) ps) (map (expr t h) (drop (suc i) es)) k) s
        (sym before.same ∙ ap (λ (q : Step Logged ActualParameters). q s) (next_given t h ps es i g p e below inside at here))
        (follows_stops (give t h p e g) (λ k. give_all (drop (suc i) ps) (map (expr t h) (drop (suc i) es)) k) s u x stops);
  }

  -- an argument without a parameter
  pub given_spare : LeftToGive t h ps es i g s s0 → length ps ≤ i → i < length es → arguments t h ps es s0 ≡ Err (Broken, s.left)
  given_spare before past inside =
      sym before.same ∙ ap (λ qs. give_all qs (map (expr t h) (drop i es)) g s) (drop_of_length-le ps past)
      ∙ by (drop i es) (omega (arith, length-drop i es, inside))
    where
      by : (xs : List Expr) → 0 < length xs → give_all [] (map (expr t h) xs) g s ≡ Err (Broken, s.left)
      by [] below = absurd (omega (arith, below))
      by (x ∷ xs) below = refl

  -- a parameter without an argument
  pub given_short : LeftToGive t h ps es i g s s0 → length es ≤ i → i < length ps → arguments t h ps es s0 ≡ Err (Broken, s.left)
  given_short before past inside =
      sym before.same ∙ ap (λ xs. give_all (drop i ps) (map (expr t h) xs) g s) (drop_of_length-le es past)
      ∙ by (drop i ps) (omega (arith, length-drop i ps, inside))
    where
      by : (qs : List Passing) → 0 < length qs → give_all qs [] g s ≡ Err (Broken, s.left)
      by [] below = absurd (omega (arith, below))
      by (q ∷ qs) below = refl

  pub given_all : LeftToGive t h ps es i g s s0 → length es ≤ i → length ps ≤ i → arguments t h ps es s0 ≡ Ok (g, s)
  given_all before past over =
      sym before.same ∙ ap (λ xs. give_all (drop i ps) (map (expr t h) xs) g s) (drop_of_length-le es past) ∙ ap (λ qs. give_all qs [] g s) (drop_of_length-le ps over)

pub given_begins : (t : Scoped) (h : Environment) (ps : List Passing) (es : List Expr) (g : ActualParameters) (s : Running Logged) → g ≡ no_arguments → LeftToGive t h ps es 0 g s s
given_begins t h ps es g s none = record { same = ap (λ k. give_all ps (map (expr t h) es) k s) none }

-- values for parameters of some types

pub types_length : (ts : List Denoter) → length (map ByValue ts) ≡ length ts
types_length ts = length-map ts (λ d. ByValue d)

pub type_item : (ts : List Denoter) (i : ℕ) (d : Denoter) → i < length ts → d ≡ get_or ts i d → ByValue d ≡ get_or (map ByValue ts) i (ByValue d)
type_item ts i d inside is = ap (λ (u : Denoter). ByValue u) is ∙ sym (get_or-map (λ u. ByValue u) ts i d (ByValue d) inside)

-- ---- calls

pub spend_first : (t : Scoped) (n : ℕ) (begins : Do Logged) (p : Path) (r : Routine) (g : ActualParameters) (s u : Running Logged) (e : Stop) → Leads spend s (Err e) u → Leads (nested Logged on_log (meanings t) (actions t) n begins p r g) s (Err e) u
spend_first t zero begins p r g s u e stops = follows_stops spend (λ x. fail CallDepth) s u e stops
spend_first t (suc n) begins p r g s u e stops = follows_stops (spend >> begins) (λ x. calls.within Logged on_log (meanings t) (actions t) (nested Logged on_log (meanings t) (actions t) n) (max_depth - n) p r g) s u e (follows_stops spend (λ x. begins) s u e stops)

-- no unit is left
pub spend_stops : (t : Scoped) (h : Environment) (r : Routine) (g : ActualParameters) {s u : Running Logged} {e : Stop} → Leads spend s (Err e) u → Runs (Last (calling t h r g)) s (Err e) u
unfolding calling entering
spend_stops t h r g {s} {u} {e} stops = record { follows = spend_first t (max_depth - h.frame) (pure tt) h.path r g s u e stops }

-- a call that nests too deep
pub deep_call : (t : Scoped) (h : Environment) (r : Routine) (g : ActualParameters) → max_depth ≤ h.frame → Is (calling t h r g) (First spend (λ u. Refuse (Faults CallDepth)))
unfolding calling entering
deep_call t h r g deep =
    let none : max_depth - h.frame ≡ zero = omega (arith, deep) in
    record { is = ap (λ n. nested Logged on_log (meanings t) (actions t) n (pure tt) h.path r g) none }

abbrev nothing : Do Logged
nothing = pure tt

begun_call : (p : Do Logged) (q : Step Logged Value) → (p >> nothing >> q) ≡ (p >> q)
begun_call p q = then_then (λ u. nothing) (λ u. q) p

-- a call in a frame of its own

pub next_call : (t : Scoped) (h inner : Environment) (r : Routine) (g : ActualParameters) → h.frame < max_depth → inner ≡ record { path = h.path; frame = h.frame + 1; references = g.references } → Is (calling t h r g) (First spend (λ u. Last (within t inner r g.values)))
unfolding calling entering within
next_call t h inner r g below is =
    let left : max_depth - h.frame ≡ suc (max_depth - (h.frame + 1)) = omega (arith, below) in
    let depth : max_depth - (max_depth - (h.frame + 1)) ≡ h.frame + 1 = omega (arith, below) in
    record {
      is = ap (λ n. nested Logged on_log (meanings t) (actions t) n (pure tt) h.path r g) left
          ∙ begun_call spend (calls.within Logged on_log (meanings t) (actions t) (nested Logged on_log (meanings t) (actions t) (max_depth - (h.frame + 1))) (max_depth - (max_depth - (h.frame + 1))) h.path r g)
          ∙ ap (λ d. spend >> calls.within Logged on_log (meanings t) (actions t) (nested Logged on_log (meanings t) (actions t) (max_depth - (h.frame + 1))) d h.path r g) depth
          ∙ ap (λ (k : Environment). spend >> within t k r g.values) (sym is);
    }

-- the statements of a routine, in its frame
pub within_steps : (t : Scoped) (h : Environment) (r : Routine) (vs : List Value) → Is (within t h r vs) (First (enter r vs) (λ u. First (stmts t h r.body) (λ w. Last (leave r))))
unfolding within stmts calling
within_steps t h r vs = record { is = then_then (λ u. stmts t h r.body) (λ w. leave r) (enter r vs) }
