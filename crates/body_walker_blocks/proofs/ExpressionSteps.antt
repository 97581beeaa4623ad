-- Expressions step by step, as they are walked.
use Rattle.std.proofs.Common.{◌≡◌, ◌∙◌, ℕ, Bool, true, false, List, [], ◌∷◌, map, refl, sym, ap, Option, Some, None, ℤ, Result, Ok, Err, cond}
use Rattle.std.specs.Prelude.{not}
use Rattle.pascal_values.specs.declared.value.Value.{Value}
use Rattle.pascal_values.specs.declared.value.Value.TheVariants as pascal
use Rattle.pascal_values.specs.Sets.{union}
use Rattle.estelle_tree.specs.declared.span.Span.{Span}
use Rattle.estelle_tree.specs.declared.tree.type_expr.Sign.{Sign}
use Rattle.estelle_tree.specs.declared.tree.type_expr.Sign.TheVariants as sign
use Rattle.estelle_tree.specs.declared.tree.expression.Relation.{Relation}
use Rattle.estelle_tree.specs.declared.tree.expression.Adding.{Adding}
use Rattle.estelle_tree.specs.declared.tree.expression.Adding.TheVariants as adding
use Rattle.estelle_tree.specs.declared.tree.expression.Multiplying.{Multiplying}
use Rattle.estelle_tree.specs.declared.tree.expression.Multiplying.TheVariants as multiplying
use Rattle.estelle_tree.specs.declared.tree.expression.Factor.{Factor, out-Factor}
use Rattle.estelle_tree.specs.declared.tree.expression.Selector.{Selector}
use Rattle.estelle_tree.specs.declared.tree.expression.Args.{Args, out-Args}
use Rattle.estelle_tree.specs.declared.tree.expression.Elem.{Elem, out-Elem}
use Rattle.estelle_tree.specs.declared.tree.expression.Expr.{Expr, out-Expr}
use Rattle.estelle_tree.specs.declared.tree.expression.Simple.{Simple, out-Simple}
use Rattle.estelle_tree.specs.declared.tree.expression.Term.{Term, out-Term}
use Rattle.estelle_tree.specs.declared.tree.expression.Variable.{Variable, out-Variable}
use Rattle.estelle_tree.specs.declared.tree.expression.Factor.TheOpen.{Factor-F}
use Rattle.estelle_model.specs.declared.denoter.Host.TheVariants as hosts
use Rattle.estelle_model.specs.declared.place.Environment.{Environment}
use Rattle.estelle_model.specs.Operators.{◌>>>◌, bool_of, plus, minus, times, divided, modulo, negation, related, one_member, members_from}
use Rattle.estelle_model.specs.States.{Logged, on_log}
use Rattle.estelle_model.specs.Stops.{Stop}
use Rattle.estelle_model.specs.Steps.{StepResult, Step, and_then, ◌>>=◌, pure, checked_at, checked}
use Rattle.estelle_model.specs.Expressions as spec
use Rattle.estelle_model.specs.Expressions.{Operand, computed, both, bool_step, conjunction, disjunction, simple_of, term_of, set_step, member_step}
use Rattle.estelle_model.proofs.ExpressionEquations.{factor_at, elem_at, expr_at, factor_opened, args_opened, elem_opened, expr_opened, simple_opened, term_opened, variable_opened}
use Rattle.body_walker_blocks.specs.Scopes.{Scoped, meanings}
use Rattle.body_walker_blocks.specs.Operands.{decides_sum, decides_product, truth, sum, product, with_sign, with_members}
use Rattle.body_walker_blocks.specs.Walked.{calling, expr, simple, term, factor, elem, selector, ordinal, added, multiplied, set_of, valued, designated}
use Rattle.body_walker_blocks.proofs.Plans.{Plan, First, Given, Last, Check, Finish, run, either, Is}
use Rattle.body_walker_blocks.proofs.Chains.{chain}
use Rattle.body_walker_blocks.proofs.Followed.{then_pure, then_then}

-- ---- operators whose left operand is evaluated

-- the left operand, and then the rest with its value
both_then : (f : Value → Value → Result Value Stop) (p q : Step Logged Value) → both f p q ≡ (p >>= λ v. both f (pure v) q)
both_then f p q = refl

disjunction_then : (p q : Step Logged Value) → disjunction p q ≡ (p >>= λ v. disjunction (pure v) q)
unfolding disjunction
disjunction_then p q = then_then (λ v. checked (bool_of v)) (λ b. cond b (pure (pascal.Bool true)) (bool_step q >>= λ c. pure (pascal.Bool c))) p

conjunction_then : (p q : Step Logged Value) → conjunction p q ≡ (p >>= λ v. conjunction (pure v) q)
unfolding conjunction
conjunction_then p q = then_then (λ v. checked (bool_of v)) (λ b. cond b (bool_step q >>= λ c. pure (pascal.Bool c)) (pure (pascal.Bool false))) p

added_then : (op : Adding) (p q : Step Logged Value) → spec.added op p q ≡ (p >>= λ v. spec.added op (pure v) q)
added_then adding.Plus p q = both_then plus p q
added_then adding.Minus p q = both_then minus p q
added_then adding.Or p q = disjunction_then p q

multiplied_then : (op : Multiplying) (p q : Step Logged Value) → spec.multiplied op p q ≡ (p >>= λ v. spec.multiplied op (pure v) q)
multiplied_then multiplying.Star p q = both_then times p q
multiplied_then multiplying.Div p q = both_then divided p q
multiplied_then multiplying.Mod p q = both_then modulo p q
multiplied_then multiplying.And p q = conjunction_then p q

-- a truth value of the right operand
truth_end : (o : StepResult Logged Value) → and_then (and_then o (λ v. checked (bool_of v))) (λ c. pure (pascal.Bool c)) ≡ and_then o (λ w. checked (truth w))
truth_end (Err e) = refl
truth_end (Ok r) = by (bool_of r.0)
  where
    by : (b : Result Bool Stop) → and_then (checked_at b r.1) (λ c. pure (pascal.Bool c)) ≡ checked_at (b >>> λ c. Ok (pascal.Bool c)) r.1
    by (Ok c) = refl
    by (Err f) = refl

truth_is : (q : Step Logged Value) → (bool_step q >>= λ c. pure (pascal.Bool c)) ≡ (q >>= λ w. checked (truth w))
truth_is q = λ i s. truth_end (q s) i

-- where the left operand decides, the right one is not evaluated
abbrev pub sum_plan : Adding → Value → Step Logged Value → Plan Value
sum_plan op v q = Given (decides_sum op v) (λ d. either d (Finish (pascal.Bool true)) (First q (λ w. Check (sum op v w))))

decided : (d : Bool) (p : Value) (q : Plan Value) → cond d (pure p) (run q) ≡ run (either d (Finish p) q)
decided true p q = refl
decided false p q = refl

sum_out : (op : Adding) (v : Value) (q : Step Logged Value) → spec.added op (pure v) q ≡ (checked (decides_sum op v) >>= λ d. cond d (pure (pascal.Bool true)) (q >>= λ w. checked (sum op v w)))
unfolding disjunction
sum_out adding.Plus v q = refl
sum_out adding.Minus v q = refl
sum_out adding.Or v q = ap (λ (p : Step Logged Value). checked (bool_of v) >>= λ d. cond d (pure (pascal.Bool true)) p) (truth_is q)

pub added_is : (op : Adding) (v : Value) (q : Step Logged Value) → Is (spec.added op (pure v) q) (sum_plan op v q)
added_is op v q = record { is = sum_out op v q ∙ (λ i. checked (decides_sum op v) >>= λ d. decided d (pascal.Bool true) (First q (λ w. Check (sum op v w))) i) }

negated : (r : Result Bool Stop) (p q : Step Logged Value) → (checked r >>= λ b. cond b p q) ≡ (checked (r >>> λ b. Ok (not b)) >>= λ d. cond d q p)
negated (Ok true) p q = refl
negated (Ok false) p q = refl
negated (Err f) p q = refl

abbrev pub product_plan : Multiplying → Value → Step Logged Value → Plan Value
product_plan op v q = Given (decides_product op v) (λ d. either d (Finish (pascal.Bool false)) (First q (λ w. Check (product op v w))))

product_out : (op : Multiplying) (v : Value) (q : Step Logged Value) → spec.multiplied op (pure v) q ≡ (checked (decides_product op v) >>= λ d. cond d (pure (pascal.Bool false)) (q >>= λ w. checked (product op v w)))
unfolding conjunction
product_out multiplying.Star v q = refl
product_out multiplying.Div v q = refl
product_out multiplying.Mod v q = refl
product_out multiplying.And v q = ap (λ (p : Step Logged Value). checked (bool_of v) >>= λ b. cond b p (pure (pascal.Bool false))) (truth_is q) ∙ negated (bool_of v) (q >>= λ w. checked (truth w)) (pure (pascal.Bool false))

pub multiplied_is : (op : Multiplying) (v : Value) (q : Step Logged Value) → Is (spec.multiplied op (pure v) q) (product_plan op v q)
multiplied_is op v q = record { is = product_out op v q ∙ (λ i. checked (decides_product op v) >>= λ d. decided d (pascal.Bool false) (First q (λ w. Check (product op v w))) i) }

-- ---- one layer of a tree

module _ (t : Scoped) (h : Environment) where
  -- a simple expression, and another behind a relational operator
  abbrev pub compared : Option (Relation × Simple) → Value → Plan Value
  compared None v = Finish v
  compared (Some r) v = First (simple t h r.1).value (λ w. Check (related r.0 v w))

  abbrev pub expr_plan : Simple → Option (Relation × Simple) → Plan Value
  expr_plan left right = First (simple t h left).value (compared right)

  expr_out : (left : Simple) (right : Option (Relation × Simple)) (span : Span) → (expr_at Logged on_log (meanings t) (calling t h) h (record { left = left; right = right; span = span })).value ≡ run (expr_plan left right)
  unfolding simple
  expr_out left None span = sym (then_pure (simple t h left).value)
  expr_out left (Some r) span = refl

  pub expr_steps : (x : Expr) (right : Option (Relation × Simple)) → (out-Expr x).right ≡ right → Is (expr t h x).value (expr_plan (out-Expr x).left right)
  unfolding expr
  expr_steps x right is = record { is = ap (λ (e : Operand Logged). e.value) (expr_opened Logged on_log (meanings t) (calling t h) h x) ∙ expr_out (out-Expr x).left (out-Expr x).right (out-Expr x).span ∙ ap (λ (o : Option (Relation × Simple)). run (expr_plan (out-Expr x).left o)) is }

  -- ---- terms from left to right

  with_sign_then : (sign : Option Sign) (e : Operand Logged) → (spec.with_sign Logged on_log (meanings t) (calling t h) h sign e).value ≡ (e.value >>= λ v. checked (with_sign sign v))
  with_sign_then None e = sym (then_pure e.value)
  with_sign_then (Some sign.Plus) e = sym (then_pure e.value)
  with_sign_then (Some sign.Minus) e = refl

  abbrev pub add_term : Value → Adding × Term → Step Logged Value
  add_term v o = added t h o.0 v o.1

  terms_then : (e : Operand Logged) (os : List (Adding × Term)) → (simple_of Logged on_log (meanings t) (calling t h) h e (map (λ o. (o.0, term t h o.1)) os)).value ≡ (e.value >>= λ v. chain add_term v os)
  terms_then e [] = sym (then_pure e.value)
  terms_then e (o ∷ os) =
      let one : Operand Logged = computed (spec.added_host o.0) (spec.added o.0 e.value (term t h o.1).value) in
      terms_then one os
      ∙ ap (λ (p : Step Logged Value). p >>= λ v. chain add_term v os) (added_then o.0 e.value (term t h o.1).value)
      ∙ then_then (λ v. add_term v o) (λ v. chain add_term v os) e.value

  simple_opens : (x : Simple) → simple t h x ≡ simple_of Logged on_log (meanings t) (calling t h) h (spec.with_sign Logged on_log (meanings t) (calling t h) h (out-Simple x).sign (term t h (out-Simple x).first)) (map (λ o. (o.0, term t h o.1)) (out-Simple x).others)
  unfolding simple term
  simple_opens x = simple_opened Logged on_log (meanings t) (calling t h) h x

  pub simple_steps : (x : Simple) → Is (simple t h x).value (First (term t h (out-Simple x).first).value (λ v. Given (with_sign (out-Simple x).sign v) (λ w. Last (chain add_term w (out-Simple x).others))))
  simple_steps x = record {
    is =
        let first : Operand Logged = term t h (out-Simple x).first in
        let begun : Operand Logged = spec.with_sign Logged on_log (meanings t) (calling t h) h (out-Simple x).sign first in
        ap (λ (e : Operand Logged). e.value) (simple_opens x)
        ∙ terms_then begun (out-Simple x).others
        ∙ ap (λ (p : Step Logged Value). p >>= λ w. chain add_term w (out-Simple x).others) (with_sign_then (out-Simple x).sign first)
        ∙ then_then (λ v. checked (with_sign (out-Simple x).sign v)) (λ w. chain add_term w (out-Simple x).others) first.value;
  }

  -- ---- factors from left to right

  abbrev pub multiply_factor : Value → Multiplying × Factor → Step Logged Value
  multiply_factor v o = multiplied t h o.0 v o.1

  factors_then : (e : Operand Logged) (os : List (Multiplying × Factor)) → (term_of Logged on_log (meanings t) (calling t h) h e (map (λ o. (o.0, factor t h o.1)) os)).value ≡ (e.value >>= λ v. chain multiply_factor v os)
  factors_then e [] = sym (then_pure e.value)
  factors_then e (o ∷ os) =
      let one : Operand Logged = computed (spec.multiplied_host o.0) (spec.multiplied o.0 e.value (factor t h o.1).value) in
      factors_then one os
      ∙ ap (λ (p : Step Logged Value). p >>= λ v. chain multiply_factor v os) (multiplied_then o.0 e.value (factor t h o.1).value)
      ∙ then_then (λ v. multiply_factor v o) (λ v. chain multiply_factor v os) e.value

  term_opens : (x : Term) → term t h x ≡ term_of Logged on_log (meanings t) (calling t h) h (factor t h (out-Term x).first) (map (λ o. (o.0, factor t h o.1)) (out-Term x).others)
  unfolding term factor
  term_opens x = term_opened Logged on_log (meanings t) (calling t h) h x

  pub term_steps : (x : Term) → Is (term t h x).value (First (factor t h (out-Term x).first).value (λ v. Last (chain multiply_factor v (out-Term x).others)))
  term_steps x = record { is = ap (λ (e : Operand Logged). e.value) (term_opens x) ∙ factors_then (factor t h (out-Term x).first) (out-Term x).others }

  -- ---- factors

  abbrev pub factor_as : Factor-F Factor Selector Args Elem Expr Simple Term Variable → Operand Logged
  factor_as (Factor-F.Number n span) = computed hosts.Integer (pure (pascal.Int n))
  factor_as (Factor-F.Char n span) = computed hosts.Char (pure (pascal.Char n))
  factor_as (Factor-F.Variable v) = valued t h (out-Variable v).name (out-Variable v).selectors
  factor_as (Factor-F.Call x es span) = designated t h x (out-Args es).exprs
  factor_as (Factor-F.Paren e span) = computed (expr t h e).host (expr t h e).value
  factor_as (Factor-F.Not e span) = computed hosts.Boolean ((factor t h e).value >>= λ v. checked (negation v))
  factor_as (Factor-F.Set es span) = computed hosts.Integer (set_of t h es)

  pub factor_steps : (x : Factor) → factor t h x ≡ factor_as (out-Factor x)
  unfolding factor expr elem valued designated selector
  factor_steps x = factor_opened Logged on_log (meanings t) (calling t h) h x ∙ by (out-Factor x)
    where
      by : (l : Factor-F Factor Selector Args Elem Expr Simple Term Variable) → factor_at Logged on_log (meanings t) (calling t h) h l ≡ factor_as l
      by (Factor-F.Number n span) = refl
      by (Factor-F.Char n span) = refl
      by (Factor-F.Variable v) = ap (λ (w : spec.Written Logged). spec.valued Logged on_log (meanings t) (calling t h) h (meanings t w.name) w.selectors) (variable_opened Logged on_log (meanings t) (calling t h) h v)
      by (Factor-F.Call x es span) = ap (λ (fs : List (Operand Logged)). spec.designated Logged on_log (meanings t) (calling t h) h (meanings t x) fs) (args_opened Logged on_log (meanings t) (calling t h) h es)
      by (Factor-F.Paren e span) = refl
      by (Factor-F.Not e span) = refl
      by (Factor-F.Set es span) = refl

  abbrev pub factor_plan : Factor-F Factor Selector Args Elem Expr Simple Term Variable → Plan Value
  factor_plan (Factor-F.Number n span) = Finish (pascal.Int n)
  factor_plan (Factor-F.Char n span) = Finish (pascal.Char n)
  factor_plan (Factor-F.Variable v) = Last (valued t h (out-Variable v).name (out-Variable v).selectors).value
  factor_plan (Factor-F.Call x es span) = Last (designated t h x (out-Args es).exprs).value
  factor_plan (Factor-F.Paren e span) = Last (expr t h e).value
  factor_plan (Factor-F.Not e span) = First (factor t h e).value (λ v. Check (negation v))
  factor_plan (Factor-F.Set es span) = Last (set_of t h es)

  factor_value : (l : Factor-F Factor Selector Args Elem Expr Simple Term Variable) → (factor_as l).value ≡ run (factor_plan l)
  factor_value (Factor-F.Number n span) = refl
  factor_value (Factor-F.Char n span) = refl
  factor_value (Factor-F.Variable v) = refl
  factor_value (Factor-F.Call x es span) = refl
  factor_value (Factor-F.Paren e span) = refl
  factor_value (Factor-F.Not e span) = refl
  factor_value (Factor-F.Set es span) = refl

  pub factor_walks : (x : Factor) (l : Factor-F Factor Selector Args Elem Expr Simple Term Variable) → out-Factor x ≡ l → Is (factor t h x).value (factor_plan l)
  factor_walks x l is = record { is = ap (λ (e : Operand Logged). e.value) (factor_steps x ∙ ap factor_as is) ∙ factor_value l }

  -- ---- set constructors

  abbrev pub members_plan : List ℕ → Elem → Plan (List ℕ)
  members_plan made e = First (elem t h e) (λ more. Check (with_members made more))

  abbrev pub add_members : List ℕ → Elem → Step Logged (List ℕ)
  add_members made e = run (members_plan made e)

  members_then : (made : List ℕ) (es : List Elem) → set_step made (map (elem t h) es) ≡ (chain add_members made es >>= λ all. pure (pascal.Set all))
  members_then made [] = refl
  members_then made (e ∷ es) =
      (λ i. elem t h e >>= λ more. members_then (union made more) es i)
      ∙ sym (then_then (λ more. checked (with_members made more)) (λ all. chain add_members all es >>= λ all. pure (pascal.Set all)) (elem t h e))
      ∙ sym (then_then (λ all. chain add_members all es) (λ all. pure (pascal.Set all)) (add_members made e))

  pub set_steps_from : (es : List Elem) (made : List ℕ) → made ≡ [] → Is (set_of t h es) (First (chain add_members made es) (λ all. Finish (pascal.Set all)))
  set_steps_from es made none = record { is = members_then [] es ∙ ap (λ (ns : List ℕ). run (First (chain add_members ns es) (λ all. Finish (pascal.Set all)))) (sym none) }

  -- the set so far, with the members of one more designator
  pub members_is : (made : List ℕ) (e : Elem) → Is (add_members made e) (members_plan made e)
  members_is made e = record { is = refl }

  abbrev pub members_to : Option Expr → ℤ → Plan (List ℕ)
  members_to None a = Check (one_member a)
  members_to (Some e) a = First (ordinal t h e) (λ b. Check (members_from a b))

  abbrev pub elem_plan : Expr → Option Expr → Plan (List ℕ)
  elem_plan first last = First (ordinal t h first) (members_to last)

  elem_out : (first : Expr) (last : Option Expr) (span : Span) → elem_at Logged on_log (meanings t) (calling t h) h (record { first = first; last = last; span = span }) ≡ run (elem_plan first last)
  unfolding expr
  elem_out first None span = refl
  elem_out first (Some e) span = refl

  pub elem_steps : (x : Elem) (last : Option Expr) → (out-Elem x).last ≡ last → Is (elem t h x) (elem_plan (out-Elem x).first last)
  unfolding elem
  elem_steps x last is = record { is = elem_opened Logged on_log (meanings t) (calling t h) h x ∙ elem_out (out-Elem x).first (out-Elem x).last (out-Elem x).span ∙ ap (λ (o : Option Expr). run (elem_plan (out-Elem x).first o)) is }
