-- What each step keeps every expression keeps, where every call does.
use Rattle.std.proofs.Common.{ℕ, List, [], ◌∷◌, map, ℤ, Option, Some, None}
use Rattle.std.specs.Prelude.{slice_get}
use Rattle.pascal_values.specs.declared.value.Value.{Value}
use Rattle.pascal_values.specs.declared.value.Value.TheVariants as pascal
use Rattle.estelle_tree.specs.declared.span.Span.{Span}
use Rattle.estelle_tree.specs.declared.tree.name.Name.{Name}
use Rattle.estelle_tree.specs.declared.tree.type_expr.Sign.{Sign}
use Rattle.estelle_tree.specs.declared.tree.type_expr.Sign.TheVariants as sign
use Rattle.estelle_tree.specs.declared.tree.expression.Relation.{Relation}
use Rattle.estelle_tree.specs.declared.tree.expression.Adding.{Adding}
use Rattle.estelle_tree.specs.declared.tree.expression.Multiplying.{Multiplying}
use Rattle.estelle_tree.specs.declared.tree.expression.Args.{Args}
use Rattle.estelle_tree.specs.declared.tree.expression.Expr.{Expr}
use Rattle.estelle_tree.specs.declared.tree.expression.Variable.{Variable}
use Rattle.estelle_tree.specs.declared.tree.expression.Factor.TheOpen.{Factor-F, Selector-F}
use Rattle.estelle_tree.proofs.Folds.{Related, Pairs, KeepsAt, folds_related}
use Rattle.estelle_tree.proofs.ExpressionFolds as kind
use Rattle.estelle_tree.proofs.ExpressionFolds.{Kind, Layer, expressions}
use Rattle.estelle_model.specs.Types.{ordinal_of, item_place}
use Rattle.estelle_tree.specs.declared.required.Required.{Required}
use Rattle.estelle_model.specs.Operators.{negation, signed, related, required_value}
use Rattle.estelle_tree.specs.Paths.{Path}
use Rattle.estelle_model.specs.States.{Offers}
use Rattle.estelle_model.specs.Stops.{Broken}
use Rattle.estelle_model.specs.Steps.{Step, Running, StepResult, ◌>>=◌, pure, checked, breaks}
use Rattle.estelle_model.specs.declared.meaning.Routine.{Routine}
use Rattle.estelle_model.specs.declared.meaning.Meaning.{Meaning}
use Rattle.estelle_model.specs.declared.meaning.Meaning.TheVariants.{Constant, Own, Exported, Local, Var, Field, Called, RequiredFunction, Module}
use Rattle.estelle_model.specs.Meant.{Meanings}
use Rattle.estelle_model.specs.declared.place.Place.{Place}
use Rattle.estelle_model.specs.declared.place.Place.TheVariants.{Of, In}
use Rattle.estelle_model.specs.Places.{deeper, set_value, load, child_step}
use Rattle.estelle_model.specs.declared.place.Environment.{Environment}
use Rattle.estelle_model.specs.declared.place.ActualParameters.{ActualParameters}
use Rattle.estelle_model.specs.Expressions.{Call, Operand, Access, Selecting, Written, ordinal_step, multiplied, multiplied_host, added, added_host, computed, give_all, no_arguments, reference_at, index_step, indexed, fielded, selected, exported, behind_dot, behind_module, accessed, of_access, called, valued, required_of, designated, term_of, with_sign, simple_of, factor, selector, args, elem, expr, simple, term, variable}
use Rattle.estelle_model.proofs.Kept.{Each, IfThere, each_has, each_marked_has, Has, IsClosed, OperandKept, AccessKept, SelectingKept, CallKept, then_kept, pure_kept, stop_kept, checked_kept, of_value_kept, both_kept, multiplied_kept, added_kept, give_all_kept, member_kept, set_kept, load_kept, child_kept}
use Rattle.estelle_model.proofs.ExpressionEquations.{Results, layers}

module _ (S : Type 0) (on : Offers S) (Q : (A : Type 0) → Running S → StepResult S A → Type 0) (closed : IsClosed S on Q) (meant : Meanings) (call : Call S) (calls : CallKept S on Q closed call) (here : Environment) where
  abbrev ON : Operand S → Type 0
  ON = OperandKept S on Q closed

  abbrev pub WrittenKept : Written S → Type 0
  WrittenKept w = Each (SelectingKept S on Q closed) w.selectors

  place_kept : (p : Place) → Has Q (pure p)
  place_kept p = pure_kept S on Q closed Place p

  index_kept : (a : Access S) (e : Operand S) → AccessKept S on Q closed a → ON e → Has Q (index_step S on meant call here a e)
  index_kept a e h k = then_kept S on Q closed Place Place a.place (λ p. ordinal_step e.value >>= λ n. checked (item_place a.denoter n) >>= λ j. pure (deeper p j)) h
      (λ p. then_kept S on Q closed ℤ Place (ordinal_step e.value) (λ n. checked (item_place a.denoter n) >>= λ j. pure (deeper p j)) (of_value_kept S on Q closed ℤ ordinal_of e.value k.value)
      (λ n. then_kept S on Q closed ℕ Place (checked (item_place a.denoter n)) (λ j. pure (deeper p j)) (checked_kept S on Q closed ℕ (item_place a.denoter n)) (λ j. place_kept (deeper p j))))

  indexed_kept : (es : List (Operand S)) (a : Access S) → Each ON es → AccessKept S on Q closed a → AccessKept S on Q closed (indexed S on meant call here es a)
  indexed_kept [] a h k = k
  indexed_kept (e ∷ es) a h k = indexed_kept es _ h.1 (index_kept a e k h.0)

  fielded_kept : (x : Meaning) (a : Access S) → AccessKept S on Q closed a → AccessKept S on Q closed (fielded S on meant call here x a)
  fielded_kept (Field k) a h = then_kept S on Q closed Place Place a.place (λ p. pure (deeper p k)) h (λ p. place_kept (deeper p k))
  fielded_kept _ a h = then_kept S on Q closed Place Place a.place (λ p. breaks) h (λ p. stop_kept S on Q closed Place Broken)

  selected_kept : (xs : List (Selecting S)) (a : Access S) → Each (SelectingKept S on Q closed) xs → AccessKept S on Q closed a → AccessKept S on Q closed (selected S on meant call here xs a)
  selected_kept [] a h k = k
  selected_kept (x ∷ xs) a h k = selected_kept xs (x.over a) h.1 (h.0 a k)

  exported_kept : (k : ℕ) (x : Meaning) (xs : List (Selecting S)) → Each (SelectingKept S on Q closed) xs → IfThere (AccessKept S on Q closed) (exported S on meant call here k x xs)
  exported_kept k (Exported n d) xs h = selected_kept xs (record { denoter = d; place = child_step S on here.path k >>= λ p. pure (Of p n []) }) h
      (then_kept S on Q closed Path Place (child_step S on here.path k) (λ p. pure (Of p n [])) (child_kept S on Q closed here.path k) (λ p. place_kept (Of p n [])))
  exported_kept k _ xs h = tt

  behind_dot_kept : (k : ℕ) (o : Option Name) (xs : List (Selecting S)) → Each (SelectingKept S on Q closed) xs → IfThere (AccessKept S on Q closed) (behind_dot S on meant call here k o xs)
  behind_dot_kept k None xs h = tt
  behind_dot_kept k (Some x) xs h = exported_kept k (meant x) xs h

  behind_module_kept : (k : ℕ) (xs : List (Selecting S)) → Each (SelectingKept S on Q closed) xs → IfThere (AccessKept S on Q closed) (behind_module S on meant call here k xs)
  behind_module_kept k [] h = tt
  behind_module_kept k (x ∷ xs) h = behind_dot_kept k x.name xs h.1

  pub accessed_kept : (x : Meaning) (xs : List (Selecting S)) → Each (SelectingKept S on Q closed) xs → IfThere (AccessKept S on Q closed) (accessed S on meant call here x xs)
  accessed_kept (Own k d) xs h = selected_kept xs (record { denoter = d; place = pure (Of here.path k []) }) h (place_kept (Of here.path k []))
  accessed_kept (Local k d) xs h = selected_kept xs (record { denoter = d; place = pure (In here.frame k []) }) h (place_kept (In here.frame k []))
  accessed_kept (Var k d) xs h = selected_kept xs (record { denoter = d; place = checked (reference_at (slice_get here.references k)) }) h (checked_kept S on Q closed Place (reference_at (slice_get here.references k)))
  accessed_kept (Exported k d) xs h = selected_kept xs (record { denoter = d; place = pure (Of here.path k []) }) h (place_kept (Of here.path k []))
  accessed_kept (Module k) xs h = behind_module_kept k xs h
  accessed_kept _ xs h = tt

  of_access_kept : (o : Option (Access S)) → IfThere (AccessKept S on Q closed) o → ON (of_access S on meant call here o)
  of_access_kept None h = record { value = stop_kept S on Q closed Value Broken; place = tt }
  of_access_kept (Some a) h = record { value = then_kept S on Q closed Place Value a.place (λ p. load S on p) h (λ p. load_kept S on Q closed p); place = h }

  called_kept : (r : Routine) (es : List (Operand S)) → Each ON es → Has Q (called S on meant call here r es)
  unfolding called
  called_kept r es h = then_kept S on Q closed ActualParameters Value (give_all r.parameters es no_arguments) (λ g. call r g >>= λ v. checked (set_value (Some v))) (give_all_kept S on Q closed r.parameters es no_arguments h)
      (λ g. of_value_kept S on Q closed Value (λ v. set_value (Some v)) (call r g) (calls r g))

  pub valued_kept : (x : Meaning) (xs : List (Selecting S)) → Each (SelectingKept S on Q closed) xs → ON (valued S on meant call here x xs)
  valued_kept (Constant v h) xs k = record { value = pure_kept S on Q closed Value v; place = tt }
  valued_kept (Called r) xs k = record { value = called_kept r [] tt; place = tt }
  valued_kept (Own n d) xs k = of_access_kept (accessed S on meant call here (Own n d) xs) (accessed_kept (Own n d) xs k)
  valued_kept (Exported n d) xs k = of_access_kept (accessed S on meant call here (Exported n d) xs) (accessed_kept (Exported n d) xs k)
  valued_kept (Local n d) xs k = of_access_kept (accessed S on meant call here (Local n d) xs) (accessed_kept (Local n d) xs k)
  valued_kept (Var n d) xs k = of_access_kept (accessed S on meant call here (Var n d) xs) (accessed_kept (Var n d) xs k)
  valued_kept (Module n) xs k = of_access_kept (accessed S on meant call here (Module n) xs) (accessed_kept (Module n) xs k)
  valued_kept _ xs k = of_access_kept None tt

  required_kept : (f : Required) (es : List (Operand S)) → Each ON es → ON (required_of S on meant call here f es)
  required_kept f [] h = record { value = stop_kept S on Q closed Value Broken; place = tt }
  required_kept f (a ∷ []) h = record { value = of_value_kept S on Q closed Value (λ v. required_value f a.host v) a.value h.0.value; place = tt }
  required_kept f (a ∷ (b ∷ more)) h = record { value = stop_kept S on Q closed Value Broken; place = tt }

  designated_kept : (x : Meaning) (es : List (Operand S)) → Each ON es → ON (designated S on meant call here x es)
  designated_kept (Called r) es h = record { value = called_kept r es h; place = tt }
  designated_kept (RequiredFunction f) es h = required_kept f es h
  designated_kept _ es h = record { value = stop_kept S on Q closed Value Broken; place = tt }

  term_of_kept : (e : Operand S) (xs : List (Multiplying × Operand S)) → ON e → Each (λ (x : Multiplying × Operand S). ON x.1) xs → ON (term_of S on meant call here e xs)
  term_of_kept e [] h k = h
  term_of_kept e (x ∷ xs) h k = term_of_kept (computed (multiplied_host x.0) (multiplied x.0 e.value x.1.value)) xs (record { value = multiplied_kept S on Q closed x.0 e.value x.1.value h.value k.0.value; place = tt }) k.1

  simple_of_kept : (e : Operand S) (xs : List (Adding × Operand S)) → ON e → Each (λ (x : Adding × Operand S). ON x.1) xs → ON (simple_of S on meant call here e xs)
  simple_of_kept e [] h k = h
  simple_of_kept e (x ∷ xs) h k = simple_of_kept (computed (added_host x.0) (added x.0 e.value x.1.value)) xs (record { value = added_kept S on Q closed x.0 e.value x.1.value h.value k.0.value; place = tt }) k.1

  with_sign_kept : (sign : Option Sign) (e : Operand S) → ON e → ON (with_sign S on meant call here sign e)
  with_sign_kept None e h = h
  with_sign_kept (Some sign.Plus) e h = record { value = h.value; place = tt }
  with_sign_kept (Some sign.Minus) e h = record { value = of_value_kept S on Q closed Value (signed sign.Minus) e.value h.value; place = tt }

  -- ---- trees

  abbrev NodeKept : (k : Kind) → Results S k → Results S k → Type 0
  NodeKept kind.selector x y = SelectingKept S on Q closed x
  NodeKept kind.args x y = Each ON x
  NodeKept kind.elem x y = Has {A = List ℕ} Q x
  NodeKept kind.variable x y = WrittenKept x
  NodeKept kind.factor x y = ON x
  NodeKept kind.expr x y = ON x
  NodeKept kind.simple x y = ON x
  NodeKept kind.term x y = ON x

  abbrev Keeps : (k : Kind) → Layer k (Pairs expressions (Results S) (Results S) (layers S on meant call here) (layers S on meant call here) NodeKept) → Type 0
  Keeps = KeepsAt expressions (Results S) (Results S) (layers S on meant call here) (layers S on meant call here) NodeKept

  at_elem : (first : Related (Operand S) (Operand S) (λ x y. ON x)) (last : Option (Related (Operand S) (Operand S) (λ x y. ON x))) (span : Span) → Keeps kind.elem (record { first = first; last = last; span = span })
  at_elem first None span = member_kept S on Q closed first.left None first.holds tt
  at_elem first (Some e) span = member_kept S on Q closed first.left (Some e.left) first.holds e.holds

  at_expr : (left : Related (Operand S) (Operand S) (λ x y. ON x)) (right : Option (Relation × Related (Operand S) (Operand S) (λ x y. ON x))) (span : Span) → Keeps kind.expr (record { left = left; right = right; span = span })
  at_expr left None span = left.holds
  at_expr left (Some x) span = record { value = both_kept S on Q closed (related x.0) left.left.value x.1.left.value left.holds.value x.1.holds.value; place = tt }

  keeps : (k : Kind) (l : Layer k (Pairs expressions (Results S) (Results S) (layers S on meant call here) (layers S on meant call here) NodeKept)) → Keeps k l
  keeps kind.factor (Factor-F.Number n span) = record { value = pure_kept S on Q closed Value (pascal.Int n); place = tt }
  keeps kind.factor (Factor-F.Char n span) = record { value = pure_kept S on Q closed Value (pascal.Char n); place = tt }
  keeps kind.factor (Factor-F.Variable v) = valued_kept (meant v.left.name) v.left.selectors v.holds
  keeps kind.factor (Factor-F.Call x es span) = designated_kept (meant x) es.left es.holds
  keeps kind.factor (Factor-F.Paren e span) = record { value = e.holds.value; place = tt }
  keeps kind.factor (Factor-F.Not e span) = record { value = of_value_kept S on Q closed Value negation e.left.value e.holds.value; place = tt }
  keeps kind.factor (Factor-F.Set elems span) = record { value = set_kept S on Q closed [] (map (λ (e : Related (Step S (List ℕ)) (Step S (List ℕ)) (λ x y. Has {A = List ℕ} Q x)). e.left) elems) (each_has (Has {A = List ℕ} Q) elems); place = tt }
  keeps kind.selector (Selector-F.Index es) = λ a h. indexed_kept (map (λ (e : Related (Operand S) (Operand S) (λ x y. ON x)). e.left) es) a (each_has ON es) h
  keeps kind.selector (Selector-F.Field x) = λ a h. fielded_kept (meant x) a h
  keeps kind.args l = each_has ON l.exprs
  keeps kind.elem l = at_elem l.first l.last l.span
  keeps kind.expr l = at_expr l.left l.right l.span
  keeps kind.simple l = simple_of_kept (with_sign S on meant call here l.sign l.first.left) _ (with_sign_kept l.sign l.first.left l.first.holds) (each_marked_has ON l.others)
  keeps kind.term l = term_of_kept l.first.left _ l.first.holds (each_marked_has ON l.others)
  keeps kind.variable l = each_has (SelectingKept S on Q closed) l.selectors

  nodes_kept : (k : Kind) (x : kind.Tree k) → NodeKept k (kind.folded (Results S) (layers S on meant call here) k x) (kind.folded (Results S) (layers S on meant call here) k x)
  nodes_kept = folds_related expressions (Results S) (Results S) (layers S on meant call here) (layers S on meant call here) NodeKept keeps

  pub args_kept : (x : Args) → Each (OperandKept S on Q closed) (args S on meant call here x)
  unfolding factor selector args elem expr simple term variable
  args_kept = nodes_kept kind.args

  pub expr_kept : (x : Expr) → OperandKept S on Q closed (expr S on meant call here x)
  unfolding factor selector args elem expr simple term variable
  expr_kept = nodes_kept kind.expr

  pub variable_kept : (x : Variable) → WrittenKept (variable S on meant call here x)
  unfolding factor selector args elem expr simple term variable
  variable_kept = nodes_kept kind.variable
