-- Every expression keeps the invariant, and gives values in which sets rise, where every call of a routine that a name means does.
use Rattle.std.proofs.Common.{ℕ, List, [], ◌∷◌, map, ℤ, Option, Some, None, arith}
use Rattle.std.specs.Prelude.{slice_get}
use Rattle.pascal_values.specs.declared.value.Value.{Value}
use Rattle.pascal_values.specs.declared.value.Value.TheVariants as pascal
use Rattle.estelle_tree.specs.declared.span.Span.{Span}
use Rattle.estelle_tree.specs.declared.tree.name.Name.{Name}
use Rattle.estelle_tree.specs.declared.tree.type_expr.Sign.{Sign}
use Rattle.estelle_tree.specs.declared.tree.type_expr.Sign.TheVariants as sign
use Rattle.estelle_tree.specs.declared.tree.expression.Relation.{Relation}
use Rattle.estelle_tree.specs.declared.tree.expression.Adding.{Adding}
use Rattle.estelle_tree.specs.declared.tree.expression.Multiplying.{Multiplying}
use Rattle.estelle_tree.specs.declared.tree.expression.Args.{Args}
use Rattle.estelle_tree.specs.declared.tree.expression.Expr.{Expr}
use Rattle.estelle_tree.specs.declared.tree.expression.Variable.{Variable}
use Rattle.estelle_tree.specs.declared.tree.expression.Factor.TheOpen.{Factor-F, Selector-F}
use Rattle.estelle_tree.proofs.Folds.{Related, Pairs, KeepsAt, folds_related}
use Rattle.estelle_tree.proofs.ExpressionFolds as kind
use Rattle.estelle_tree.proofs.ExpressionFolds.{Kind, Layer, expressions}
use Rattle.estelle_model.specs.Types.{ordinal_of, item_place}
use Rattle.estelle_tree.specs.declared.required.Required.{Required}
use Rattle.estelle_model.specs.Operators.{negation, signed, related, required_value}
use Rattle.estelle_tree.specs.Paths.{Path}
use Rattle.estelle_model.specs.States.{Offers}
use Rattle.estelle_model.specs.Stops.{Broken}
use Rattle.estelle_model.specs.Steps.{Step, Running, ◌>>=◌, pure, checked, breaks}
use Rattle.estelle_model.specs.declared.meaning.Routine.{Routine}
use Rattle.estelle_model.specs.declared.meaning.Meaning.{Meaning}
use Rattle.estelle_model.specs.declared.meaning.Meaning.TheVariants.{Constant, Own, Exported, Local, Var, Field, Called, RequiredFunction, Module}
use Rattle.estelle_model.specs.Meant.{Meanings}
use Rattle.estelle_model.specs.declared.place.Place.{Place}
use Rattle.estelle_model.specs.declared.place.Place.TheVariants.{Of, In}
use Rattle.estelle_model.specs.Places.{deeper, set_value, load, child_step}
use Rattle.estelle_model.specs.declared.place.Environment.{Environment}
use Rattle.estelle_model.specs.declared.place.ActualParameters.{ActualParameters}
use Rattle.estelle_model.specs.Expressions.{Call, Operand, Access, Selecting, Written, ordinal_step, multiplied, multiplied_host, added, added_host, computed, give_all, no_arguments, reference_at, index_step, indexed, fielded, selected, exported, behind_dot, behind_module, accessed, of_access, called, valued, required_of, designated, term_of, with_sign, simple_of, factor, selector, args, elem, expr, simple, term, variable}
use Rattle.estelle_model.proofs.Units.{Each, IfThere}
use Rattle.estelle_model.proofs.Kept.{each_has, each_marked_has}
use Rattle.trace_forms.proofs.Sound.{Any, IsClosed, Gives, OperandSound, AccessSound, SelectingSound, CallSound, GivenRise, then_sound, then_any, pure_sound, pure_any, stop_sound, checked_any, checked_sound, of_value_any, of_value_sound, both_sound, multiplied_sound, added_sound, give_all_sound, member_sound, set_sound, load_sound, child_sound}
use Rattle.trace_forms.proofs.Values.{Rises, int_rises, char_rises, set_value_yields, signed_yields, negation_yields, related_yields, required_yields}
use Rattle.estelle_model.proofs.ExpressionEquations.{Results, layers}

-- what a name means is a constant in which sets rise, or a routine that is told, or anything else
abbrev pub MeaningTold : (Routine → Type 0) → Meaning → Type 0
MeaningTold Told (Constant v h) = Rises v
MeaningTold Told (Called r) = Told r
MeaningTold Told _ = Unit {0}

module _ (S : Type 0) (on : Offers S) (I : Running S → Type 0) (closed : IsClosed S on I) (meant : Meanings) (Told : Routine → Type 0) (told : (x : Name) → MeaningTold Told (meant x)) (call : Call S) (calls : CallSound S I Told call) (here : Environment) where
  abbrev ON : Operand S → Type 0
  ON = OperandSound S I

  abbrev pub WrittenSound : Written S → Type 0
  WrittenSound w = Each (SelectingSound S I) w.selectors

  place_sound : (p : Place) → Gives S I Any (pure p)
  place_sound p = pure_any S I Place p

  index_sound : (a : Access S) (e : Operand S) → AccessSound S I a → ON e → Gives S I Any (index_step S on meant call here a e)
  index_sound a e h k = then_any S I Place Place Any a.place (λ p. ordinal_step e.value >>= λ n. checked (item_place a.denoter n) >>= λ j. pure (deeper p j)) h
      (λ p. then_any S I ℤ Place Any (ordinal_step e.value) (λ n. checked (item_place a.denoter n) >>= λ j. pure (deeper p j)) (of_value_any S I ℤ ordinal_of e.value k.value)
      (λ n. then_any S I ℕ Place Any (checked (item_place a.denoter n)) (λ j. pure (deeper p j)) (checked_any S I ℕ (item_place a.denoter n)) (λ j. place_sound (deeper p j))))

  indexed_sound : (es : List (Operand S)) (a : Access S) → Each ON es → AccessSound S I a → AccessSound S I (indexed S on meant call here es a)
  indexed_sound [] a h k = k
  indexed_sound (e ∷ es) a h k = indexed_sound es _ h.1 (index_sound a e k h.0)

  fielded_sound : (x : Meaning) (a : Access S) → AccessSound S I a → AccessSound S I (fielded S on meant call here x a)
  fielded_sound (Field k) a h = then_any S I Place Place Any a.place (λ p. pure (deeper p k)) h (λ p. place_sound (deeper p k))
  fielded_sound _ a h = then_any S I Place Place Any a.place (λ p. breaks) h (λ p. stop_sound S I Place Any Broken)

  selected_sound : (xs : List (Selecting S)) (a : Access S) → Each (SelectingSound S I) xs → AccessSound S I a → AccessSound S I (selected S on meant call here xs a)
  selected_sound [] a h k = k
  selected_sound (x ∷ xs) a h k = selected_sound xs (x.over a) h.1 (h.0 a k)

  exported_sound : (k : ℕ) (x : Meaning) (xs : List (Selecting S)) → Each (SelectingSound S I) xs → IfThere (AccessSound S I) (exported S on meant call here k x xs)
  exported_sound k (Exported n d) xs h = selected_sound xs (record { denoter = d; place = child_step S on here.path k >>= λ p. pure (Of p n []) }) h
      (then_any S I Path Place Any (child_step S on here.path k) (λ p. pure (Of p n [])) (child_sound S I on closed here.path k) (λ p. place_sound (Of p n [])))
  exported_sound k _ xs h = tt

  behind_dot_sound : (k : ℕ) (o : Option Name) (xs : List (Selecting S)) → Each (SelectingSound S I) xs → IfThere (AccessSound S I) (behind_dot S on meant call here k o xs)
  behind_dot_sound k None xs h = tt
  behind_dot_sound k (Some x) xs h = exported_sound k (meant x) xs h

  behind_module_sound : (k : ℕ) (xs : List (Selecting S)) → Each (SelectingSound S I) xs → IfThere (AccessSound S I) (behind_module S on meant call here k xs)
  behind_module_sound k [] h = tt
  behind_module_sound k (x ∷ xs) h = behind_dot_sound k x.name xs h.1

  pub accessed_sound : (x : Meaning) (xs : List (Selecting S)) → Each (SelectingSound S I) xs → IfThere (AccessSound S I) (accessed S on meant call here x xs)
  accessed_sound (Own k d) xs h = selected_sound xs (record { denoter = d; place = pure (Of here.path k []) }) h (place_sound (Of here.path k []))
  accessed_sound (Local k d) xs h = selected_sound xs (record { denoter = d; place = pure (In here.frame k []) }) h (place_sound (In here.frame k []))
  accessed_sound (Var k d) xs h = selected_sound xs (record { denoter = d; place = checked (reference_at (slice_get here.references k)) }) h (checked_any S I Place (reference_at (slice_get here.references k)))
  accessed_sound (Exported k d) xs h = selected_sound xs (record { denoter = d; place = pure (Of here.path k []) }) h (place_sound (Of here.path k []))
  accessed_sound (Module k) xs h = behind_module_sound k xs h
  accessed_sound _ xs h = tt

  of_access_sound : (o : Option (Access S)) → IfThere (AccessSound S I) o → ON (of_access S on meant call here o)
  of_access_sound None h = record { value = stop_sound S I Value Rises Broken; place = tt }
  of_access_sound (Some a) h = record { value = then_any S I Place Value Rises a.place (λ p. load S on p) h (λ p. load_sound S I on closed p); place = h }

  called_sound : (r : Routine) → Told r → (es : List (Operand S)) → Each ON es → Gives S I Rises (called S on meant call here r es)
  unfolding called
  called_sound r good es h = then_sound S I ActualParameters Value GivenRise Rises (give_all r.parameters es no_arguments) (λ g. call r g >>= λ v. checked (set_value (Some v))) (give_all_sound S I r.parameters es no_arguments tt h)
      (λ g y. then_sound S I Value Value Rises Rises (call r g) (λ v. checked (set_value (Some v))) (calls r g good y) (λ v z. checked_sound S I (set_value (Some v)) (set_value_yields v z)))

  pub valued_sound : (x : Meaning) → MeaningTold Told x → (xs : List (Selecting S)) → Each (SelectingSound S I) xs → ON (valued S on meant call here x xs)
  valued_sound (Constant v h) m xs k = record { value = pure_sound S I Value Rises v m; place = tt }
  valued_sound (Called r) m xs k = record { value = called_sound r m [] tt; place = tt }
  valued_sound (Own n d) m xs k = of_access_sound (accessed S on meant call here (Own n d) xs) (accessed_sound (Own n d) xs k)
  valued_sound (Exported n d) m xs k = of_access_sound (accessed S on meant call here (Exported n d) xs) (accessed_sound (Exported n d) xs k)
  valued_sound (Local n d) m xs k = of_access_sound (accessed S on meant call here (Local n d) xs) (accessed_sound (Local n d) xs k)
  valued_sound (Var n d) m xs k = of_access_sound (accessed S on meant call here (Var n d) xs) (accessed_sound (Var n d) xs k)
  valued_sound (Module n) m xs k = of_access_sound (accessed S on meant call here (Module n) xs) (accessed_sound (Module n) xs k)
  valued_sound _ m xs k = of_access_sound None tt

  required_sound : (f : Required) (es : List (Operand S)) → Each ON es → ON (required_of S on meant call here f es)
  required_sound f [] h = record { value = stop_sound S I Value Rises Broken; place = tt }
  required_sound f (a ∷ []) h = record { value = of_value_sound S I (λ v. required_value f a.host v) (λ v. required_yields f a.host v) a.value h.0.value; place = tt }
  required_sound f (a ∷ (b ∷ more)) h = record { value = stop_sound S I Value Rises Broken; place = tt }

  designated_sound : (x : Meaning) → MeaningTold Told x → (es : List (Operand S)) → Each ON es → ON (designated S on meant call here x es)
  designated_sound (Called r) m es h = record { value = called_sound r m es h; place = tt }
  designated_sound (RequiredFunction f) m es h = required_sound f es h
  designated_sound _ m es h = record { value = stop_sound S I Value Rises Broken; place = tt }

  term_of_sound : (e : Operand S) (xs : List (Multiplying × Operand S)) → ON e → Each (λ (x : Multiplying × Operand S). ON x.1) xs → ON (term_of S on meant call here e xs)
  term_of_sound e [] h k = h
  term_of_sound e (x ∷ xs) h k = term_of_sound (computed (multiplied_host x.0) (multiplied x.0 e.value x.1.value)) xs (record { value = multiplied_sound S I x.0 e.value x.1.value h.value k.0.value; place = tt }) k.1

  simple_of_sound : (e : Operand S) (xs : List (Adding × Operand S)) → ON e → Each (λ (x : Adding × Operand S). ON x.1) xs → ON (simple_of S on meant call here e xs)
  simple_of_sound e [] h k = h
  simple_of_sound e (x ∷ xs) h k = simple_of_sound (computed (added_host x.0) (added x.0 e.value x.1.value)) xs (record { value = added_sound S I x.0 e.value x.1.value h.value k.0.value; place = tt }) k.1

  with_sign_sound : (sign : Option Sign) (e : Operand S) → ON e → ON (with_sign S on meant call here sign e)
  with_sign_sound None e h = h
  with_sign_sound (Some sign.Plus) e h = record { value = h.value; place = tt }
  with_sign_sound (Some sign.Minus) e h = record { value = of_value_sound S I (signed sign.Minus) (signed_yields sign.Minus) e.value h.value; place = tt }

  -- ---- trees

  abbrev NodeSound : (k : Kind) → Results S k → Results S k → Type 0
  NodeSound kind.selector x y = SelectingSound S I x
  NodeSound kind.args x y = Each ON x
  NodeSound kind.elem x y = Gives S I {A = List ℕ} Any x
  NodeSound kind.variable x y = WrittenSound x
  NodeSound kind.factor x y = ON x
  NodeSound kind.expr x y = ON x
  NodeSound kind.simple x y = ON x
  NodeSound kind.term x y = ON x

  abbrev Keeps : (k : Kind) → Layer k (Pairs expressions (Results S) (Results S) (layers S on meant call here) (layers S on meant call here) NodeSound) → Type 0
  Keeps = KeepsAt expressions (Results S) (Results S) (layers S on meant call here) (layers S on meant call here) NodeSound

  at_elem : (first : Related (Operand S) (Operand S) (λ x y. ON x)) (last : Option (Related (Operand S) (Operand S) (λ x y. ON x))) (span : Span) → Keeps kind.elem (record { first = first; last = last; span = span })
  at_elem first None span = member_sound S I first.left None first.holds tt
  at_elem first (Some e) span = member_sound S I first.left (Some e.left) first.holds e.holds

  at_expr : (left : Related (Operand S) (Operand S) (λ x y. ON x)) (right : Option (Relation × Related (Operand S) (Operand S) (λ x y. ON x))) (span : Span) → Keeps kind.expr (record { left = left; right = right; span = span })
  at_expr left None span = left.holds
  at_expr left (Some x) span = record { value = both_sound S I (related x.0) (related_yields x.0) left.left.value x.1.left.value left.holds.value x.1.holds.value; place = tt }

  keeps : (k : Kind) (l : Layer k (Pairs expressions (Results S) (Results S) (layers S on meant call here) (layers S on meant call here) NodeSound)) → Keeps k l
  keeps kind.factor (Factor-F.Number n span) = record { value = pure_sound S I Value Rises (pascal.Int n) (int_rises n); place = tt }
  keeps kind.factor (Factor-F.Char n span) = record { value = pure_sound S I Value Rises (pascal.Char n) (char_rises n); place = tt }
  keeps kind.factor (Factor-F.Variable v) = valued_sound (meant v.left.name) (told v.left.name) v.left.selectors v.holds
  keeps kind.factor (Factor-F.Call x es span) = designated_sound (meant x) (told x) es.left es.holds
  keeps kind.factor (Factor-F.Paren e span) = record { value = e.holds.value; place = tt }
  keeps kind.factor (Factor-F.Not e span) = record { value = of_value_sound S I negation negation_yields e.left.value e.holds.value; place = tt }
  keeps kind.factor (Factor-F.Set elems span) = record { value = set_sound S I [] (omega arith) (map (λ (e : Related (Step S (List ℕ)) (Step S (List ℕ)) (λ x y. Gives S I {A = List ℕ} Any x)). e.left) elems) (each_has (Gives S I {A = List ℕ} Any) elems); place = tt }
  keeps kind.selector (Selector-F.Index es) = λ a h. indexed_sound (map (λ (e : Related (Operand S) (Operand S) (λ x y. ON x)). e.left) es) a (each_has ON es) h
  keeps kind.selector (Selector-F.Field x) = λ a h. fielded_sound (meant x) a h
  keeps kind.args l = each_has ON l.exprs
  keeps kind.elem l = at_elem l.first l.last l.span
  keeps kind.expr l = at_expr l.left l.right l.span
  keeps kind.simple l = simple_of_sound (with_sign S on meant call here l.sign l.first.left) _ (with_sign_sound l.sign l.first.left l.first.holds) (each_marked_has ON l.others)
  keeps kind.term l = term_of_sound l.first.left _ l.first.holds (each_marked_has ON l.others)
  keeps kind.variable l = each_has (SelectingSound S I) l.selectors

  nodes_sound : (k : Kind) (x : kind.Tree k) → NodeSound k (kind.folded (Results S) (layers S on meant call here) k x) (kind.folded (Results S) (layers S on meant call here) k x)
  nodes_sound = folds_related expressions (Results S) (Results S) (layers S on meant call here) (layers S on meant call here) NodeSound keeps

  pub args_sound : (x : Args) → Each (OperandSound S I) (args S on meant call here x)
  unfolding factor selector args elem expr simple term variable
  args_sound = nodes_sound kind.args

  pub expr_sound : (x : Expr) → OperandSound S I (expr S on meant call here x)
  unfolding factor selector args elem expr simple term variable
  expr_sound = nodes_sound kind.expr

  pub variable_sound : (x : Variable) → WrittenSound (variable S on meant call here x)
  unfolding factor selector args elem expr simple term variable
  variable_sound = nodes_sound kind.variable
