-- What an expression is compiled to does what the expression means.
use Rattle.std.proofs.Common.{◌≡◌, ◌∙◌, refl, ap, subst, ℕ, Bool, true, false, cond, List, [], ◌∷◌, ◌++◌, ℤ, Result, Ok, Err, Option, Some, None}
use Rattle.std.specs.Prelude.{slice_get}
use Rattle.pascal_values.specs.declared.value.Value.{Value}
use Rattle.pascal_values.specs.declared.value.Value.TheVariants as pascal
use Rattle.pascal_values.specs.declared.value.Value.TheVariants.{outs-Int, outs-Set}
use Rattle.pascal_values.specs.declared.value.Value.TheOpen.{Value-F}
use Rattle.pascal_values.specs.Integers.{sum_of}
use Rattle.pascal_values.specs.Sets.{union}
use Rattle.pascal_values.specs.Shapes.{place_of}
use Rattle.estelle_tree.specs.declared.span.Span.{Span}
use Rattle.estelle_tree.specs.declared.tree.name.Name.{Name}
use Rattle.estelle_tree.specs.declared.tree.type_expr.Sign.{Sign}
use Rattle.estelle_tree.specs.declared.tree.type_expr.Sign.TheVariants as sign
use Rattle.estelle_tree.specs.declared.tree.expression.Relation.{Relation}
use Rattle.estelle_tree.specs.declared.tree.expression.Relation.TheVariants as relation
use Rattle.estelle_tree.specs.declared.tree.expression.Adding.{Adding}
use Rattle.estelle_tree.specs.declared.tree.expression.Adding.TheVariants as adding
use Rattle.estelle_tree.specs.declared.tree.expression.Multiplying.{Multiplying}
use Rattle.estelle_tree.specs.declared.tree.expression.Multiplying.TheVariants as multiplying
use Rattle.estelle_tree.specs.declared.tree.expression.Expr.{Expr}
use Rattle.estelle_tree.specs.declared.tree.expression.Args.{Args}
use Rattle.estelle_tree.specs.declared.tree.expression.Variable.{Variable}
use Rattle.estelle_tree.specs.declared.tree.expression.Factor.TheOpen.{Factor-F, Selector-F}
use Rattle.estelle_tree.proofs.Folds.{Related, Pairs, KeepsAt, folds_related}
use Rattle.estelle_tree.proofs.ExpressionFolds as kind
use Rattle.estelle_tree.proofs.ExpressionFolds.{Kind, Layer, expressions}
use Rattle.body_code.specs.declared.instr.Instr.{Instr}
use Rattle.body_code.specs.declared.instr.Instr.TheVariants as op
use Rattle.estelle_tree.specs.declared.required.Required.{Required}
use Rattle.estelle_tree.specs.declared.required.Required.TheVariants as required
use Rattle.estelle_model.specs.declared.denoter.Host.{Host}
use Rattle.estelle_model.specs.declared.denoter.Host.TheVariants as hosts
use Rattle.estelle_model.specs.declared.denoter.Denoter.{Denoter, out-Denoter}
use Rattle.estelle_model.specs.declared.denoter.Denoter.TheOpen.{Denoter-F}
use Rattle.estelle_model.specs.Types.{ordinal_at, ordinal_of, shape_of, host_of, whole, assignable, item_of, field_of, place_at, item_place}
use Rattle.estelle_model.specs.Operators.{◌>>>◌, int_at, set_at, by_kind, one_member, members_from, plus, minus, times, divided, modulo, signed, negation, related, succeeding, preceding, in_host, required_value, required_host, bool_of}
use Rattle.estelle_model.specs.Stops.{Stop, stopping}
use Rattle.estelle_model.specs.States.{Logged, on_log}
use Rattle.estelle_tree.specs.Paths.{Path}
use Rattle.estelle_model.specs.Steps.{Running, StepResult, Step, and_then, ◌>>=◌, pure, breaks, checked, checked_at}
use Rattle.estelle_model.specs.declared.meaning.Meaning.{Meaning}
use Rattle.estelle_model.specs.declared.meaning.Meaning.TheVariants.{Constant, Own, Exported, Local, Var, Field, Called, RequiredFunction, Module}
use Rattle.estelle_model.specs.declared.place.Place.{Place}
use Rattle.estelle_model.specs.declared.place.Place.TheVariants.{Of, In}
use Rattle.estelle_model.specs.Places.{deeper, load, child_at, child_step}
use Rattle.estelle_model.specs.Expressions as model
use Rattle.estelle_model.specs.Expressions.{Call, bool_step, ordinal_step, both, conjunction, disjunction, multiplied, added, reference_at, index_step, member_step, set_step}
use Rattle.estelle_model.proofs.Alike.{EachAlike, MaybeAlike, each_related, each_marked}
use Rattle.estelle_model.proofs.ExpressionEquations as meant
use Rattle.body_machine.specs.declared.item.Item.{Item}
use Rattle.body_machine.specs.declared.item.Item.TheVariants.{Datum, Spot}
use Rattle.body_machine.specs.Operations.{a_set}
use Rattle.body_machine.specs.Machine.{Activation}
use Rattle.body_machine.specs.Rows.{OfValue, row, gives, leaves, by_export}
use Rattle.body_machine.specs.Steps.{goes_on}
use Rattle.body_compiler_pieces.specs.Pieces.{Piece, refused, one, ◌⨾◌, fork}
use Rattle.body_compiler_pieces.specs.ExpressionCode as code
use Rattle.body_compiler_pieces.specs.ExpressionCode.{Scope, by_number}
use Rattle.body_compiler_laws.proofs.Frames.{IsNamed}
use Rattle.body_compiler_laws.proofs.Does.{Site, machine, full, Does, then_does, under_does, as_does, none_does}
use Rattle.body_compiler_laws.proofs.Single.{datum, spot, int_item, ord_does, result, leaves_does, value_does, unary_does, push_does, of_does, above_does, both_does, load_does}
use Rattle.body_compiler_laws.proofs.Control.{fork_does}
use Rattle.body_compiler_laws.proofs.CodeFolds.{Results, layers}
use Rattle.body_compiler_laws.proofs.Operands.{OperandDoes, AccessDoes, SelectingDoes, WrittenDoes, refused_does, computed_does, by_number_does, IsScope, local_does, same_then, bind_regrouped}
use Rattle.body_compiler_laws.proofs.Arguments.{CallsDo, fit_does, called_does}

module _ (c : Site) (scope : Scope) (within : IsScope c scope) (call : Call Logged) (calls : CallsDo c scope call) where
  -- ---- places

  pub own_does : (k : ℕ) → Does c (one (op.Var k)) [] (pure (Of c.here.path k [])) spot
  unfolding row
  own_does k = leaves_does c (op.Var k) [] (Spot (Of c.here.path k [])) (Of c.here.path k []) spot refl (tt, tt) (λ at turned old r below. refl)

  reference_does : (k : ℕ) → Does c (by_number (scope.reference k) (λ i. one (op.Ref i))) [] (checked (reference_at (slice_get c.here.references k))) spot
  unfolding row
  reference_does k = by_number_does c (scope.reference k) (λ i. one (op.Ref i)) [] (checked (reference_at (slice_get c.here.references k))) spot
      (λ i is. value_does c (op.Ref i) [] (λ r. reference_at (slice_get c.here.references k)) spot (λ r p found. (within.named k p (there (slice_get c.here.references k) p found), tt))
      (λ at turned old r below same. ap (λ j. goes_on (and_then (checked_at (reference_at (slice_get c.here.references j)) (full c old r)) (λ p. pure (spot p))) below (machine c at below turned (full c old r))) (within.reference k i is)))
    where
      there : (o : Option Place) (p : Place) → reference_at o ≡ Ok p → o ≡ Some p
      there None p e = absurd (cc)
      there (Some q) p e = cc

  exported_place : (m k : ℕ) → Does c (by_number (scope.export m k) (λ i. one (op.Exp m i))) [] (child_step Logged on_log c.here.path m >>= λ p. pure (Of p k [])) spot
  unfolding row child_step
  exported_place m k = by_number_does c (scope.export m k) (λ i. one (op.Exp m i)) [] (child_step Logged on_log c.here.path m >>= λ p. pure (Of p k [])) spot
      (λ i is. as_does c (one (op.Exp m i)) [] (λ r. checked_at (of_child r) r) (child_step Logged on_log c.here.path m >>= λ p. pure (Of p k [])) spot (λ r. by r (child_at c.here.path m r.state.image))
      (value_does c (op.Exp m i) [] of_child spot (λ r p found. (named (child_at c.here.path m r.state.image) p found, tt))
      (λ at turned old r below same. ap (λ j. goes_on (and_then (checked_at (child_at c.here.path m r.state.image) (full c old r)) (by_export j)) below (machine c at below turned (full c old r))) (within.export m k i is) ∙ ap (λ o. goes_on o below (machine c at below turned (full c old r))) (one_by_one old r (child_at c.here.path m r.state.image)))))
    where
      placed : Result Path Stop → Result Place Stop
      placed o = o >>> λ p. Ok (Of p k [])

      of_child : Running Logged → Result Place Stop
      of_child r = placed (child_at c.here.path m r.state.image)

      by : (r : Running Logged) (o : Result Path Stop) → checked_at (placed o) r ≡ and_then (checked_at o r) (λ p. pure (Of p k []))
      by r (Ok p) = refl
      by r (Err e) = refl

      named : (o : Result Path Stop) (p : Place) → placed o ≡ Ok p → IsNamed c.counts p
      named (Ok q) p e = subst (IsNamed c.counts) (let is : Of q k [] ≡ p = cc in is) tt
      named (Err f) p e = absurd (cc)

      one_by_one : (old : List Value) (r : Running Logged) (o : Result Path Stop) → and_then (checked_at o (full c old r)) (λ p. leaves (Spot (Of p k []))) ≡ and_then (checked_at (placed o) (full c old r)) (λ p. pure (spot p))
      one_by_one old r (Ok p) = refl
      one_by_one old r (Err e) = refl

  named_deeper : (k : ℕ) (p : Place) → IsNamed c.counts p → IsNamed c.counts (deeper p k)
  named_deeper k (Of q x way) h = h
  named_deeper k (In f x way) h = h

  field_does : (k : ℕ) (p : Place) → IsNamed c.counts p → Does c (one (op.Field k)) (spot p) (pure (deeper p k)) spot
  unfolding row
  field_does k p named = leaves_does c (op.Field k) (spot p) (Spot (deeper p k)) (deeper p k) spot refl (named_deeper k p named, tt) (λ at turned old r below. refl)

  index_instr : (low high i : ℤ) (p : Place) → IsNamed c.counts p → Does c (one (op.Index low high)) (Datum (pascal.Int i) ∷ spot p) (checked (stopping (place_of low high i)) >>= λ k. pure (deeper p k)) spot
  unfolding row
  index_instr low high i p named = as_does c (one (op.Index low high)) (Datum (pascal.Int i) ∷ spot p) (λ r. checked_at placed r) (checked (stopping (place_of low high i)) >>= λ k. pure (deeper p k)) spot (λ r. by r (stopping (place_of low high i)))
      (value_does c (op.Index low high) (Datum (pascal.Int i) ∷ spot p) (λ r. placed) spot (λ r q is. (inside (stopping (place_of low high i)) q is, tt))
      (λ at turned old r below same. ap (λ (o : Value-F Value). goes_on (and_then (checked_at (int_at o) (full c old r)) (λ j. checked (stopping (place_of low high j)) >>= λ k. leaves (Spot (deeper p k)))) below (machine c at (Datum (pascal.Int i) ∷ (Spot p ∷ below)) turned (full c old r))) (outs-Int i)
      ∙ ap (λ o. goes_on o below (machine c at (Datum (pascal.Int i) ∷ (Spot p ∷ below)) turned (full c old r))) (one_by_one old r (stopping (place_of low high i)))))
    where
      made : Result ℕ Stop → Result Place Stop
      made o = o >>> λ k. Ok (deeper p k)

      placed : Result Place Stop
      placed = made (stopping (place_of low high i))

      by : (r : Running Logged) (o : Result ℕ Stop) → checked_at (made o) r ≡ and_then (checked_at o r) (λ k. pure (deeper p k))
      by r (Ok k) = refl
      by r (Err e) = refl

      inside : (o : Result ℕ Stop) (q : Place) → made o ≡ Ok q → IsNamed c.counts q
      inside (Ok k) q e = subst (IsNamed c.counts) (let is : deeper p k ≡ q = cc in is) (named_deeper k p named)
      inside (Err f) q e = absurd (cc)

      one_by_one : (old : List Value) (r : Running Logged) (o : Result ℕ Stop) → and_then (checked_at o (full c old r)) (λ k. leaves (Spot (deeper p k))) ≡ and_then (checked_at (made o) (full c old r)) (λ q. pure (spot q))
      one_by_one old r (Ok k) = refl
      one_by_one old r (Err e) = refl

  item_does : (o : Denoter-F Denoter) (i : ℤ) (p : Place) → IsNamed c.counts p → Does c (code.item_code o) (Datum (pascal.Int i) ∷ spot p) (checked (place_at o i) >>= λ k. pure (deeper p k)) spot
  item_does (Denoter-F.Array low high item) i p named = index_instr low high i p named
  item_does _ i p named = refused_does c (Datum (pascal.Int i) ∷ spot p) breaks spot

  index_does : (a : model.Access Logged) (b : code.Access) (e : model.Operand Logged) (f : code.Operand) → AccessDoes c a b → OperandDoes c e f
      → AccessDoes c (record { denoter = item_of a.denoter; place = index_step Logged on_log scope.meant call c.here a e }) (record { denoter = item_of b.denoter; place = b.place ⨾ (f.value ⨾ one op.Ord) ⨾ code.item_code (out-Denoter b.denoter) })
  index_does a b e f h k = record {
    denoter = ap item_of h.denoter;
    place = subst (λ (d : Denoter). Does c (b.place ⨾ (f.value ⨾ one op.Ord) ⨾ code.item_code (out-Denoter d)) [] (index_step Logged on_log scope.meant call c.here a e) spot) h.denoter
        (then_does c b.place ((f.value ⨾ one op.Ord) ⨾ code.item_code (out-Denoter a.denoter)) [] a.place (λ p. ordinal_step e.value >>= λ i. checked (item_place a.denoter i) >>= λ j. pure (deeper p j)) spot spot h.place
        (λ p named. then_does c (f.value ⨾ one op.Ord) (code.item_code (out-Denoter a.denoter)) (spot p) (ordinal_step e.value) (λ i. checked (item_place a.denoter i) >>= λ j. pure (deeper p j)) (λ i. Datum (pascal.Int i) ∷ spot p) spot
        (under_does c (f.value ⨾ one op.Ord) [] (spot p) (ordinal_step e.value) int_item named (then_does c f.value (one op.Ord) [] e.value (λ v. checked (ordinal_of v)) datum int_item k.value (λ v none. ord_does c v)))
        (λ i inside. item_does (out-Denoter a.denoter) i p named.0)));
  }

  indexed_does : (es : List (model.Operand Logged)) (fs : List code.Operand) (a : model.Access Logged) (b : code.Access) → EachAlike (OperandDoes c) es fs → AccessDoes c a b → AccessDoes c (model.indexed Logged on_log scope.meant call c.here es a) (code.indexed scope fs b)
  indexed_does [] [] a b h k = k
  indexed_does [] (f ∷ fs) a b h k = absurd h
  indexed_does (e ∷ es) [] a b h k = absurd h
  indexed_does (e ∷ es) (f ∷ fs) a b h k = indexed_does es fs _ _ h.1 (index_does a b e f k h.0)

  fielded_does : (x : Meaning) (a : model.Access Logged) (b : code.Access) → AccessDoes c a b → AccessDoes c (model.fielded Logged on_log scope.meant call c.here x a) (code.fielded scope x b)
  fielded_does (Field k) a b h = record { denoter = ap (λ (d : Denoter). field_of d k) h.denoter; place = then_does c b.place (one (op.Field k)) [] a.place (λ p. pure (deeper p k)) spot spot h.place (λ p named. field_does k p named.0) }
  fielded_does _ a b h = record { denoter = h.denoter; place = refused_does c [] (a.place >>= λ p. breaks) spot }

  selected_does : (xs : List (model.Selecting Logged)) (ys : List code.Selecting) (a : model.Access Logged) (b : code.Access) → EachAlike (SelectingDoes c) xs ys → AccessDoes c a b → AccessDoes c (model.selected Logged on_log scope.meant call c.here xs a) (code.selected scope ys b)
  selected_does [] [] a b h k = k
  selected_does [] (y ∷ ys) a b h k = absurd h
  selected_does (x ∷ xs) [] a b h k = absurd h
  selected_does (x ∷ xs) (y ∷ ys) a b h k = selected_does xs ys _ _ h.1 (h.0.over a b k)

  exported_does : (m : ℕ) (x : Meaning) (xs : List (model.Selecting Logged)) (ys : List code.Selecting) → EachAlike (SelectingDoes c) xs ys → MaybeAlike (AccessDoes c) (model.exported Logged on_log scope.meant call c.here m x xs) (code.exported scope m x ys)
  exported_does m (Exported k d) xs ys h = selected_does xs ys _ _ h (record { denoter = refl; place = exported_place m k })
  exported_does m _ xs ys h = tt

  behind_dot_does : (m : ℕ) (o : Option Name) (xs : List (model.Selecting Logged)) (ys : List code.Selecting) → EachAlike (SelectingDoes c) xs ys → MaybeAlike (AccessDoes c) (model.behind_dot Logged on_log scope.meant call c.here m o xs) (code.behind_dot scope m o ys)
  behind_dot_does m None xs ys h = tt
  behind_dot_does m (Some x) xs ys h = exported_does m (scope.meant x) xs ys h

  behind_module_does : (m : ℕ) (xs : List (model.Selecting Logged)) (ys : List code.Selecting) → EachAlike (SelectingDoes c) xs ys → MaybeAlike (AccessDoes c) (model.behind_module Logged on_log scope.meant call c.here m xs) (code.behind_module scope m ys)
  behind_module_does m [] [] h = tt
  behind_module_does m [] (y ∷ ys) h = absurd h
  behind_module_does m (x ∷ xs) [] h = absurd h
  behind_module_does m (x ∷ xs) (y ∷ ys) h = subst (λ (o : Option Name). MaybeAlike (AccessDoes c) (model.behind_dot Logged on_log scope.meant call c.here m x.name xs) (code.behind_dot scope m o ys)) h.0.name (behind_dot_does m x.name xs ys h.1)

  pub accessed_does : (x : Meaning) (xs : List (model.Selecting Logged)) (ys : List code.Selecting) → EachAlike (SelectingDoes c) xs ys → MaybeAlike (AccessDoes c) (model.accessed Logged on_log scope.meant call c.here x xs) (code.accessed scope x ys)
  accessed_does (Own k d) xs ys h = selected_does xs ys _ _ h (record { denoter = refl; place = own_does k })
  accessed_does (Exported k d) xs ys h = selected_does xs ys _ _ h (record { denoter = refl; place = own_does k })
  accessed_does (Local k d) xs ys h = selected_does xs ys _ _ h (record { denoter = refl; place = local_does c scope within k })
  accessed_does (Var k d) xs ys h = selected_does xs ys _ _ h (record { denoter = refl; place = reference_does k })
  accessed_does (Module m) xs ys h = behind_module_does m xs ys h
  accessed_does _ xs ys h = tt

  -- ---- names and operators

  of_access_does : (o : Option (model.Access Logged)) (o' : Option code.Access) → MaybeAlike (AccessDoes c) o o' → OperandDoes c (model.of_access Logged on_log scope.meant call c.here o) (code.of_access scope o')
  of_access_does None None h = computed_does c _ _ refused (refused_does c [] breaks datum)
  of_access_does None (Some b) h = absurd h
  of_access_does (Some a) None h = absurd h
  of_access_does (Some a) (Some b) h = record { value = then_does c b.place (one op.Load) [] a.place (λ p. load Logged on_log p) spot datum h.place (λ p named. load_does c p named.0); host = ap host_of h.denoter; place = h.place }

  abbrev variable_does : (x : Meaning) (xs : List (model.Selecting Logged)) (ys : List code.Selecting) → EachAlike (SelectingDoes c) xs ys → OperandDoes c (model.of_access Logged on_log scope.meant call c.here (model.accessed Logged on_log scope.meant call c.here x xs)) (code.of_access scope (code.accessed scope x ys))
  variable_does x xs ys h = of_access_does _ _ (accessed_does x xs ys h)

  -- what has no code
  unknown_does : (h : Host) (x : Step Logged Value) → OperandDoes c (model.computed h x) (code.computed h refused)
  unknown_does h x = computed_does c h x refused (refused_does c [] x datum)

  valued_does : (z : Name) (x : Meaning) → scope.meant z ≡ x → (xs : List (model.Selecting Logged)) (ys : List code.Selecting) → EachAlike (SelectingDoes c) xs ys → OperandDoes c (model.valued Logged on_log scope.meant call c.here x xs) (code.valued scope z x ys)
  valued_does z (Constant v h) is xs ys k = computed_does c h (pure v) (one (op.Push v)) (push_does c v)
  valued_does z (Called r) is xs ys k = called_does c scope within call calls z r is [] [] tt
  valued_does z (Own n d) is xs ys k = variable_does (Own n d) xs ys k
  valued_does z (Exported n d) is xs ys k = variable_does (Exported n d) xs ys k
  valued_does z (Local n d) is xs ys k = variable_does (Local n d) xs ys k
  valued_does z (Var n d) is xs ys k = variable_does (Var n d) xs ys k
  valued_does z (Module n) is xs ys k = variable_does (Module n) xs ys k
  valued_does z _ is xs ys k = of_access_does None None tt

  -- a value that is tested against its type
  host_does : (h : Host) (w : Value) → Does c (code.host_test scope h) (datum w) (checked (in_host h w)) datum
  host_does hosts.Integer w = none_does c (datum w) w datum refl tt
  host_does hosts.Boolean w = none_does c (datum w) w datum refl tt
  host_does hosts.Char w = none_does c (datum w) w datum refl tt
  host_does (hosts.Enumeration last) w = by_number_does c (scope.number (shape_of type)) (λ n. one (op.Fit n)) (datum w) (checked (in_host (hosts.Enumeration last) w)) datum
      (λ k is. as_does c (one (op.Fit k)) (datum w) (checked (stopping (assignable (shape_of type) w)) >>= λ ok. pure w) (checked (in_host (hosts.Enumeration last) w)) datum (λ r. by r (stopping (assignable (shape_of type) w)))
      (fit_does c scope within k type (within.number (shape_of type) k is) w))
    where
      type : Denoter
      type = whole (hosts.Enumeration last)

      by : (r : Running Logged) (o : Result (Unit {0}) Stop) → and_then (checked_at o r) (λ ok. pure w) ≡ checked_at (o >>> λ ok. Ok w) r
      by r (Ok done) = refl
      by r (Err e) = refl

  -- the value behind or before another one, as a value of its type
  stepped_does : (i : Instr) (f : Value → Result Value Stop) → ((a : Activation) → row c.subject c.numbers a i ≡ OfValue (λ v. gives (f v))) → (h : Host) (p : Piece) (x : Step Logged Value) → Does c p [] x datum
      → Does c (p ⨾ one i ⨾ code.host_test scope h) [] (x >>= λ v. checked (f v >>> in_host h)) datum
  stepped_does i f is h p x d = then_does c p (one i ⨾ code.host_test scope h) [] x (λ v. checked (f v >>> in_host h)) datum datum d
      (λ v named. as_does c (one i ⨾ code.host_test scope h) (datum v) (checked (f v) >>= λ w. checked (in_host h w)) (checked (f v >>> in_host h)) datum (λ r. by r (f v))
      (then_does c (one i) (code.host_test scope h) (datum v) (checked (f v)) (λ w. checked (in_host h w)) datum datum (unary_does c i f is v) (λ w none. host_does h w)))
    where
      by : (r : Running Logged) (o : Result Value Stop) → and_then (checked_at o r) (λ w. checked (in_host h w)) ≡ checked_at (o >>> in_host h) r
      by r (Ok w) = refl
      by r (Err e) = refl

  computed_by : (f : Required) (a : model.Operand Logged) (b : code.Operand) → OperandDoes c a b → Does c (b.value ⨾ code.required_code scope f a.host) [] (a.value >>= λ v. checked (required_value f a.host v)) datum
  unfolding row required_value
  computed_by required.Abs a b h = of_does c op.Abs (required_value required.Abs a.host) (λ x. refl) b.value a.value h.value
  computed_by required.Sqr a b h = of_does c op.Sqr (required_value required.Sqr a.host) (λ x. refl) b.value a.value h.value
  computed_by required.Odd a b h = of_does c op.Odd (required_value required.Odd a.host) (λ x. refl) b.value a.value h.value
  computed_by required.Ord a b h = of_does c op.Ord (required_value required.Ord a.host) (λ x. refl) b.value a.value h.value
  computed_by required.Chr a b h = of_does c op.Chr (required_value required.Chr a.host) (λ x. refl) b.value a.value h.value
  computed_by required.Succ a b h = stepped_does op.Succ succeeding (λ x. refl) a.host b.value a.value h.value
  computed_by required.Pred a b h = stepped_does op.Pred preceding (λ x. refl) a.host b.value a.value h.value

  designated_does : (z : Name) (x : Meaning) → scope.meant z ≡ x → (es : List (model.Operand Logged)) (fs : List code.Operand) → EachAlike (OperandDoes c) es fs → OperandDoes c (model.designated Logged on_log scope.meant call c.here x es) (code.designated scope z x fs)
  designated_does z (Called r) is es fs h = called_does c scope within call calls z r is es fs h
  designated_does z (RequiredFunction f) is es fs h = required_does f es fs h
    where
      required_does : (f : Required) (es : List (model.Operand Logged)) (fs : List code.Operand) → EachAlike (OperandDoes c) es fs → OperandDoes c (model.required_of Logged on_log scope.meant call c.here f es) (code.required_of scope f fs)
      required_does f [] [] h = unknown_does _ breaks
      required_does f [] (b ∷ bs) h = absurd h
      required_does f (a ∷ xs) [] h = absurd h
      required_does f (a ∷ []) (b ∷ []) h = record { value = subst (λ (g : Host). Does c (b.value ⨾ code.required_code scope f g) [] (a.value >>= λ v. checked (required_value f a.host v)) datum) h.0.host (computed_by f a b h.0); host = ap (λ (g : Host). required_host f g) h.0.host; place = tt }
      required_does f (a ∷ []) (b ∷ (d ∷ bs)) h = absurd h.1
      required_does f (a ∷ (d ∷ xs)) (b ∷ []) h = absurd h.1
      required_does f (a ∷ (d ∷ xs)) (b ∷ (g ∷ bs)) h = unknown_does _ breaks
  designated_does z _ is es fs h = unknown_does _ breaks

  -- ---- truth values

  -- as a truth value, which must be one
  truth_does : (q : Piece) (y : Step Logged Value) → Does c q [] y datum → Does c (code.truth q) [] (bool_step y >>= λ b. pure (pascal.Bool b)) datum
  truth_does q y h = as_does c (code.truth q) [] (y >>= λ v. checked (bool_of v) >>= λ b. cond b (pure (pascal.Bool true)) (pure (pascal.Bool false))) (bool_step y >>= λ b. pure (pascal.Bool b)) datum (λ r. by (y r))
      (then_does c q (fork (one (op.Push (pascal.Bool true))) (one (op.Push (pascal.Bool false)))) [] y _ datum datum h (λ v none. fork_does c (one (op.Push (pascal.Bool true))) (one (op.Push (pascal.Bool false))) v (pure (pascal.Bool true)) (pure (pascal.Bool false)) datum (push_does c (pascal.Bool true)) (push_does c (pascal.Bool false))))
    where
      at_bool : (r : Running Logged) (o : Result Bool Stop) → and_then (checked_at o r) (λ b. cond b (pure (pascal.Bool true)) (pure (pascal.Bool false))) ≡ and_then (checked_at o r) (λ b. pure (pascal.Bool b))
      at_bool r (Ok true) = refl
      at_bool r (Ok false) = refl
      at_bool r (Err e) = refl

      by : (o : StepResult Logged Value) → and_then o (λ v. checked (bool_of v) >>= λ b. cond b (pure (pascal.Bool true)) (pure (pascal.Bool false))) ≡ and_then (and_then o (λ v. checked (bool_of v))) (λ b. pure (pascal.Bool b))
      by (Ok x) = at_bool x.1 (bool_of x.0)
      by (Err e) = refl

  -- a test, and one of two pieces
  pub decided_does : (p first second : Piece) (x : Step Logged Value) {A : Type 0} (y z : Step Logged A) (left : A → List Item) → Does c p [] x datum → Does c first [] y left → Does c second [] z left → Does c (p ⨾ fork first second) [] (bool_step x >>= λ b. cond b y z) left
  decided_does p first second x y z left hp hy hz = as_does c (p ⨾ fork first second) [] (x >>= λ v. checked (bool_of v) >>= λ b. cond b y z) (bool_step x >>= λ b. cond b y z) left (λ r. bind_regrouped x (λ v. checked (bool_of v)) (λ b. cond b y z) r)
      (then_does c p (fork first second) [] x (λ v. checked (bool_of v) >>= λ b. cond b y z) datum left hp (λ v none. fork_does c first second v y z left hy hz))

  multiplied_does : (o : Multiplying) (p q : Piece) (x y : Step Logged Value) → Does c p [] x datum → Does c q [] y datum → Does c (code.multiplied scope o p q) [] (multiplied o x y) datum
  unfolding row conjunction
  multiplied_does multiplying.Star p q x y h k = both_does c op.Mul times (λ a. refl) p q x y h k
  multiplied_does multiplying.Div p q x y h k = both_does c op.Div divided (λ a. refl) p q x y h k
  multiplied_does multiplying.Mod p q x y h k = both_does c op.Mod modulo (λ a. refl) p q x y h k
  multiplied_does multiplying.And p q x y h k = decided_does p (code.truth q) (one (op.Push (pascal.Bool false))) x (bool_step y >>= λ b. pure (pascal.Bool b)) (pure (pascal.Bool false)) datum h (truth_does q y k) (push_does c (pascal.Bool false))

  added_does : (o : Adding) (p q : Piece) (x y : Step Logged Value) → Does c p [] x datum → Does c q [] y datum → Does c (code.added o p q) [] (added o x y) datum
  unfolding row disjunction
  added_does adding.Plus p q x y h k = both_does c op.Add plus (λ a. refl) p q x y h k
  added_does adding.Minus p q x y h k = both_does c op.Sub minus (λ a. refl) p q x y h k
  added_does adding.Or p q x y h k = decided_does p (one (op.Push (pascal.Bool true))) (code.truth q) x (pure (pascal.Bool true)) (bool_step y >>= λ b. pure (pascal.Bool b)) datum h (push_does c (pascal.Bool true)) (truth_does q y k)

  related_does : (o : Relation) (p q : Piece) (x y : Step Logged Value) → Does c p [] x datum → Does c q [] y datum → Does c (p ⨾ q ⨾ code.relation_of scope o) [] (both (related o) x y) datum
  unfolding row
  related_does relation.Equal p q x y h k = both_does c op.Eq (related relation.Equal) (λ a. refl) p q x y h k
  related_does relation.NotEqual p q x y h k = both_does c op.Ne (related relation.NotEqual) (λ a. refl) p q x y h k
  related_does relation.Less p q x y h k = both_does c op.Lt (related relation.Less) (λ a. refl) p q x y h k
  related_does relation.AtMost p q x y h k = both_does c op.Le (related relation.AtMost) (λ a. refl) p q x y h k
  related_does relation.Greater p q x y h k = both_does c op.Gt (related relation.Greater) (λ a. refl) p q x y h k
  related_does relation.AtLeast p q x y h k = both_does c op.Ge (related relation.AtLeast) (λ a. refl) p q x y h k
  related_does relation.Member p q x y h k = both_does c op.Has (related relation.Member) (λ a. refl) p q x y h k

  -- ---- sets

  -- a set of ordinals
  abbrev set_item : List ℕ → List Item
  set_item ns = datum (pascal.Set ns)

  abbrev MemberDoes : Step Logged (List ℕ) → Piece → Type 0
  MemberDoes x p = Does c p [] x set_item

  made_does : (i : Instr) (taken : List Item) (o : Result (List ℕ) Stop) → ((at : ℕ) (turned : Bool) (old : List Value) (r : Running Logged) (below : List Item) → result c i (taken ++ below) at turned old r ≡ goes_on (gives (a_set o) (full c old r)) below (machine c at (taken ++ below) turned (full c old r)))
      → Does c (one i) taken (checked o) set_item
  made_does i taken o h = value_does c i taken (λ r. o) set_item (λ r ns is. tt) (λ at turned old r below same. h at turned old r below ∙ by at turned old r below o)
    where
      by : (at : ℕ) (turned : Bool) (old : List Value) (r : Running Logged) (below : List Item) (o : Result (List ℕ) Stop) → goes_on (gives (a_set o) (full c old r)) below (machine c at (taken ++ below) turned (full c old r)) ≡ goes_on (and_then (checked_at o (full c old r)) (λ ns. pure (set_item ns))) below (machine c at (taken ++ below) turned (full c old r))
      by at turned old r below (Ok ns) = refl
      by at turned old r below (Err e) = refl

  one_step : (v : Value) (r : Running Logged) → checked_at (ordinal_of v >>> one_member) r ≡ and_then (checked_at (ordinal_of v) r) (λ n. checked (one_member n))
  one_step v r = by (ordinal_of v)
    where
      by : (o : Result ℤ Stop) → checked_at (o >>> one_member) r ≡ and_then (checked_at o r) (λ n. checked (one_member n))
      by (Ok n) = refl
      by (Err e) = refl

  span_step : (i : ℤ) (w : Value) (r : Running Logged) → checked_at (ordinal_of w >>> members_from i) r ≡ and_then (checked_at (ordinal_of w) r) (λ j. checked (members_from i j))
  span_step i w r = by (ordinal_of w)
    where
      by : (o : Result ℤ Stop) → checked_at (o >>> members_from i) r ≡ and_then (checked_at o r) (λ j. checked (members_from i j))
      by (Ok j) = refl
      by (Err e) = refl

  span_does : (i : ℤ) (w : Value) → Does c (one op.Span) (Datum w ∷ int_item i) (checked (ordinal_of w >>> members_from i)) set_item
  unfolding row
  span_does i w = made_does op.Span (Datum w ∷ int_item i) (ordinal_of w >>> members_from i)
      (λ at turned old r below. ap (λ (o : Value-F Value). goes_on (gives (a_set (ordinal_at o >>> λ a. ordinal_of w >>> λ b. members_from a b)) (full c old r)) below (machine c at (Datum w ∷ (int_item i ++ below)) turned (full c old r))) (outs-Int i))

  member_does : (a : model.Operand Logged) (b : code.Operand) (o : Option (model.Operand Logged)) (o' : Option code.Operand) → OperandDoes c a b → MaybeAlike (OperandDoes c) o o' → MemberDoes (member_step a o) (code.member scope b o')
  unfolding row
  member_does a b None None h k = as_does c (b.value ⨾ one op.One) [] (a.value >>= λ v. checked (ordinal_of v >>> one_member)) (member_step a None) set_item
      (λ r. same_then (a.value r) (λ v. checked (ordinal_of v >>> one_member)) (λ v. checked (ordinal_of v) >>= λ n. checked (one_member n)) one_step ∙ bind_regrouped a.value (λ v. checked (ordinal_of v)) (λ n. checked (one_member n)) r)
      (then_does c b.value (one op.One) [] a.value (λ v. checked (ordinal_of v >>> one_member)) datum set_item h.value (λ v named. made_does op.One (datum v) (ordinal_of v >>> one_member) (λ at turned old r below. refl)))
  member_does a b None (Some g) h k = absurd k
  member_does a b (Some f) None h k = absurd k
  member_does a b (Some f) (Some g) h k = then_does c (b.value ⨾ one op.Ord) (g.value ⨾ one op.Span) [] (ordinal_step a.value) (λ i. ordinal_step f.value >>= λ j. checked (members_from i j)) int_item set_item
      (then_does c b.value (one op.Ord) [] a.value (λ v. checked (ordinal_of v)) datum int_item h.value (λ v named. ord_does c v))
      (λ i named. as_does c (g.value ⨾ one op.Span) (int_item i) (f.value >>= λ w. checked (ordinal_of w >>> members_from i)) (ordinal_step f.value >>= λ j. checked (members_from i j)) set_item
      (λ r. same_then (f.value r) (λ w. checked (ordinal_of w >>> members_from i)) (λ w. checked (ordinal_of w) >>= λ j. checked (members_from i j)) (span_step i) ∙ bind_regrouped f.value (λ w. checked (ordinal_of w)) (λ j. checked (members_from i j)) r)
      (then_does c g.value (one op.Span) (int_item i) f.value (λ w. checked (ordinal_of w >>> members_from i)) (λ w. Datum w ∷ int_item i) set_item (above_does c g.value f.value (int_item i) tt k.value) (λ w named. span_does i w)))

  -- two sets are one
  unite_does : (ns ms : List ℕ) → Does c (one op.Unite) (Datum (pascal.Set ms) ∷ set_item ns) (pure (union ns ms)) set_item
  unfolding row plus
  unite_does ns ms = leaves_does c op.Unite (Datum (pascal.Set ms) ∷ set_item ns) (Datum (pascal.Set (union ns ms))) (union ns ms) set_item refl tt
      (λ at turned old r below. ap (λ (o : Value-F Value). goes_on (gives (by_kind sum_of union (pascal.Set ns) (pascal.Set ms) o) (full c old r)) below (machine c at (Datum (pascal.Set ms) ∷ (set_item ns ++ below)) turned (full c old r))) (outs-Set ns)
      ∙ ap (λ (o : Value-F Value). goes_on (gives (set_at o >>> λ b. Ok (pascal.Set (union ns b))) (full c old r)) below (machine c at (Datum (pascal.Set ms) ∷ (set_item ns ++ below)) turned (full c old r))) (outs-Set ms))

  united_does : (xs : List (Step Logged (List ℕ))) (ps : List Piece) (made : List ℕ) → EachAlike MemberDoes xs ps → Does c (code.united scope ps) (set_item made) (set_step made xs) datum
  united_does [] [] made h = none_does c (set_item made) (pascal.Set made) datum refl tt
  united_does [] (p ∷ ps) made h = absurd h
  united_does (x ∷ xs) [] made h = absurd h
  united_does (x ∷ xs) (p ∷ ps) made h = then_does c p (one op.Unite ⨾ code.united scope ps) (set_item made) x (λ ns. set_step (union made ns) xs) (λ ns. Datum (pascal.Set ns) ∷ set_item made) datum
      (under_does c p [] (set_item made) x set_item tt h.0)
      (λ ns named. then_does c (one op.Unite) (code.united scope ps) (Datum (pascal.Set ns) ∷ set_item made) (pure (union made ns)) (λ ks. set_step ks xs) set_item datum (unite_does made ns)
      (λ ks none. united_does xs ps ks h.1))

  set_does : (xs : List (Step Logged (List ℕ))) (ps : List Piece) → EachAlike MemberDoes xs ps → Does c (one op.Empty ⨾ code.united scope ps) [] (set_step [] xs) datum
  unfolding row
  set_does xs ps h = then_does c (one op.Empty) (code.united scope ps) [] (pure []) (λ ks. set_step ks xs) set_item datum
      (leaves_does c op.Empty [] (Datum (pascal.Set [])) [] set_item refl tt (λ at turned old r below. refl)) (λ ks none. united_does xs ps ks h)

  -- ---- rows of operands

  abbrev SameMark : {M : Type 0} → (M × model.Operand Logged) → (M × code.Operand) → Type 0
  SameMark x y = (x.0 ≡ y.0) × OperandDoes c x.1 y.1

  term_of_does : (xs : List (Multiplying × model.Operand Logged)) (ys : List (Multiplying × code.Operand)) (e : model.Operand Logged) (f : code.Operand) → EachAlike (λ (x : Multiplying × model.Operand Logged) (y : Multiplying × code.Operand). (x.0 ≡ y.0) × OperandDoes c x.1 y.1) xs ys → OperandDoes c e f → OperandDoes c (model.term_of Logged on_log scope.meant call c.here e xs) (code.term_of scope f ys)
  term_of_does [] [] e f h k = k
  term_of_does [] (y ∷ ys) e f h k = absurd h
  term_of_does (x ∷ xs) [] e f h k = absurd h
  term_of_does (x ∷ xs) (y ∷ ys) e f h k = term_of_does xs ys _ _ h.1
      (subst (λ (o : Multiplying). OperandDoes c (model.computed (model.multiplied_host x.0) (multiplied x.0 e.value x.1.value)) (code.computed (code.multiplied_host scope o) (code.multiplied scope o f.value y.1.value))) h.0.0
      (record { value = multiplied_does x.0 f.value y.1.value e.value x.1.value k.value h.0.1.value; host = same_host x.0; place = tt }))
    where
      same_host : (o : Multiplying) → model.multiplied_host o ≡ code.multiplied_host scope o
      same_host multiplying.Star = refl
      same_host multiplying.Div = refl
      same_host multiplying.Mod = refl
      same_host multiplying.And = refl

  simple_of_does : (xs : List (Adding × model.Operand Logged)) (ys : List (Adding × code.Operand)) (e : model.Operand Logged) (f : code.Operand) → EachAlike (λ (x : Adding × model.Operand Logged) (y : Adding × code.Operand). (x.0 ≡ y.0) × OperandDoes c x.1 y.1) xs ys → OperandDoes c e f → OperandDoes c (model.simple_of Logged on_log scope.meant call c.here e xs) (code.simple_of scope f ys)
  simple_of_does [] [] e f h k = k
  simple_of_does [] (y ∷ ys) e f h k = absurd h
  simple_of_does (x ∷ xs) [] e f h k = absurd h
  simple_of_does (x ∷ xs) (y ∷ ys) e f h k = simple_of_does xs ys _ _ h.1
      (subst (λ (o : Adding). OperandDoes c (model.computed (model.added_host x.0) (added x.0 e.value x.1.value)) (code.computed (code.added_host o) (code.added o f.value y.1.value))) h.0.0
      (record { value = added_does x.0 f.value y.1.value e.value x.1.value k.value h.0.1.value; host = same_host x.0; place = tt }))
    where
      same_host : (o : Adding) → model.added_host o ≡ code.added_host o
      same_host adding.Plus = refl
      same_host adding.Minus = refl
      same_host adding.Or = refl

  with_sign_does : (o : Option Sign) (e : model.Operand Logged) (f : code.Operand) → OperandDoes c e f → OperandDoes c (model.with_sign Logged on_log scope.meant call c.here o e) (code.with_sign scope o f)
  unfolding row
  with_sign_does None e f h = h
  with_sign_does (Some sign.Minus) e f h = computed_does c _ _ _ (of_does c op.Neg (signed sign.Minus) (λ a. refl) f.value e.value h.value)
  with_sign_does (Some sign.Plus) e f h = computed_does c _ _ _ h.value

  -- ---- trees

  abbrev NodeDoes : (k : Kind) → meant.Results Logged k → Results k → Type 0
  NodeDoes kind.selector = SelectingDoes c
  NodeDoes kind.args = EachAlike (OperandDoes c)
  NodeDoes kind.elem = MemberDoes
  NodeDoes kind.variable = WrittenDoes c
  NodeDoes kind.factor = OperandDoes c
  NodeDoes kind.expr = OperandDoes c
  NodeDoes kind.simple = OperandDoes c
  NodeDoes kind.term = OperandDoes c

  abbrev Node : Type 0
  Node = Related (model.Operand Logged) code.Operand (OperandDoes c)

  at_expr : (left : Node) (right : Option (Relation × Node)) (span : Span) → KeepsAt expressions (meant.Results Logged) Results (meant.layers Logged on_log scope.meant call c.here) (layers scope) NodeDoes kind.expr (record { left = left; right = right; span = span })
  at_expr left None span = left.holds
  at_expr left (Some x) span = computed_does c _ _ _ (related_does x.0 left.right.value x.1.right.value left.left.value x.1.left.value left.holds.value x.1.holds.value)

  at_elem : (first : Node) (last : Option Node) (span : Span) → KeepsAt expressions (meant.Results Logged) Results (meant.layers Logged on_log scope.meant call c.here) (layers scope) NodeDoes kind.elem (record { first = first; last = last; span = span })
  at_elem first None span = member_does first.left first.right None None first.holds tt
  at_elem first (Some x) span = member_does first.left first.right (Some x.left) (Some x.right) first.holds x.holds

  keeps : (k : Kind) (l : Layer k (Pairs expressions (meant.Results Logged) Results (meant.layers Logged on_log scope.meant call c.here) (layers scope) NodeDoes)) → KeepsAt expressions (meant.Results Logged) Results (meant.layers Logged on_log scope.meant call c.here) (layers scope) NodeDoes k l
  unfolding row
  keeps kind.factor (Factor-F.Number n span) = computed_does c _ _ _ (push_does c (pascal.Int n))
  keeps kind.factor (Factor-F.Char n span) = computed_does c _ _ _ (push_does c (pascal.Char n))
  keeps kind.factor (Factor-F.Variable v) = subst (λ (x : Name). OperandDoes c (model.valued Logged on_log scope.meant call c.here (scope.meant v.left.name) v.left.selectors) (code.valued scope x (scope.meant x) v.right.selectors)) v.holds.name (valued_does v.left.name (scope.meant v.left.name) refl v.left.selectors v.right.selectors v.holds.selectors)
  keeps kind.factor (Factor-F.Call x es span) = designated_does x (scope.meant x) refl es.left es.right es.holds
  keeps kind.factor (Factor-F.Paren e span) = record { value = e.holds.value; host = e.holds.host; place = tt }
  keeps kind.factor (Factor-F.Not e span) = computed_does c _ _ _ (of_does c op.Not negation (λ a. refl) e.right.value e.left.value e.holds.value)
  keeps kind.factor (Factor-F.Set elems span) = computed_does c _ _ _ (set_does _ _ (each_related MemberDoes elems))
  keeps kind.selector (Selector-F.Index es) = record { over = λ a b h. indexed_does _ _ a b (each_related (OperandDoes c) es) h; name = refl }
  keeps kind.selector (Selector-F.Field x) = record { over = λ a b h. fielded_does (scope.meant x) a b h; name = refl }
  keeps kind.args l = each_related (OperandDoes c) l.exprs
  keeps kind.elem l = at_elem l.first l.last l.span
  keeps kind.expr l = at_expr l.left l.right l.span
  keeps kind.simple l = simple_of_does _ _ _ _ (each_marked (OperandDoes c) l.others) (with_sign_does l.sign l.first.left l.first.right l.first.holds)
  keeps kind.term l = term_of_does _ _ _ _ (each_marked (OperandDoes c) l.others) l.first.holds
  keeps kind.variable l = record { name = refl; selectors = each_related (SelectingDoes c) l.selectors }

  nodes_do : (k : Kind) (x : kind.Tree k) → NodeDoes k (kind.folded (meant.Results Logged) (meant.layers Logged on_log scope.meant call c.here) k x) (kind.folded Results (layers scope) k x)
  nodes_do = folds_related expressions (meant.Results Logged) Results (meant.layers Logged on_log scope.meant call c.here) (layers scope) NodeDoes keeps

  pub expr_does : (x : Expr) → OperandDoes c (model.expr Logged on_log scope.meant call c.here x) (code.expr scope x)
  unfolding model.expr code.expr
  expr_does = nodes_do kind.expr

  pub variable_written : (x : Variable) → WrittenDoes c (model.variable Logged on_log scope.meant call c.here x) (code.variable scope x)
  unfolding model.variable code.variable
  variable_written = nodes_do kind.variable

  pub args_do : (x : Args) → EachAlike (OperandDoes c) (model.args Logged on_log scope.meant call c.here x) (code.args scope x)
  unfolding model.args code.args
  args_do = nodes_do kind.args
