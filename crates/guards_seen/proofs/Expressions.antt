-- Expressions that name no procedure mean alike on two states that show the same of some instances.
use Rattle.std.proofs.Common.{◌≡◌, ℕ, Bool, true, List, [], ◌∷◌, map, Option, Some, None, refl, ap, subst}
use Rattle.std.specs.List.{list_all}
use Rattle.std.specs.Prelude.{slice_get}
use Rattle.pascal_values.specs.declared.value.Value.{Value}
use Rattle.pascal_values.specs.declared.value.Value.TheVariants as pascal
use Rattle.estelle_tree.specs.declared.span.Span.{Span}
use Rattle.estelle_tree.specs.declared.tree.name.Name.{Name}
use Rattle.estelle_tree.specs.declared.tree.type_expr.Sign.{Sign}
use Rattle.estelle_tree.specs.declared.tree.type_expr.Sign.TheVariants as sign
use Rattle.estelle_tree.specs.declared.tree.expression.Relation.{Relation}
use Rattle.estelle_tree.specs.declared.tree.expression.Adding.{Adding}
use Rattle.estelle_tree.specs.declared.tree.expression.Multiplying.{Multiplying}
use Rattle.estelle_tree.specs.declared.tree.expression.Args.{Args}
use Rattle.estelle_tree.specs.declared.tree.expression.Expr.{Expr}
use Rattle.estelle_tree.specs.declared.tree.expression.Variable.{Variable}
use Rattle.estelle_tree.specs.declared.tree.expression.Factor.TheOpen.{Factor-F, Selector-F}
use Rattle.estelle_tree.proofs.ExpressionFolds as kind
use Rattle.estelle_tree.proofs.ExpressionFolds.{Kind, Layer, expressions}
use Rattle.estelle_model.specs.declared.denoter.Host.{Host}
use Rattle.estelle_model.specs.declared.denoter.Host.TheVariants as hosts
use Rattle.estelle_model.specs.declared.denoter.Denoter.{Denoter}
use Rattle.estelle_model.specs.Types.{host_of, item_of, field_of, item_place}
use Rattle.estelle_tree.specs.declared.required.Required.{Required}
use Rattle.estelle_model.specs.Operators.{negation, signed, related, required_value, required_host}
use Rattle.estelle_tree.specs.Paths.{Path}
use Rattle.estelle_model.specs.States.{Offers}
use Rattle.estelle_model.specs.Stops.{Broken}
use Rattle.estelle_model.specs.Steps.{◌>>=◌, pure, checked, breaks}
use Rattle.estelle_model.specs.declared.meaning.Routine.{Routine}
use Rattle.estelle_model.specs.declared.meaning.Meaning.{Meaning}
use Rattle.estelle_model.specs.declared.meaning.Meaning.TheVariants.{Constant, Own, Exported, Local, Var, Field, Called, RequiredFunction, Module}
use Rattle.estelle_model.specs.Meant.{Meanings}
use Rattle.estelle_model.specs.declared.place.Place.{Place}
use Rattle.estelle_model.specs.declared.place.Place.TheVariants.{Of, In}
use Rattle.estelle_model.specs.Places.{deeper, set_value, child_step}
use Rattle.estelle_model.specs.declared.place.Environment.{Environment}
use Rattle.estelle_model.specs.declared.place.ActualParameters.{ActualParameters}
use Rattle.estelle_model.specs.Expressions.{Call, Operand, Access, Selecting, ordinal_step, multiplied, multiplied_host, added, added_host, computed, give_all, no_arguments, result_host, reference_at, index_step, indexed, fielded, selected, exported, behind_dot, behind_module, accessed, of_access, called, valued, required_of, designated, term_of, with_sign, simple_of, related_to, factor, selector, args, elem, expr, simple, term, variable}
use Rattle.estelle_model.proofs.Alike.{Same, EachAlike, MaybeAlike, StepAlike, ValueAlike, then_alike, then_same, pure_alike, stop_alike, checked_alike}
use Rattle.estelle_model.proofs.AlikeOperands.{of_value_alike, both_alike, multiplied_alike, added_alike, set_alike}
use Rattle.estelle_model.proofs.ExpressionEquations.{Results, layers}
use Rattle.estelle_model.proofs.PrivateParts.{left_true, right_true}
use Rattle.guards_seen.specs.Quiet.{is_no_procedure, each_is, factor_layer, selector_layer, args_layer, elem_layer, expr_layer, simple_layer, term_layer, variable_layer, names_no_procedure, args_name_no_procedure, variable_names_no_procedure}
use Rattle.guards_seen.proofs.Folds.{Triple, Triples, KeepsAt, folds_related}
use Rattle.guards_seen.proofs.Places.{IsWithin, PlaceAlike, PathAlike, deeper_within, ShowAlike, load_alike, child_alike}
use Rattle.guards_seen.proofs.Operands.{within_at, GivenAlike, IsHereWithin, OperandAlike, AccessAlike, SelectingAlike, WrittenAlike, CallAlike, ordinal_alike, computed_alike, computed_with, give_all_alike, member_alike}

-- each of some triples is related, where each may stand, and each behind an operator
pub each_allowed : {A B : Type 0} (V : A → B → Type 0) (xs : List (Triple A B Bool (λ x y n. n ≡ true → V x y))) → each_is (map (λ (x : Triple A B Bool (λ x y n. n ≡ true → V x y)). x.third) xs) ≡ true
    → EachAlike V (map (λ (x : Triple A B Bool (λ x y n. n ≡ true → V x y)). x.left) xs) (map (λ (x : Triple A B Bool (λ x y n. n ≡ true → V x y)). x.right) xs)
each_allowed V [] n = tt
each_allowed V (x ∷ xs) n = (x.holds (left_true x.third _ n), each_allowed V xs (right_true x.third _ n))

each_marked_allowed : {M A B : Type 0} (V : A → B → Type 0) (xs : List (M × Triple A B Bool (λ x y n. n ≡ true → V x y))) → list_all (λ (o : M × Bool). o.1) (map {B = M × Bool} (λ (x : M × Triple A B Bool (λ x y n. n ≡ true → V x y)). (x.0, x.1.third)) xs) ≡ true
    → EachAlike (λ (x : M × A) (y : M × B). (x.0 ≡ y.0) × V x.1 y.1) (map {B = M × A} (λ (x : M × Triple A B Bool (λ x y n. n ≡ true → V x y)). (x.0, x.1.left)) xs) (map {B = M × B} (λ (x : M × Triple A B Bool (λ x y n. n ≡ true → V x y)). (x.0, x.1.right)) xs)
each_marked_allowed V [] n = tt
each_marked_allowed V (x ∷ xs) n = ((refl, x.1.holds (left_true x.1.third _ n)), each_marked_allowed V xs (right_true x.1.third _ n))

-- the fold that tells which expressions name no procedure
abbrev pub no_procedure_layers : (known : Meanings) (k : Kind) → Layer k (λ k. Bool) → Bool
no_procedure_layers known kind.factor = factor_layer known
no_procedure_layers known kind.selector = selector_layer known
no_procedure_layers known kind.args = args_layer known
no_procedure_layers known kind.elem = elem_layer known
no_procedure_layers known kind.expr = expr_layer known
no_procedure_layers known kind.simple = simple_layer known
no_procedure_layers known kind.term = term_layer known
no_procedure_layers known kind.variable = variable_layer known

-- what a name means is a routine that is told, or no routine
abbrev pub MeaningTold : (Routine → Type 0) → Meaning → Type 0
MeaningTold Told (Called r) = Told r
MeaningTold Told _ = Unit {0}

-- each that may stand is told
abbrev pub AllTold : (Routine → Type 0) → Meanings → Type 0
AllTold Told known = (x : Name) → is_no_procedure (known x) ≡ true → MeaningTold Told (known x)

module _ (S T : Type 0) (on : Offers S) (on' : Offers T) (own seen : Path → Type 0) (R : S → T → Type 0) (show : ShowAlike S T on on' own seen R) (meant : Meanings) (Told : Routine → Type 0) (told : AllTold Told meant) (call : Call S) (call' : Call T) (calls : CallAlike S T seen R Told call call') (here : Environment) (within : IsHereWithin own seen here) where
  -- ---- variable accesses

  place_deeper : (k : ℕ) (a b : Place) → PlaceAlike seen a b → PlaceAlike seen (deeper a k) (deeper b k)
  place_deeper k a b h = (ap (λ (c : Place). deeper c k) h.0, deeper_within seen a k h.1)

  index_alike : (a : Access S) (b : Access T) (e : Operand S) (f : Operand T) → AccessAlike S T seen R a b → OperandAlike S T seen R e f → StepAlike S T R (PlaceAlike seen) (index_step S on meant call here a e) (index_step T on' meant call' here b f)
  index_alike a b e f h k = then_alike S T R (PlaceAlike seen) (PlaceAlike seen) a.place b.place _ _ h.place
      (λ p q pq. then_same S T R (PlaceAlike seen) (ordinal_step e.value) (ordinal_step f.value) _ _ (ordinal_alike S T seen R e.value f.value k.value)
      (λ n. subst (λ (d : Denoter). StepAlike S T R (PlaceAlike seen) (checked (item_place a.denoter n) >>= λ j. pure (deeper p j)) (checked (item_place d n) >>= λ j. pure (deeper q j))) h.denoter
      (then_same S T R (PlaceAlike seen) (checked (item_place a.denoter n)) (checked (item_place a.denoter n)) _ _ (checked_alike S T R (item_place a.denoter n))
      (λ j. pure_alike S T R (PlaceAlike seen) (deeper p j) (deeper q j) (place_deeper j p q pq)))))

  indexed_alike : (es : List (Operand S)) (fs : List (Operand T)) (a : Access S) (b : Access T) → EachAlike (OperandAlike S T seen R) es fs → AccessAlike S T seen R a b → AccessAlike S T seen R (indexed S on meant call here es a) (indexed T on' meant call' here fs b)
  indexed_alike [] [] a b h k = k
  indexed_alike [] (f ∷ fs) a b h k = absurd h
  indexed_alike (e ∷ es) [] a b h k = absurd h
  indexed_alike (e ∷ es) (f ∷ fs) a b h k = indexed_alike es fs _ _ h.1 (record { denoter = ap (λ (d : Denoter). item_of d) k.denoter; place = index_alike a b e f k h.0 })

  fielded_alike : (x : Meaning) (a : Access S) (b : Access T) → AccessAlike S T seen R a b → AccessAlike S T seen R (fielded S on meant call here x a) (fielded T on' meant call' here x b)
  fielded_alike (Field k) a b h = record {
    denoter = ap (λ (d : Denoter). field_of d k) h.denoter;
    place = then_alike S T R (PlaceAlike seen) (PlaceAlike seen) a.place b.place _ _ h.place (λ p q pq. pure_alike S T R (PlaceAlike seen) (deeper p k) (deeper q k) (place_deeper k p q pq));
  }
  fielded_alike _ a b h = record {
    denoter = h.denoter;
    place = then_alike S T R (PlaceAlike seen) (PlaceAlike seen) a.place b.place _ _ h.place (λ p q pq. stop_alike S T R (PlaceAlike seen) Broken);
  }

  selected_alike : (xs : List (Selecting S)) (ys : List (Selecting T)) (a : Access S) (b : Access T) → EachAlike (SelectingAlike S T seen R) xs ys → AccessAlike S T seen R a b → AccessAlike S T seen R (selected S on meant call here xs a) (selected T on' meant call' here ys b)
  selected_alike [] [] a b h k = k
  selected_alike [] (y ∷ ys) a b h k = absurd h
  selected_alike (x ∷ xs) [] a b h k = absurd h
  selected_alike (x ∷ xs) (y ∷ ys) a b h k = selected_alike xs ys _ _ h.1 (h.0.over a b k)

  -- a variable at a place that is within
  at_place : (d : Denoter) (p : Place) → IsWithin seen p → AccessAlike S T seen R (record { denoter = d; place = pure p }) (record { denoter = d; place = pure p })
  at_place d p h = record { denoter = refl; place = pure_alike S T R (PlaceAlike seen) p p (refl, h) }

  reference_alike : (o : Option Place) → ((a : Place) → o ≡ Some a → IsWithin seen a) → StepAlike S T R (PlaceAlike seen) (checked (reference_at o)) (checked (reference_at o))
  reference_alike None h = stop_alike S T R (PlaceAlike seen) Broken
  reference_alike (Some a) h = pure_alike S T R (PlaceAlike seen) a a (refl, h a refl)

  exported_alike : (k : ℕ) (x : Meaning) (xs : List (Selecting S)) (ys : List (Selecting T)) → EachAlike (SelectingAlike S T seen R) xs ys → MaybeAlike (AccessAlike S T seen R) (exported S on meant call here k x xs) (exported T on' meant call' here k x ys)
  exported_alike k (Exported n d) xs ys h = selected_alike xs ys _ _ h (record {
    denoter = refl;
    place = then_alike S T R (PathAlike seen) (PlaceAlike seen) (child_step S on here.path k) (child_step T on' here.path k) _ _ (child_alike S T on on' own seen R show here.path k within.0)
        (λ p q pq. pure_alike S T R (PlaceAlike seen) (Of p n []) (Of q n []) (ap (λ (c : Path). Of c n []) pq.0, pq.1));
  })
  exported_alike k _ xs ys h = tt

  behind_dot_alike : (k : ℕ) (o : Option Name) (xs : List (Selecting S)) (ys : List (Selecting T)) → EachAlike (SelectingAlike S T seen R) xs ys → MaybeAlike (AccessAlike S T seen R) (behind_dot S on meant call here k o xs) (behind_dot T on' meant call' here k o ys)
  behind_dot_alike k None xs ys h = tt
  behind_dot_alike k (Some x) xs ys h = exported_alike k (meant x) xs ys h

  behind_module_alike : (k : ℕ) (xs : List (Selecting S)) (ys : List (Selecting T)) → EachAlike (SelectingAlike S T seen R) xs ys → MaybeAlike (AccessAlike S T seen R) (behind_module S on meant call here k xs) (behind_module T on' meant call' here k ys)
  behind_module_alike k [] [] h = tt
  behind_module_alike k [] (y ∷ ys) h = absurd h
  behind_module_alike k (x ∷ xs) [] h = absurd h
  behind_module_alike k (x ∷ xs) (y ∷ ys) h = subst (λ (o : Option Name). MaybeAlike (AccessAlike S T seen R) (behind_dot S on meant call here k x.name xs) (behind_dot T on' meant call' here k o ys)) h.0.name (behind_dot_alike k x.name xs ys h.1)

  pub accessed_alike : (x : Meaning) (xs : List (Selecting S)) (ys : List (Selecting T)) → EachAlike (SelectingAlike S T seen R) xs ys → MaybeAlike (AccessAlike S T seen R) (accessed S on meant call here x xs) (accessed T on' meant call' here x ys)
  accessed_alike (Own k d) xs ys h = selected_alike xs ys _ _ h (at_place d (Of here.path k []) (show.owned here.path within.0))
  accessed_alike (Local k d) xs ys h = selected_alike xs ys _ _ h (at_place d (In here.frame k []) tt)
  accessed_alike (Var k d) xs ys h = selected_alike xs ys _ _ h (record { denoter = refl; place = reference_alike (slice_get here.references k) (λ a e. within_at seen here.references k a within.1 e) })
  accessed_alike (Exported k d) xs ys h = selected_alike xs ys _ _ h (at_place d (Of here.path k []) (show.owned here.path within.0))
  accessed_alike (Module k) xs ys h = behind_module_alike k xs ys h
  accessed_alike _ xs ys h = tt

  -- ---- names and functions in expressions

  of_access_alike : (o : Option (Access S)) (o' : Option (Access T)) → MaybeAlike (AccessAlike S T seen R) o o' → OperandAlike S T seen R (of_access S on meant call here o) (of_access T on' meant call' here o')
  of_access_alike None None h = computed_alike S T seen R hosts.Integer breaks breaks (stop_alike S T R (Same {A = Value}) Broken)
  of_access_alike (Some a) (Some b) h = record {
    value = then_alike S T R (PlaceAlike seen) (Same {A = Value}) a.place b.place _ _ h.place (λ p q pq. load_alike S T on on' own seen R show p q pq);
    host = ap (λ (d : Denoter). host_of d) h.denoter;
    place = h.place;
  }
  of_access_alike None (Some b) h = absurd h
  of_access_alike (Some a) None h = absurd h

  called_alike : (r : Routine) → Told r → (es : List (Operand S)) (fs : List (Operand T)) → EachAlike (OperandAlike S T seen R) es fs → ValueAlike S T R (called S on meant call here r es) (called T on' meant call' here r fs)
  unfolding called
  called_alike r good es fs h = then_alike S T R (GivenAlike seen) (Same {A = Value}) (give_all r.parameters es no_arguments) (give_all r.parameters fs no_arguments) _ _ (give_all_alike S T seen R r.parameters es fs no_arguments h tt)
      (λ g k gk. then_same S T R (Same {A = Value}) (call r g) (call' r k) _ _ (subst (λ (c : ActualParameters). ValueAlike S T R (call r g) (call' r c)) gk.0 (calls r good g gk.1)) (λ v. checked_alike S T R (set_value (Some v))))

  pub valued_alike : (x : Meaning) → MeaningTold Told x → (xs : List (Selecting S)) (ys : List (Selecting T)) → EachAlike (SelectingAlike S T seen R) xs ys → OperandAlike S T seen R (valued S on meant call here x xs) (valued T on' meant call' here x ys)
  valued_alike (Constant v h) good xs ys k = computed_alike S T seen R h (pure v) (pure v) (pure_alike S T R (Same {A = Value}) v v refl)
  valued_alike (Called r) good xs ys k = computed_alike S T seen R (result_host r.result) (called S on meant call here r []) (called T on' meant call' here r []) (called_alike r good [] [] tt)
  valued_alike (Own n d) good xs ys k = of_access_alike (accessed S on meant call here (Own n d) xs) (accessed T on' meant call' here (Own n d) ys) (accessed_alike (Own n d) xs ys k)
  valued_alike (Exported n d) good xs ys k = of_access_alike (accessed S on meant call here (Exported n d) xs) (accessed T on' meant call' here (Exported n d) ys) (accessed_alike (Exported n d) xs ys k)
  valued_alike (Local n d) good xs ys k = of_access_alike (accessed S on meant call here (Local n d) xs) (accessed T on' meant call' here (Local n d) ys) (accessed_alike (Local n d) xs ys k)
  valued_alike (Var n d) good xs ys k = of_access_alike (accessed S on meant call here (Var n d) xs) (accessed T on' meant call' here (Var n d) ys) (accessed_alike (Var n d) xs ys k)
  valued_alike (Module n) good xs ys k = of_access_alike (accessed S on meant call here (Module n) xs) (accessed T on' meant call' here (Module n) ys) (accessed_alike (Module n) xs ys k)
  valued_alike _ good xs ys k = of_access_alike None None tt

  required_alike : (f : Required) (es : List (Operand S)) (fs : List (Operand T)) → EachAlike (OperandAlike S T seen R) es fs → OperandAlike S T seen R (required_of S on meant call here f es) (required_of T on' meant call' here f fs)
  required_alike f [] [] h = computed_alike S T seen R hosts.Integer breaks breaks (stop_alike S T R (Same {A = Value}) Broken)
  required_alike f [] (b ∷ bs) h = absurd h
  required_alike f (a ∷ xs) [] h = absurd h
  required_alike f (a ∷ []) (b ∷ []) h = computed_with S T seen R (required_host f a.host) (required_host f b.host) _ _ (ap (λ (g : Host). required_host f g) h.0.host)
      (subst (λ (g : Host). ValueAlike S T R (a.value >>= λ v. checked (required_value f a.host v)) (b.value >>= λ v. checked (required_value f g v))) h.0.host (of_value_alike S T on on' [] R (λ v. required_value f a.host v) a.value b.value h.0.value))
  required_alike f (a ∷ []) (b ∷ (c ∷ bs)) h = absurd h.1
  required_alike f (a ∷ (c ∷ xs)) (b ∷ []) h = absurd h.1
  required_alike f (a ∷ (c ∷ xs)) (b ∷ (d ∷ bs)) h = computed_alike S T seen R hosts.Integer breaks breaks (stop_alike S T R (Same {A = Value}) Broken)

  designated_alike : (x : Meaning) → MeaningTold Told x → (es : List (Operand S)) (fs : List (Operand T)) → EachAlike (OperandAlike S T seen R) es fs → OperandAlike S T seen R (designated S on meant call here x es) (designated T on' meant call' here x fs)
  designated_alike (Called r) good es fs h = computed_alike S T seen R (result_host r.result) (called S on meant call here r es) (called T on' meant call' here r fs) (called_alike r good es fs h)
  designated_alike (RequiredFunction f) good es fs h = required_alike f es fs h
  designated_alike _ good es fs h = computed_alike S T seen R hosts.Integer breaks breaks (stop_alike S T R (Same {A = Value}) Broken)

  -- ---- operators in a row

  abbrev OA : Operand S → Operand T → Type 0
  OA = OperandAlike S T seen R

  abbrev MarkedAlike : Multiplying × Operand S → Multiplying × Operand T → Type 0
  MarkedAlike x y = (x.0 ≡ y.0) × OA x.1 y.1

  abbrev AddedAlike : Adding × Operand S → Adding × Operand T → Type 0
  AddedAlike x y = (x.0 ≡ y.0) × OA x.1 y.1

  term_of_alike : (e : Operand S) (f : Operand T) (xs : List (Multiplying × Operand S)) (ys : List (Multiplying × Operand T)) → OA e f → EachAlike MarkedAlike xs ys → OA (term_of S on meant call here e xs) (term_of T on' meant call' here f ys)
  term_of_alike e f [] [] h k = h
  term_of_alike e f [] (y ∷ ys) h k = absurd k
  term_of_alike e f (x ∷ xs) [] h k = absurd k
  term_of_alike e f (x ∷ xs) (y ∷ ys) h k = term_of_alike (computed (multiplied_host x.0) (multiplied x.0 e.value x.1.value)) (computed (multiplied_host y.0) (multiplied y.0 f.value y.1.value)) xs ys
      (subst (λ (op : Multiplying). OA (computed (multiplied_host x.0) (multiplied x.0 e.value x.1.value)) (computed (multiplied_host op) (multiplied op f.value y.1.value))) k.0.0
      (computed_alike S T seen R (multiplied_host x.0) _ _ (multiplied_alike S T on on' [] R x.0 e.value x.1.value f.value y.1.value h.value k.0.1.value))) k.1

  simple_of_alike : (e : Operand S) (f : Operand T) (xs : List (Adding × Operand S)) (ys : List (Adding × Operand T)) → OA e f → EachAlike AddedAlike xs ys → OA (simple_of S on meant call here e xs) (simple_of T on' meant call' here f ys)
  simple_of_alike e f [] [] h k = h
  simple_of_alike e f [] (y ∷ ys) h k = absurd k
  simple_of_alike e f (x ∷ xs) [] h k = absurd k
  simple_of_alike e f (x ∷ xs) (y ∷ ys) h k = simple_of_alike (computed (added_host x.0) (added x.0 e.value x.1.value)) (computed (added_host y.0) (added y.0 f.value y.1.value)) xs ys
      (subst (λ (op : Adding). OA (computed (added_host x.0) (added x.0 e.value x.1.value)) (computed (added_host op) (added op f.value y.1.value))) k.0.0
      (computed_alike S T seen R (added_host x.0) _ _ (added_alike S T on on' [] R x.0 e.value x.1.value f.value y.1.value h.value k.0.1.value))) k.1

  with_sign_alike : (sign : Option Sign) (e : Operand S) (f : Operand T) → OA e f → OA (with_sign S on meant call here sign e) (with_sign T on' meant call' here sign f)
  with_sign_alike None e f h = h
  with_sign_alike (Some sign.Plus) e f h = computed_alike S T seen R hosts.Integer _ _ h.value
  with_sign_alike (Some sign.Minus) e f h = computed_alike S T seen R hosts.Integer _ _ (of_value_alike S T on on' [] R (signed sign.Minus) e.value f.value h.value)

  related_to_alike : (op : Relation) (e a : Operand S) (f b : Operand T) → OA e f → OA a b → OA (related_to S on meant call here e (Some (op, a))) (related_to T on' meant call' here f (Some (op, b)))
  related_to_alike op e a f b h k = computed_alike S T seen R hosts.Boolean _ _ (both_alike S T on on' [] R (related op) e.value a.value f.value b.value h.value k.value)

  -- ---- trees

  -- each node does alike, where it names no procedure
  abbrev NodeAlike : (k : Kind) → Results S k → Results T k → Bool → Type 0
  NodeAlike kind.selector x y n = n ≡ true → SelectingAlike S T seen R x y
  NodeAlike kind.args x y n = n ≡ true → EachAlike OA x y
  NodeAlike kind.elem x y n = n ≡ true → StepAlike S T R (Same {A = List ℕ}) x y
  NodeAlike kind.variable x y n = n ≡ true → WrittenAlike S T seen R x y × (is_no_procedure (meant x.name) ≡ true)
  NodeAlike kind.factor x y n = n ≡ true → OA x y
  NodeAlike kind.expr x y n = n ≡ true → OA x y
  NodeAlike kind.simple x y n = n ≡ true → OA x y
  NodeAlike kind.term x y n = n ≡ true → OA x y

  abbrev Nodes : Kind → Type 0
  Nodes = Triples expressions (Results S) (Results T) (λ k. Bool) (layers S on meant call here) (layers T on' meant call' here) (no_procedure_layers meant) NodeAlike

  abbrev Keeps : (k : Kind) → Layer k Nodes → Type 0
  Keeps = KeepsAt expressions (Results S) (Results T) (λ k. Bool) (layers S on meant call here) (layers T on' meant call' here) (no_procedure_layers meant) NodeAlike

  abbrev Operands : Type 0
  Operands = Triple (Operand S) (Operand T) Bool (λ x y n. n ≡ true → OA x y)

  at_elem : (first : Operands) (last : Option Operands) (span : Span) → Keeps kind.elem (record { first = first; last = last; span = span })
  at_elem first None span n = member_alike S T seen R _ _ None None (first.holds (left_true first.third true n)) tt
  at_elem first (Some e) span n = member_alike S T seen R _ _ (Some e.left) (Some e.right) (first.holds (left_true first.third e.third n)) (e.holds (right_true first.third e.third n))

  at_expr : (left : Operands) (right : Option (Relation × Operands)) (span : Span) → Keeps kind.expr (record { left = left; right = right; span = span })
  at_expr left None span n = left.holds (left_true left.third true n)
  at_expr left (Some x) span n = related_to_alike x.0 _ _ _ _ (left.holds (left_true left.third x.1.third n)) (x.1.holds (right_true left.third x.1.third n))

  keeps : (k : Kind) (l : Layer k Nodes) → Keeps k l
  keeps kind.factor (Factor-F.Number k span) = λ n. computed_alike S T seen R hosts.Integer _ _ (pure_alike S T R (Same {A = Value}) (pascal.Int k) (pascal.Int k) refl)
  keeps kind.factor (Factor-F.Char k span) = λ n. computed_alike S T seen R hosts.Char _ _ (pure_alike S T R (Same {A = Value}) (pascal.Char k) (pascal.Char k) refl)
  keeps kind.factor (Factor-F.Variable v) = λ n.
      let w = v.holds n in
      subst (λ (x : Name). OA (valued S on meant call here (meant v.left.name) v.left.selectors) (valued T on' meant call' here (meant x) v.right.selectors)) w.0.name (valued_alike (meant v.left.name) (told v.left.name w.1) v.left.selectors v.right.selectors w.0.selectors)
  keeps kind.factor (Factor-F.Call x es span) = λ n. designated_alike (meant x) (told x (left_true (is_no_procedure (meant x)) es.third n)) es.left es.right (es.holds (right_true (is_no_procedure (meant x)) es.third n))
  keeps kind.factor (Factor-F.Paren e span) = λ n. computed_with S T seen R _ _ _ _ (e.holds n).host (e.holds n).value
  keeps kind.factor (Factor-F.Not e span) = λ n. computed_alike S T seen R hosts.Boolean _ _ (of_value_alike S T on on' [] R negation _ _ (e.holds n).value)
  keeps kind.factor (Factor-F.Set elems span) = λ n. computed_alike S T seen R hosts.Integer _ _ (set_alike S T on on' [] R [] _ _ (each_allowed (StepAlike S T R (Same {A = List ℕ})) elems n))
  keeps kind.selector (Selector-F.Index es) = λ n. record { over = λ a b ab. indexed_alike _ _ a b (each_allowed OA es n) ab; name = refl }
  keeps kind.selector (Selector-F.Field x) = λ n. record { over = λ a b ab. fielded_alike (meant x) a b ab; name = refl }
  keeps kind.args l = λ n. each_allowed OA l.exprs n
  keeps kind.elem l = λ n. at_elem l.first l.last l.span n
  keeps kind.expr l = λ n. at_expr l.left l.right l.span n
  keeps kind.simple l = λ n.
      let rest = list_all (λ (o : Adding × Bool). o.1) (map {B = Adding × Bool} (λ (x : Adding × Operands). (x.0, x.1.third)) l.others) in
      simple_of_alike _ _ _ _ (with_sign_alike l.sign _ _ (l.first.holds (left_true l.first.third rest n))) (each_marked_allowed OA l.others (right_true l.first.third rest n))
  keeps kind.term l = λ n.
      let rest = list_all (λ (o : Multiplying × Bool). o.1) (map {B = Multiplying × Bool} (λ (x : Multiplying × Operands). (x.0, x.1.third)) l.others) in
      term_of_alike _ _ _ _ (l.first.holds (left_true l.first.third rest n)) (each_marked_allowed OA l.others (right_true l.first.third rest n))
  keeps kind.variable l = λ n.
      let rest = each_is (map (λ (x : Nodes kind.selector). x.third) l.selectors) in
      (record { name = refl; selectors = each_allowed (SelectingAlike S T seen R) l.selectors (right_true (is_no_procedure (meant l.name)) rest n) }, left_true (is_no_procedure (meant l.name)) rest n)

  nodes_alike : (k : Kind) (x : kind.Tree k) → NodeAlike k (kind.folded (Results S) (layers S on meant call here) k x) (kind.folded (Results T) (layers T on' meant call' here) k x) (kind.folded (λ k. Bool) (no_procedure_layers meant) k x)
  nodes_alike = folds_related expressions (Results S) (Results T) (λ k. Bool) (layers S on meant call here) (layers T on' meant call' here) (no_procedure_layers meant) NodeAlike keeps

  -- every form of expression does alike, where it names no procedure
  pub args_alike : (x : Args) → args_name_no_procedure meant x ≡ true → EachAlike (OperandAlike S T seen R) (args S on meant call here x) (args T on' meant call' here x)
  unfolding factor selector args elem expr simple term variable args_name_no_procedure
  args_alike = nodes_alike kind.args

  pub expr_alike : (x : Expr) → names_no_procedure meant x ≡ true → OperandAlike S T seen R (expr S on meant call here x) (expr T on' meant call' here x)
  unfolding factor selector args elem expr simple term variable names_no_procedure
  expr_alike = nodes_alike kind.expr

  pub variable_alike : (x : Variable) → variable_names_no_procedure meant x ≡ true → WrittenAlike S T seen R (variable S on meant call here x) (variable T on' meant call' here x)
  unfolding factor selector args elem expr simple term variable variable_names_no_procedure
  variable_alike x n = (nodes_alike kind.variable x n).0
