-- What `case` is compiled to does what it means.
use Rattle.std.proofs.Common.{◌≡◌, ◌∙◌, refl, sym, ap, ap₂, ℕ, ◌+◌, ◌<◌, Bool, true, false, cond, List, [], ◌∷◌, ◌++◌, ℤ, Result, Ok, Err, Some}
use Rattle.std.specs.Prelude.{◌&&◌, ◌||◌, int_lt, int_le}
use Rattle.std.specs.Ordering.{is_eq, int_cmp}
use Rattle.std.specs.declared.cmp.Ordering.TheVariants.{Less, Equal, Greater}
use Rattle.pascal_values.specs.declared.fault.Fault.TheVariants.{Unset, Range, NoCase}
use Rattle.pascal_values.specs.declared.value.Value.{Value}
use Rattle.pascal_values.specs.declared.value.Value.TheVariants as pascal
use Rattle.pascal_values.specs.declared.value.Value.TheVariants.{outs-Int, outs-Bool}
use Rattle.pascal_values.specs.declared.value.Value.TheOpen.{Value-F}
use Rattle.pascal_values.specs.declared.value.Shape.{Shape}
use Rattle.pascal_values.specs.declared.value.Relation.TheVariants as comparing
use Rattle.pascal_values.specs.Integers.{is_between}
use Rattle.pascal_values.specs.Order.{compares_at}
use Rattle.pascal_values.specs.Shapes.{is_unset_at}
use Rattle.estelle_tree.specs.declared.tree.type_expr.Const.{Const}
use Rattle.estelle_tree.specs.declared.tree.expression.Relation.TheVariants as relation
use Rattle.body_code.specs.declared.instr.Instr.TheVariants as op
use Rattle.estelle_model.specs.declared.denoter.Host.TheVariants as hosts
use Rattle.estelle_model.specs.Stops.{Stop, Faults, stopping}
use Rattle.estelle_model.specs.Types.{least, greatest, ordinal_of, value_in, shape_of, whole, assignable}
use Rattle.estelle_model.specs.Operators.{◌>>>◌, bool_at, bool_of, related}
use Rattle.estelle_model.specs.Constants.{constant_of}
use Rattle.estelle_model.specs.Meant.{Meanings}
use Rattle.estelle_model.specs.Places.{set_value}
use Rattle.estelle_model.specs.States.{Logged}
use Rattle.estelle_model.specs.Steps.{Running, StepResult, Step, Do, and_then, ◌>>=◌, pure, fail, checked, checked_at}
use Rattle.estelle_model.specs.Expressions.{ordinal_step, selector_of, selector_step}
use Rattle.estelle_model.specs.Statements.{has_ordinal, is_labelled, chosen}
use Rattle.estelle_model.proofs.Alike.{EachAlike}
use Rattle.estelle_model.proofs.Fitting.{shape_ordinal, assignable_ordinal, within_int}
use Rattle.body_machine.specs.declared.item.Item.{Item}
use Rattle.body_machine.specs.declared.item.Item.TheVariants.{Datum}
use Rattle.body_machine.specs.Rows.{row}
use Rattle.body_compiler_pieces.specs.Pieces.{Piece, one, ◌⨾◌, fork, keep, recall}
use Rattle.body_compiler_pieces.specs.ExpressionCode.{Scope, by_number}
use Rattle.body_compiler_pieces.specs.StatementCode.{with_ordinal, ordinals_of, where_ordinal, labelled, is_one, is_one_of, first_of}
use Rattle.body_compiler_laws.proofs.Does.{Site, Does, DoesWhere, anywhere, then_where, then_does, instr_does, as_does, as_where}
use Rattle.body_compiler_laws.proofs.Single.{datum, int_item, no_item, push_does, ord_does, above_does, binary_does}
use Rattle.body_compiler_laws.proofs.Control.{fork_where}
use Rattle.body_compiler_laws.proofs.Operands.{IsScope, refused_does, by_number_does}
use Rattle.body_compiler_laws.proofs.Units.{IsPlaced}
use Rattle.body_compiler_laws.proofs.Ordinals.{above, not_above}
use Rattle.body_compiler_laws.proofs.Temporaries.{HasTemporaries, Holds, holds_stable, recall_does, keep_does}

-- ---- integers

-- two are equal where each is at most the other
same_integers : (n m : ℤ) → is_eq (int_cmp n m) ≡ is_between n n m
same_integers n m = by (int_lt n m) refl (int_lt m n) refl
  where
    none : (b : Bool) → false ≡ (b && false)
    none true = refl
    none false = refl

    by : (s : Bool) → int_lt n m ≡ s → (t : Bool) → int_lt m n ≡ t → is_eq (cond s Less (cond t Greater Equal)) ≡ (int_le n m && int_le m n)
    by true e t f = none (int_le n m) ∙ ap (λ b. int_le n m && b) (sym (above m n e))
    by false e true f = ap (λ b. b && int_le m n) (sym (above n m f))
    by false e false f = ap₂ (λ a b. a && b) (sym (not_above n m f)) (sym (not_above m n e))

related_integers : (n m : ℤ) → related relation.Equal (pascal.Int n) (pascal.Int m) ≡ Ok (pascal.Bool (is_between n n m))
unfolding related
related_integers n m = ap₂ (λ (v w : Value-F Value). Ok (pascal.Bool (compares_at comparing.Eq v w))) (outs-Int n) (outs-Int m) ∙ ap (λ b. Ok (pascal.Bool b)) (same_integers n m)

abbrev integer_shape : Shape
integer_shape = shape_of (whole hosts.Integer)

abbrev is_small : ℤ → Bool
is_small n = is_between (least hosts.Integer) (greatest hosts.Integer) n

integer_fits : (n : ℤ) → assignable integer_shape (pascal.Int n) ≡ cond (is_small n) (Ok (tt {0})) (Err Range)
integer_fits n = ap (λ (s : Shape). assignable s (pascal.Int n)) (shape_ordinal hosts.Integer (least hosts.Integer) (greatest hosts.Integer)) ∙ assignable_ordinal hosts.Integer (least hosts.Integer) (greatest hosts.Integer) (pascal.Int n)
    ∙ ap₂ (λ (l : Value-F Value) b. cond (is_unset_at l) (Err Unset) (cond b (Ok (tt {0})) (Err Range))) (outs-Int n) (within_int (least hosts.Integer) (greatest hosts.Integer) n)

integer_set : (n : ℤ) → set_value (Some (pascal.Int n)) ≡ Ok (pascal.Int n)
integer_set n = ap (λ (l : Value-F Value). cond (is_unset_at l) (Err (Faults Unset)) (Ok (pascal.Int n))) (outs-Int n)

-- ---- labels

abbrev any_is : ℤ → List ℤ → Bool
any_is n [] = false
any_is n (m ∷ ms) = is_between n n m || any_is n ms

labelled_is : (meant : Meanings) (n : ℤ) (cs : List Const) → is_labelled meant n cs ≡ any_is n (ordinals_of meant cs)
labelled_is meant n [] = refl
labelled_is meant n (c ∷ cs) = by (labelled_is meant n cs) (constant_of meant c >>> ordinal_of)
  where
    by : is_labelled meant n cs ≡ any_is n (ordinals_of meant cs) → (o : Result ℤ Stop) → (has_ordinal n o || is_labelled meant n cs) ≡ any_is n (with_ordinal o (ordinals_of meant cs))
    by h (Ok m) = ap (λ b. is_between n n m || b) h
    by h (Err e) = h

-- a truth value that is known decides
decided : {A : Type 0} (b : Bool) (y z : Step Logged A) (r : Running Logged) → and_then (checked_at (bool_of (pascal.Bool b)) r) (λ t. cond t y z) ≡ cond b y z r
decided b y z r = ap (λ (l : Value-F Value). and_then (checked_at (bool_at l) r) (λ t. cond t y z)) (outs-Bool b)

-- ---- what stands for a temporary is the same for each

abbrev Uniform : (ℕ → Piece) → Type 0
Uniform f = (t : ℕ) → ((f t).temporaries ≡ (f 0).temporaries) × ((f t).fine ≡ (f 0).fine)

one_of_uniform : (ms : List ℤ) → Uniform (λ t. is_one_of t ms)
one_of_uniform [] t = (refl, refl)
one_of_uniform (m ∷ []) t = (refl, refl)
one_of_uniform (m ∷ (k ∷ ms)) t = one_of_uniform (k ∷ ms) t

first_uniform : (cs : List (List ℤ × Piece)) → Uniform (λ t. first_of t cs)
first_uniform [] t = (refl, refl)
first_uniform (c ∷ cs) t = (ap₂ (λ a b. a ++ (c.1.temporaries ++ b)) (one_of_uniform c.0 t).0 (first_uniform cs t).0, ap₂ (λ a b. a && (c.1.fine && b)) (one_of_uniform c.0 t).1 (first_uniform cs t).1)

-- ---- code

-- a case: its labels, and the code of its statement
abbrev pub BranchDoes : (c : Site) (scope : Scope) → List Const × Do Logged → List ℤ × Piece → Type 0
BranchDoes c scope x p = (ordinals_of scope.meant x.0 ≡ p.0) × Does c p.1 [] x.1 no_item

pub labelled_does : (c : Site) (scope : Scope) (cs : List Const) (x : Do Logged) (p : Piece) → Does c p [] x no_item → Does c (labelled scope.meant cs p) [] x no_item
labelled_does c scope [] x p h = h
labelled_does c scope (k ∷ cs) x p h = by (labelled_does c scope cs x p h) (constant_of scope.meant k >>> ordinal_of)
  where
    by : Does c (labelled scope.meant cs p) [] x no_item → (o : Result ℤ Stop) → Does c (where_ordinal o (labelled scope.meant cs p)) [] x no_item
    by h (Ok n) = h
    by h (Err e) = refused_does c [] x no_item

module _ (c : Site) (placed : IsPlaced c) (has : HasTemporaries c) where
  module _ (i : ℕ) (less : i < c.number) (n : ℤ) where
    abbrev I : ℕ → List Value → Type 0
    I = Holds c placed has i (pascal.Int n)

    abbrev T : ℕ
    T = c.base + i

    equal_does : (m : ℤ) (v : Value) → Does c (one (op.Push (pascal.Int m)) ⨾ one op.Eq) (datum v) (pure (pascal.Int m) >>= λ w. checked (related relation.Equal v w)) datum
    unfolding row
    equal_does m v = then_does c (one (op.Push (pascal.Int m))) (one op.Eq) (datum v) (pure (pascal.Int m)) (λ w. checked (related relation.Equal v w)) (λ w. Datum w ∷ datum v) datum
        (above_does c (one (op.Push (pascal.Int m))) (pure (pascal.Int m)) (datum v) tt (push_does c (pascal.Int m))) (λ w named. binary_does c op.Eq (related relation.Equal) (λ a. refl) v w)

    one_does : (m : ℤ) → DoesWhere c I (is_one T m) [] (pure (pascal.Bool (is_between n n m))) datum
    one_does m = as_where c I (is_one T m) [] (pure (pascal.Int n) >>= λ v. pure (pascal.Int m) >>= λ w. checked (related relation.Equal v w)) (pure (pascal.Bool (is_between n n m))) datum (λ r. ap (λ o. checked_at o r) (related_integers n m))
        (then_where c I (holds_stable c placed has i (pascal.Int n)) (recall T) (one (op.Push (pascal.Int m)) ⨾ one op.Eq) [] (pure (pascal.Int n)) (λ v. pure (pascal.Int m) >>= λ w. checked (related relation.Equal v w)) datum datum
        (recall_does c placed has i (pascal.Int n) less (integer_set n)) (λ v named. anywhere c I (one (op.Push (pascal.Int m)) ⨾ one op.Eq) (datum v) (pure (pascal.Int m) >>= λ w. checked (related relation.Equal v w)) datum (equal_does m v)))

    -- a test, and then one of two
    where_does : (p first second : Piece) (b : Bool) {A : Type 0} (y z : Step Logged A) (left : A → List Item) → DoesWhere c I p [] (pure (pascal.Bool b)) datum → DoesWhere c I first [] y left → DoesWhere c I second [] z left
        → DoesWhere c I (p ⨾ fork first second) [] (cond b y z) left
    where_does p first second b y z left hp hy hz = as_where c I (p ⨾ fork first second) [] (pure (pascal.Bool b) >>= λ v. checked (bool_of v) >>= λ t. cond t y z) (cond b y z) left (λ r. decided b y z r)
        (then_where c I (holds_stable c placed has i (pascal.Int n)) p (fork first second) [] (pure (pascal.Bool b)) (λ v. checked (bool_of v) >>= λ t. cond t y z) datum left hp
        (λ v named. fork_where c I (holds_stable c placed has i (pascal.Int n)) first second v y z left hy hz))

    one_of_does : (ms : List ℤ) → DoesWhere c I (is_one_of T ms) [] (pure (pascal.Bool (any_is n ms))) datum
    one_of_does [] = anywhere c I (one (op.Push (pascal.Bool false))) [] (pure (pascal.Bool false)) datum (push_does c (pascal.Bool false))
    one_of_does (m ∷ []) = as_where c I (is_one T m) [] (pure (pascal.Bool (is_between n n m))) (pure (pascal.Bool (is_between n n m || false))) datum (λ r. ap (λ b. Ok (pascal.Bool b, r)) (alone (is_between n n m))) (one_does m)
      where
        alone : (b : Bool) → b ≡ (b || false)
        alone true = refl
        alone false = refl
    one_of_does (m ∷ (k ∷ ms)) = as_where c I (is_one_of T (m ∷ (k ∷ ms))) [] (cond (is_between n n m) (pure (pascal.Bool true)) (pure (pascal.Bool (any_is n (k ∷ ms))))) (pure (pascal.Bool (any_is n (m ∷ (k ∷ ms))))) datum (λ r. by r (is_between n n m))
        (where_does (is_one T m) (one (op.Push (pascal.Bool true))) (is_one_of T (k ∷ ms)) (is_between n n m) (pure (pascal.Bool true)) (pure (pascal.Bool (any_is n (k ∷ ms)))) datum (one_does m)
        (anywhere c I (one (op.Push (pascal.Bool true))) [] (pure (pascal.Bool true)) datum (push_does c (pascal.Bool true))) (one_of_does (k ∷ ms)))
      where
        by : (r : Running Logged) (b : Bool) → cond b (pure (pascal.Bool true)) (pure (pascal.Bool (any_is n (k ∷ ms)))) r ≡ pure (pascal.Bool (b || any_is n (k ∷ ms))) r
        by r true = refl
        by r false = refl

    no_case : Does c (one (op.Fail NoCase)) [] (fail NoCase) no_item
    unfolding row
    no_case = instr_does c (op.Fail NoCase) [] (fail NoCase) no_item (λ at turned old r below same. refl)

    first_does : (scope : Scope) (xs : List (List Const × Do Logged)) (ys : List (List ℤ × Piece)) → EachAlike (BranchDoes c scope) xs ys → DoesWhere c I (first_of T ys) [] (chosen scope.meant n xs) no_item
    first_does scope [] [] h = anywhere c I (one (op.Fail NoCase)) [] (fail NoCase) no_item no_case
    first_does scope [] (y ∷ ys) h = absurd h
    first_does scope (x ∷ xs) [] h = absurd h
    first_does scope (x ∷ xs) (y ∷ ys) h = as_where c I (first_of T (y ∷ ys)) [] (cond (any_is n y.0) x.1 (chosen scope.meant n xs)) (chosen scope.meant n (x ∷ xs)) no_item
        (λ r. ap (λ b. cond b x.1 (chosen scope.meant n xs) r) (ap (any_is n) (sym h.0.0) ∙ sym (labelled_is scope.meant n x.0)))
        (where_does (is_one_of T y.0) y.1 (first_of T ys) (any_is n y.0) x.1 (chosen scope.meant n xs) no_item (one_of_does y.0) (anywhere c I y.1 [] x.1 no_item h.0.1) (first_does scope xs ys h.1))

  -- the selector is kept, and then the first case with the label is done
  pub select_does : (scope : Scope) → IsScope c scope → (x : Step Logged Value) (p : Piece) → Does c p [] x datum → (xs : List (List Const × Do Logged)) (ys : List (List ℤ × Piece)) → EachAlike (BranchDoes c scope) xs ys
      → Does c (by_number (scope.number integer_shape) (λ k. keep integer_shape k (p ⨾ one op.Ord) (λ t. first_of t ys))) [] (selector_step x >>= λ n. chosen scope.meant n xs) no_item
  select_does scope within x p hp xs ys h = by_number_does c (scope.number integer_shape) (λ k. keep integer_shape k (p ⨾ one op.Ord) (λ t. first_of t ys)) [] (selector_step x >>= λ n. chosen scope.meant n xs) no_item
      (λ k is. as_does c (keep integer_shape k (p ⨾ one op.Ord) (λ t. first_of t ys)) [] (ordinal_step x >>= λ n. checked (stopping (assignable integer_shape (pascal.Int n))) >>= λ ok. chosen scope.meant n xs) (selector_step x >>= λ n. chosen scope.meant n xs) no_item (λ r. of_value (x r))
      (keep_does c placed has integer_shape k (within.number integer_shape k is) (p ⨾ one op.Ord) (λ t. first_of t ys) (first_uniform ys) ℤ (Unit {0}) (ordinal_step x) pascal.Int (λ n. chosen scope.meant n xs) no_item
      (then_does c p (one op.Ord) [] x (λ v. checked (ordinal_of v)) datum (int_item) hp (λ v none. ord_does c v))
      (λ i less n. first_does i less n scope xs ys h)))
    where
      of_test : (n : ℤ) (q : Running Logged) (b : Bool) → and_then (checked_at (stopping (cond b (Ok (tt {0})) (Err Range))) q) (λ ok. chosen scope.meant n xs) ≡ and_then (checked_at (cond b (Ok (pascal.Int n)) (Err (Faults Range)) >>> λ w. Ok n) q) (λ m. chosen scope.meant m xs)
      of_test n q true = refl
      of_test n q false = refl

      of_ordinal : (q : Running Logged) (o : Result ℤ Stop) → and_then (checked_at o q) (λ n. checked (stopping (assignable integer_shape (pascal.Int n))) >>= λ ok. chosen scope.meant n xs) ≡ and_then (checked_at (o >>> λ n. value_in hosts.Integer n >>> λ w. Ok n) q) (λ n. chosen scope.meant n xs)
      of_ordinal q (Err e) = refl
      of_ordinal q (Ok n) = ap (λ o. and_then (checked_at (stopping o) q) (λ ok. chosen scope.meant n xs)) (integer_fits n) ∙ of_test n q (is_small n)

      of_value : (o : StepResult Logged Value) → and_then (and_then o (λ v. checked (ordinal_of v))) (λ n. checked (stopping (assignable integer_shape (pascal.Int n))) >>= λ ok. chosen scope.meant n xs) ≡ and_then (and_then o (λ v. checked (selector_of v))) (λ n. chosen scope.meant n xs)
      of_value (Ok y) = of_ordinal y.1 (ordinal_of y.0)
      of_value (Err e) = refl
