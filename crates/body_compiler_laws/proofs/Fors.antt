-- What `for` is compiled to does what it means.
use Rattle.std.proofs.Common.{◌≡◌, ◌∙◌, refl, sym, ap, subst, ℕ, suc, ◌+◌, ◌<◌, Bool, true, false, cond, List, [], ◌∷◌, length, ℤ, ◌-ℤ◌, Result, Ok, Err, Some, arith}
use Rattle.std.specs.Prelude.{nat_abs}
use Rattle.std.specs.Ordering.{int_cmp}
use Rattle.pascal_values.specs.declared.value.Value.{Value}
use Rattle.pascal_values.specs.declared.value.Value.TheVariants as pascal
use Rattle.pascal_values.specs.declared.value.Relation.{Relation as Comparing}
use Rattle.pascal_values.specs.declared.value.Relation.TheVariants as comparing
use Rattle.pascal_values.specs.declared.value.Shape.{Shape}
use Rattle.pascal_values.specs.Order.{holds, compares}
use Rattle.estelle_tree.specs.declared.tree.expression.Relation.{Relation}
use Rattle.estelle_tree.specs.declared.tree.expression.Relation.TheVariants as relation
use Rattle.estelle_tree.specs.declared.tree.statement.Direction.{Direction}
use Rattle.estelle_tree.specs.declared.tree.statement.Direction.TheVariants as direction
use Rattle.body_code.specs.declared.instr.Instr.{Instr}
use Rattle.body_code.specs.declared.instr.Instr.TheVariants as op
use Rattle.estelle_model.specs.declared.denoter.Host.{Host}
use Rattle.estelle_model.specs.declared.denoter.Denoter.{Denoter}
use Rattle.estelle_model.specs.declared.place.Place.{Place}
use Rattle.estelle_model.specs.Stops.{Stop, stopping}
use Rattle.estelle_model.specs.Types.{ordinal_of, value_of, value_in, shape_of, host_of, whole, assignable}
use Rattle.estelle_model.specs.Operators.{◌>>>◌, related}
use Rattle.estelle_model.specs.Loops.{comes_to, turns_of, count_loop}
use Rattle.estelle_model.specs.Places.{store, store_ordinal, blank_at}
use Rattle.estelle_model.specs.States.{Logged, on_log}
use Rattle.estelle_model.specs.Steps.{Running, StepResult, Step, Do, and_then, ◌>>=◌, ◌>>◌, pure, checked, checked_at}
use Rattle.estelle_model.specs.Expressions.{bound_of, bound_step}
use Rattle.body_machine.specs.declared.item.Item.TheVariants.{Datum}
use Rattle.body_machine.specs.Machine.{Activation}
use Rattle.body_numbers.specs.Numbers.{shape_numbered}
use Rattle.body_machine.specs.Rows.{OfValues, row, gives}
use Rattle.body_compiler_pieces.specs.Pieces.{Piece, one, ◌⨾◌, keep, recall}
use Rattle.body_compiler_pieces.specs.ExpressionCode.{Scope, by_number}
use Rattle.body_compiler_pieces.specs.StatementCode.{is_word, begins_code, goes_code, counting, count_by}
use Rattle.body_compiler_laws.proofs.Does.{Site, machine, full, Leads, Does, DoesWhere, IsStable, anywhere, then_where, then_does, as_does, as_where, under_where}
use Rattle.body_compiler_laws.proofs.Single.{datum, spot, no_item, binary_does, store_does, blank_does}
use Rattle.body_compiler_laws.proofs.Operands.{IsScope, refused_does, by_number_does, bind_regrouped}
use Rattle.body_compiler_laws.proofs.Units.{IsPlaced}
use Rattle.body_compiler_laws.proofs.Ordinals.{IsIn, IsBound, bound_is, begins_at, goes_on_at, begins_is, counts_first, value_there, value_set, values_compare}
use Rattle.body_compiler_laws.proofs.Temporaries.{HasTemporaries, Holds, holds_stable, recall_does, DoesDown, keep_down}
use Rattle.body_compiler_laws.proofs.Counting.{Two, count_does}

module _ (c : Site) (placed : IsPlaced c) (has : HasTemporaries c) where
  -- ---- where both bounds are kept

  module _ (h : Host) (word : is_word h ≡ true) (k : ℕ) (is : shape_numbered c.numbers k ≡ Some (shape_of (whole h))) (dir : Direction) (last : ℤ) (there : IsIn h last) (t u : ℕ) (t_less : t < c.number) (u_less : u < c.number) (t_u : t < u) where
    abbrev I : ℤ → ℕ → List Value → Type 0
    I = Two c placed has h word k is dir last there t u t_less t_u

    stable : (n : ℤ) → IsStable c (I n)
    stable n free more old own less kept known = (holds_stable c placed has t (value_of h n) free more old own less kept known.0, holds_stable c placed has u (value_of h last) free more old own less kept known.1)

    recall_turn : (n : ℤ) → DoesWhere c (I n) (recall (c.base + t)) [] (pure (value_of h n)) datum
    recall_turn n fine at free turned old r below stands low room same known = recall_does c placed has t (value_of h n) t_less (value_set h n) fine at free turned old r below stands low room same known.0

    recall_last : (n : ℤ) → DoesWhere c (I n) (recall (c.base + u)) [] (pure (value_of h last)) datum
    recall_last n fine at free turned old r below stands low room same known = recall_does c placed has u (value_of h last) u_less (value_set h last) fine at free turned old r below stands low room same known.1

    compared_does : (i : Instr) (rel : Relation) (by : Comparing) → ((a : Activation) → row c.subject c.numbers a i ≡ OfValues (λ v w. gives (related rel v w))) → ((v w : Value) → related rel v w ≡ Ok (pascal.Bool (compares by v w))) → (n : ℤ) → IsIn h n
        → DoesWhere c (I n) (recall (c.base + t) ⨾ recall (c.base + u) ⨾ one i) [] (pure (pascal.Bool (holds by (int_cmp n last)))) datum
    compared_does i rel by rows means n a = as_where c (I n) (recall (c.base + t) ⨾ recall (c.base + u) ⨾ one i) [] (pure (value_of h n) >>= λ v. pure (value_of h last) >>= λ w. checked (related rel v w)) (pure (pascal.Bool (holds by (int_cmp n last)))) datum
        (λ r. ap (λ o. checked_at o r) (means (value_of h n) (value_of h last) ∙ ap (λ b. Ok (pascal.Bool b)) (values_compare by h n last a there)))
        (then_where c (I n) (stable n) (recall (c.base + t)) (recall (c.base + u) ⨾ one i) [] (pure (value_of h n)) (λ v. pure (value_of h last) >>= λ w. checked (related rel v w)) datum datum (recall_turn n)
        (λ v named. then_where c (I n) (stable n) (recall (c.base + u)) (one i) (datum v) (pure (value_of h last)) (λ w. checked (related rel v w)) (λ w. Datum w ∷ datum v) datum
        (under_where c (I n) (recall (c.base + u)) [] (datum v) (pure (value_of h last)) datum tt (recall_last n))
        (λ w both. anywhere c (I n) (one i) (Datum w ∷ datum v) (checked (related rel v w)) datum (binary_does c i (related rel) rows v w))))

    begins_does : (n : ℤ) → IsIn h n → DoesWhere c (I n) (recall (c.base + t) ⨾ recall (c.base + u) ⨾ begins_code dir) [] (pure (pascal.Bool (begins_at dir (int_cmp n last)))) datum
    unfolding row related
    begins_does n a = by dir refl
      where
        by : (d : Direction) → d ≡ dir → DoesWhere c (I n) (recall (c.base + t) ⨾ recall (c.base + u) ⨾ begins_code d) [] (pure (pascal.Bool (begins_at d (int_cmp n last)))) datum
        by direction.To e = compared_does op.Le relation.AtMost comparing.Le (λ x. refl) (λ v w. refl) n a
        by direction.Downto e = compared_does op.Ge relation.AtLeast comparing.Ge (λ x. refl) (λ v w. refl) n a

    goes_does : (n : ℤ) → IsIn h n → DoesWhere c (I n) (recall (c.base + t) ⨾ recall (c.base + u) ⨾ goes_code dir) [] (pure (pascal.Bool (goes_on_at dir (int_cmp n last)))) datum
    unfolding row related
    goes_does n a = by dir refl
      where
        by : (d : Direction) → d ≡ dir → DoesWhere c (I n) (recall (c.base + t) ⨾ recall (c.base + u) ⨾ goes_code d) [] (pure (pascal.Bool (goes_on_at d (int_cmp n last)))) datum
        by direction.To e = compared_does op.Lt relation.Less comparing.Lt (λ x. refl) (λ v w. refl) n a
        by direction.Downto e = compared_does op.Gt relation.Greater comparing.Gt (λ x. refl) (λ v w. refl) n a

    module _ (type : Denoter) (of : host_of type ≡ h) (kind : ℕ) (numbered : shape_numbered c.numbers kind ≡ Some (shape_of type)) (P : Place) (place : Piece) (place_does : Does c place [] (pure P) spot) (z : Piece) (body : Do Logged) (body_does : Does c z [] body no_item) where
      set_does : (n : ℤ) → IsIn h n → DoesWhere c (I n) (place ⨾ recall (c.base + t) ⨾ one (op.Store kind)) [] (store_ordinal Logged on_log type P n) no_item
      unfolding store_ordinal
      set_does n a = as_where c (I n) (place ⨾ recall (c.base + t) ⨾ one (op.Store kind)) [] (pure P >>= λ p. pure (value_of h n) >>= λ v. store Logged on_log type p v) (store_ordinal Logged on_log type P n) no_item
          (λ r. sym (ap (λ (g : Host). and_then (checked_at (value_in g n) r) (λ v. store Logged on_log type P v)) of ∙ ap (λ o. and_then (checked_at o r) (λ v. store Logged on_log type P v)) (value_there h n a)))
          (then_where c (I n) (stable n) place (recall (c.base + t) ⨾ one (op.Store kind)) [] (pure P) (λ p. pure (value_of h n) >>= λ v. store Logged on_log type p v) spot no_item (anywhere c (I n) place [] (pure P) spot place_does)
          (λ p named. then_where c (I n) (stable n) (recall (c.base + t)) (one (op.Store kind)) (spot p) (pure (value_of h n)) (λ v. store Logged on_log type p v) (λ v. Datum v ∷ spot p) no_item
          (under_where c (I n) (recall (c.base + t)) [] (spot p) (pure (value_of h n)) datum named (recall_turn n))
          (λ v both. anywhere c (I n) (one (op.Store kind)) (Datum v ∷ spot p) (store Logged on_log type p v) no_item (store_does c kind type numbered p v both.0))))

      turn_does : (n : ℤ) → IsIn h n → DoesWhere c (I n) ((place ⨾ recall (c.base + t) ⨾ one (op.Store kind)) ⨾ z ⨾ recall (c.base + t) ⨾ recall (c.base + u) ⨾ goes_code dir) []
          (store_ordinal Logged on_log type P n >> body >>= λ done. pure (pascal.Bool (goes_on_at dir (int_cmp n last)))) datum
      turn_does n a = as_where c (I n) _ [] (store_ordinal Logged on_log type P n >>= λ done. body >>= λ done. pure (pascal.Bool (goes_on_at dir (int_cmp n last)))) (store_ordinal Logged on_log type P n >> body >>= λ done. pure (pascal.Bool (goes_on_at dir (int_cmp n last)))) datum
          (λ r. bind_regrouped (store_ordinal Logged on_log type P n) (λ done. body) (λ done. pure (pascal.Bool (goes_on_at dir (int_cmp n last)))) r)
          (then_where c (I n) (stable n) (place ⨾ recall (c.base + t) ⨾ one (op.Store kind)) (z ⨾ recall (c.base + t) ⨾ recall (c.base + u) ⨾ goes_code dir) [] (store_ordinal Logged on_log type P n) (λ done. body >>= λ done. pure (pascal.Bool (goes_on_at dir (int_cmp n last)))) no_item datum (set_does n a)
          (λ done none. then_where c (I n) (stable n) z (recall (c.base + t) ⨾ recall (c.base + u) ⨾ goes_code dir) [] body (λ done. pure (pascal.Bool (goes_on_at dir (int_cmp n last)))) no_item datum (anywhere c (I n) z [] body no_item body_does) (λ done none. goes_does n a)))

      unset_does : Does c (place ⨾ one op.Blank) [] (blank_at Logged on_log P) no_item
      unset_does = then_does c place (one op.Blank) [] (pure P) (λ p. blank_at Logged on_log p) spot no_item place_does (λ p named. blank_does c p named.0)

      counting_does : (first : ℤ) → IsIn h first → DoesDown c placed has (λ free. c.base + t) (I first) (counting dir k kind place z (c.base + t) (c.base + u)) (count_loop dir first last (λ n. store_ordinal Logged on_log type P n) (blank_at Logged on_log P) body) no_item
      unfolding count_loop
      counting_does first a = count_does c placed has h word k is dir last there t u t_less t_u (recall (c.base + t) ⨾ recall (c.base + u) ⨾ begins_code dir) ((place ⨾ recall (c.base + t) ⨾ one (op.Store kind)) ⨾ z ⨾ recall (c.base + t) ⨾ recall (c.base + u) ⨾ goes_code dir) (place ⨾ one op.Blank)
          (λ n. store_ordinal Logged on_log type P n) body (blank_at Logged on_log P) turn_does unset_does first a (begins_at dir (int_cmp first last)) (begins_does first a) (turns_of dir first last)
          (λ e. let comes : comes_to dir first last ≡ true = sym (begins_is dir first last) ∙ e in
          (nat_abs (last -ℤ first), ap (λ b. cond b (nat_abs (last -ℤ first) + 1) 0) comes ∙ (let f : nat_abs (last -ℤ first) + 1 ≡ suc (nat_abs (last -ℤ first)) = omega arith in f), counts_first dir first last comes))
          (λ e. let none : comes_to dir first last ≡ false = sym (begins_is dir first last) ∙ e in ap (λ b. cond b (nat_abs (last -ℤ first) + 1) 0) none)

  -- ---- the bounds

  module _ (scope : Scope) (within : IsScope c scope) (type : Denoter) (P : Place) (place : Piece) (place_does : Does c place [] (pure P) spot) (dir : Direction) (p q z : Piece) (x y : Step Logged Value) (body : Do Logged)
      (first_does : Does c p [] x datum) (last_does : Does c q [] y datum) (body_does : Does c z [] body no_item) where
    abbrev h : Host
    h = host_of type

    abbrev S : Shape
    S = shape_of (whole h)

    abbrev L : ℤ → ℤ → Do Logged
    L m n = count_loop dir m n (λ i. store_ordinal Logged on_log type P i) (blank_at Logged on_log P) body

    -- behind both bounds
    abbrev both_known : Value → Value → Do Logged
    both_known v w = checked (ordinal_of v) >>= λ m. checked (ordinal_of w) >>= λ n. L m n

    abbrev first_known : Value → Do Logged
    first_known v = y >>= λ w. checked (stopping (assignable S w)) >>= λ ok. both_known v w

    of_second : (v w : Value) (m : ℤ) → ordinal_of v ≡ Ok m → (s : Running Logged) (o : Result (Unit {0}) Stop) → stopping (assignable S w) ≡ o → and_then (checked_at o s) (λ ok. both_known v w) ≡ and_then (checked_at (o >>> λ ok. ordinal_of w) s) (λ n. L m n)
    of_second v w m is s (Err e) f = refl
    of_second v w m is s (Ok done) f = ap (λ o. and_then (checked_at o s) (λ i. checked (ordinal_of w) >>= λ n. L i n)) is

    of_last : (v : Value) (m : ℤ) → ordinal_of v ≡ Ok m → (o : StepResult Logged Value) → and_then o (λ w. checked (stopping (assignable S w)) >>= λ ok. both_known v w) ≡ and_then (and_then o (λ w. checked (bound_of h w))) (λ n. L m n)
    of_last v m is (Err e) = refl
    of_last v m is (Ok a) = of_second v a.0 m is a.1 (stopping (assignable S a.0)) refl

    of_first : (v : Value) (s : Running Logged) (o : Result (Unit {0}) Stop) → stopping (assignable S v) ≡ o → and_then (checked_at o s) (λ ok. first_known v) ≡ and_then (checked_at (o >>> λ ok. ordinal_of v) s) (λ m. bound_step h y >>= λ n. L m n)
    of_first v s (Err e) f = refl
    of_first v s (Ok done) f = let b : IsBound h v = bound_is h v f in of_last v b.ordinal b.of (y s) ∙ sym (ap (λ o. and_then (checked_at o s) (λ m. bound_step h y >>= λ n. L m n)) b.of)

    of_both : (o : StepResult Logged Value) → and_then o (λ v. checked (stopping (assignable S v)) >>= λ ok. first_known v) ≡ and_then (and_then o (λ v. checked (bound_of h v))) (λ m. bound_step h y >>= λ n. L m n)
    of_both (Err e) = refl
    of_both (Ok a) = of_first a.0 a.1 (stopping (assignable S a.0)) refl

    kept_does : is_word h ≡ true → (k : ℕ) → shape_numbered c.numbers k ≡ Some S → (kind : ℕ) → shape_numbered c.numbers kind ≡ Some (shape_of type)
        → Does c (keep S k p (λ t. keep S k q (λ u. counting dir k kind place z t u))) [] (x >>= λ v. checked (stopping (assignable S v)) >>= λ ok. first_known v) no_item
    kept_does word k is kind numbered fine at free turned old r below stands low room same =
        keep_down c placed has (λ free. free) (λ free own. Unit {0}) (λ free more old own less kept known. tt) (λ free own known. omega arith) S k is p (λ t. keep S k q (λ u. counting dir k kind place z t u)) (λ n. (refl, refl)) Value (Unit {0}) x (λ v. v) first_known no_item
        (anywhere c (λ free own. Unit {0}) p [] x datum first_does)
        (λ t t_less before known v fits. keep_down c placed has (λ free. c.base + t) (λ free own. Unit {0} × Holds c placed has t v free own) (λ free more old own less kept known. (tt, holds_stable c placed has t v free more old own less kept known.1)) (λ free own known. omega (arith, known.1.0))
        S k is q (λ u. counting dir k kind place z (c.base + t) u) (λ n. (refl, refl)) Value (Unit {0}) y (λ w. w) (both_known v) no_item (anywhere c (λ free own. Unit {0} × Holds c placed has t v free own) q [] y datum last_does)
        (λ u u_less before' known' w fits'. behind t t_less u u_less (omega (arith, known'.1.0)) v fits w fits'))
        fine at free turned old r below stands low room same tt
      where
        behind : (t : ℕ) → t < c.number → (u : ℕ) → u < c.number → t < u → (v : Value) → stopping (assignable S v) ≡ Ok (tt {0}) → (w : Value) → stopping (assignable S w) ≡ Ok (tt {0})
            → DoesDown c placed has (λ free. c.base + t) (λ free own. (Unit {0} × Holds c placed has t v free own) × Holds c placed has u w free own) (counting dir k kind place z (c.base + t) (c.base + u)) (both_known v w) no_item
        behind t t_less u u_less t_u v fits w fits' fine at free turned old r below stands low room same known =
            subst (λ o. Leads c (machine c at below turned (full c old r)) (at + length ((counting dir k kind place z (c.base + t) (c.base + u)).code free at)) (c.base + t) old r.left below no_item o) (sym (ap (λ o. and_then (checked_at o r) (λ m. checked (ordinal_of w) >>= λ n. L m n)) a.of ∙ ap (λ o. and_then (checked_at o r) (λ n. L a.ordinal n)) b.of))
            (counting_does h word k is dir b.ordinal b.there t u t_less u_less t_u type refl kind numbered P place place_does z body body_does a.ordinal a.there fine at free turned old r below stands low room same
            ((known.0.1.0, known.0.1.1 ∙ ap Some a.is), (known.1.0, known.1.1 ∙ ap Some b.is)))
          where
            a : IsBound h v
            a = bound_is h v fits

            b : IsBound h w
            b = bound_is h w fits'

    pub for_does : Does c (count_by scope (is_word h) S (record { denoter = type; place = place }) p dir q z) [] (bound_step h x >>= λ m. bound_step h y >>= λ n. L m n) no_item
    for_does = by (is_word h) refl
      where
        by : (b : Bool) → is_word h ≡ b → Does c (count_by scope b S (record { denoter = type; place = place }) p dir q z) [] (bound_step h x >>= λ m. bound_step h y >>= λ n. L m n) no_item
        by false e = refused_does c [] (bound_step h x >>= λ m. bound_step h y >>= λ n. L m n) no_item
        by true e = by_number_does c (scope.number S) (λ k. by_number (scope.number (shape_of type)) (λ d. keep S k p (λ t. keep S k q (λ u. counting dir k d place z t u)))) [] (bound_step h x >>= λ m. bound_step h y >>= λ n. L m n) no_item
            (λ k is. by_number_does c (scope.number (shape_of type)) (λ d. keep S k p (λ t. keep S k q (λ u. counting dir k d place z t u))) [] (bound_step h x >>= λ m. bound_step h y >>= λ n. L m n) no_item
            (λ d numbered. as_does c (keep S k p (λ t. keep S k q (λ u. counting dir k d place z t u))) [] (x >>= λ v. checked (stopping (assignable S v)) >>= λ ok. first_known v) (bound_step h x >>= λ m. bound_step h y >>= λ n. L m n) no_item (λ r. of_both (x r))
            (kept_does e k (within.number S k is) d (within.number (shape_of type) d numbered))))
