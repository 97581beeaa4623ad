-- What single instructions do: places, loads and stores, and what is computed of values.
use Rattle.std.proofs.Common.{◌≡◌, ◌∙◌, refl, sym, ap, subst, ℕ, suc, Bool, true, false, cond, List, [], ◌∷◌, ◌++◌, ℤ, Result, Ok, Err, Option, Some, None, arith}
use Rattle.std.specs.FinMap as map
use Rattle.pascal_values.specs.declared.value.Value.{Value}
use Rattle.pascal_values.specs.declared.value.Value.TheVariants as pascal
use Rattle.body_code.specs.declared.instr.Instr.{Instr}
use Rattle.body_code.specs.declared.instr.Instr.TheVariants as op
use Rattle.estelle_model.specs.Core.{Instance}
use Rattle.estelle_model.specs.Effects.{Store}
use Rattle.estelle_model.specs.Belonging.{may_store}
use Rattle.estelle_model.specs.declared.denoter.Denoter.{Denoter}
use Rattle.estelle_model.specs.Types.{ordinal_of, shape_of, assignable}
use Rattle.estelle_model.specs.Operators.{◌>>>◌, required_value}
use Rattle.estelle_model.specs.Stops.{Stop, Broken, stopping}
use Rattle.estelle_model.specs.States.{Logged, on_log}
use Rattle.estelle_model.specs.Steps.{Running, StepResult, Step, Do, and_then, ◌>>=◌, ◌>>◌, pure, checked, checked_at}
use Rattle.estelle_model.specs.declared.place.Place.{Place}
use Rattle.estelle_model.specs.declared.place.Place.TheVariants.{Of, In}
use Rattle.estelle_model.specs.Places.{known, held, load, put_in_instance, put, store, blanked, blank_there, blank_at}
use Rattle.estelle_model.specs.Expressions.{both}
use Rattle.body_machine.specs.declared.item.Item.{Item}
use Rattle.body_machine.specs.declared.item.Item.TheVariants.{Datum, Spot}
use Rattle.body_machine.specs.Machine.{Activation, Machine, Next, Goes}
use Rattle.body_numbers.specs.Numbers.{shape_numbered}
use Rattle.body_machine.specs.Rows.{OfValue, OfValues, row, gives, leaves, nothing, store_as}
use Rattle.body_machine.specs.Steps.{by_row, goes_on}
use Rattle.body_compiler_pieces.specs.Pieces.{Piece, one, ◌⨾◌}
use Rattle.body_compiler_laws.proofs.Frames.{outline, IsNamed, held_joined, put_joined, outline_kept}
use Rattle.body_compiler_laws.proofs.Does.{Site, machine, full, AreNamed, Does, Does1, then_does, under_does, instr_does}

-- what a value, and what a place is left as
abbrev pub datum : Value → List Item
datum v = Datum v ∷ []

abbrev pub spot : Place → List Item
spot p = Spot p ∷ []

-- an ordinal, as an integer
abbrev pub int_item : ℤ → List Item
int_item i = Datum (pascal.Int i) ∷ []

abbrev pub no_item : Unit {0} → List Item
no_item done = []

module _ (c : Site) where
  abbrev M : (at : ℕ) → List Item → Bool → Running Logged → Machine
  M = machine c

  abbrev F : List Value → Running Logged → Running Logged
  F = full c

  abbrev D : Piece → List Item → {A : Type 0} → Step Logged A → (A → List Item) → Type 0
  D = Does c

  -- what the instruction does here
  abbrev pub result : Instr → List Item → ℕ → Bool → List Value → Running Logged → Next
  result i stack at turned old r = by_row c.subject c.numbers c.code (row c.subject c.numbers (M at stack turned (F old r)).active i) stack (M at stack turned (F old r))

  -- it leaves an item
  pub leaves_does : (i : Instr) (taken : List Item) (item : Item) {A : Type 0} (a : A) (left : A → List Item) → left a ≡ item ∷ [] → AreNamed c (left a)
      → ((at : ℕ) (turned : Bool) (old : List Value) (r : Running Logged) (below : List Item) → result i (taken ++ below) at turned old r ≡ goes_on (Ok (item ∷ [], F old r)) below (M at (taken ++ below) turned (F old r)))
      → D (one i) taken (pure a) left
  leaves_does i taken item a left is named h = instr_does c i taken (pure a) left
      (λ at turned old r below same. (h at turned old r below ∙ ap (λ items. Goes (M (suc at) (items ++ below) turned (F old r))) (sym is), same, omega arith, named))

  -- it computes what is left, or what stops it
  pub value_does : (i : Instr) (taken : List Item) {A : Type 0} (g : Running Logged → Result A Stop) (left : A → List Item) → ((r : Running Logged) (a : A) → g r ≡ Ok a → AreNamed c (left a))
      → ((at : ℕ) (turned : Bool) (old : List Value) (r : Running Logged) (below : List Item) → outline r.frames ≡ c.counts
      → result i (taken ++ below) at turned old r ≡ goes_on (and_then (checked_at (g r) (F old r)) (λ a. pure (left a))) below (M at (taken ++ below) turned (F old r)))
      → D (one i) taken (λ r. checked_at (g r) r) left
  value_does i taken {A} g left named h = instr_does c i taken (λ r. checked_at (g r) r) left (λ at turned old r below same. by at turned old r below same (g r) (λ a is. named r a is) (h at turned old r below same))
    where
      by : (at : ℕ) (turned : Bool) (old : List Value) (r : Running Logged) (below : List Item) → outline r.frames ≡ c.counts → (o : Result A Stop) → ((a : A) → o ≡ Ok a → AreNamed c (left a))
          → result i (taken ++ below) at turned old r ≡ goes_on (and_then (checked_at o (F old r)) (λ a. pure (left a))) below (M at (taken ++ below) turned (F old r))
          → Does1 c i taken left at turned old r below (checked_at o r)
      by at turned old r below same (Ok a) named h = (h, same, omega arith, named a refl)
      by at turned old r below same (Err e) named h = h

  -- ---- values

  pub push_does : (v : Value) → D (one (op.Push v)) [] (pure v) datum
  unfolding row
  push_does v = leaves_does (op.Push v) [] (Datum v) v datum refl tt (λ at turned old r below. refl)

  -- what is computed of the topmost value
  pub unary_does : (i : Instr) (f : Value → Result Value Stop) → ((a : Activation) → row c.subject c.numbers a i ≡ OfValue (λ v. gives (f v))) → (v : Value) → D (one i) (Datum v ∷ []) (checked (f v)) datum
  unary_does i f is v = value_does i (Datum v ∷ []) (λ r. f v) datum (λ r w is. tt)
      (λ at turned old r below same. ap (λ x. by_row c.subject c.numbers c.code x (Datum v ∷ below) (M at (Datum v ∷ below) turned (F old r))) (is (M at (Datum v ∷ below) turned (F old r)).active))

  -- and of the two topmost ones
  pub binary_does : (i : Instr) (f : Value → Value → Result Value Stop) → ((a : Activation) → row c.subject c.numbers a i ≡ OfValues (λ v w. gives (f v w))) → (v w : Value) → D (one i) (Datum w ∷ (Datum v ∷ [])) (checked (f v w)) datum
  binary_does i f is v w = value_does i (Datum w ∷ (Datum v ∷ [])) (λ r. f v w) datum (λ r x is. tt)
      (λ at turned old r below same. ap (λ x. by_row c.subject c.numbers c.code x (Datum w ∷ (Datum v ∷ below)) (M at (Datum w ∷ (Datum v ∷ below)) turned (F old r))) (is (M at (Datum w ∷ (Datum v ∷ below)) turned (F old r)).active))

  -- the ordinal of a value, as an integer
  pub ord_does : (v : Value) → D (one op.Ord) (datum v) (checked (ordinal_of v)) int_item
  unfolding row required_value
  ord_does v = value_does op.Ord (datum v) (λ r. ordinal_of v) int_item (λ r i is. tt) (λ at turned old r below same. by at turned old r below (ordinal_of v))
    where
      by : (at : ℕ) (turned : Bool) (old : List Value) (r : Running Logged) (below : List Item) (o : Result ℤ Stop) → goes_on (gives (o >>> λ i. Ok (pascal.Int i)) (F old r)) below (M at (Datum v ∷ below) turned (F old r)) ≡ goes_on (and_then (checked_at o (F old r)) (λ i. pure (int_item i))) below (M at (Datum v ∷ below) turned (F old r))
      by at turned old r below (Ok i) = refl
      by at turned old r below (Err e) = refl

  -- a value, and what is computed of it
  pub of_does : (i : Instr) (f : Value → Result Value Stop) → ((a : Activation) → row c.subject c.numbers a i ≡ OfValue (λ v. gives (f v))) → (p : Piece) (x : Step Logged Value) → D p [] x datum → D (p ⨾ one i) [] (x >>= λ v. checked (f v)) datum
  of_does i f is p x h = then_does c p (one i) [] x (λ v. checked (f v)) datum datum h (λ v named. unary_does i f is v)

  -- a value above another one
  pub above_does : (p : Piece) (x : Step Logged Value) (more : List Item) → AreNamed c more → D p [] x datum → D p more x (λ v. Datum v ∷ more)
  above_does p x more named h = under_does c p [] more x datum named h

  pub both_does : (i : Instr) (f : Value → Value → Result Value Stop) → ((a : Activation) → row c.subject c.numbers a i ≡ OfValues (λ v w. gives (f v w))) → (p q : Piece) (x y : Step Logged Value) → D p [] x datum → D q [] y datum → D (p ⨾ q ⨾ one i) [] (both f x y) datum
  both_does i f is p q x y h k = then_does c p (q ⨾ one i) [] x (λ v. y >>= λ w. checked (f v w)) datum datum h
      (λ v named. then_does c q (one i) (datum v) y (λ w. checked (f v w)) (λ w. Datum w ∷ datum v) datum (above_does q y (datum v) tt k)
      (λ w named. binary_does i f is v w))

  -- ---- places

  pub load_does : (p : Place) → IsNamed c.counts p → D (one op.Load) (spot p) (load Logged on_log p) datum
  unfolding load row
  load_does p named = value_does op.Load (spot p) (λ r. known (held Logged on_log p r)) datum (λ r v is. tt)
      (λ at turned old r below same. ap (λ o. goes_on (and_then (checked_at (known o) (F old r)) (λ v. leaves (Datum v))) below (M at (Spot p ∷ below) turned (F old r)))
      (held_joined p (c.callers ++ old ∷ []) r (subst (λ ns. IsNamed ns p) (sym same) named)))

  -- what is put at a place
  put_does : (p : Place) (v : Value) (i : Instr) (taken : List Item) (at : ℕ) (turned : Bool) (old : List Value) (r : Running Logged) (below : List Item) → outline r.frames ≡ c.counts → IsNamed c.counts p
      → result i (taken ++ below) at turned old r ≡ goes_on (and_then (put Logged on_log p v (F old r)) (λ done. pure [])) below (M at (taken ++ below) turned (F old r))
      → Does1 c i taken no_item at turned old r below (put Logged on_log p v r)
  unfolding put
  put_does (In f x way) v i taken at turned old r below same named h = (
    h ∙ ap (λ frames. Goes (M (suc at) below turned (record r { frames = frames }))) (put_joined f x way v (c.callers ++ old ∷ []) r.frames (subst (λ ns. IsNamed ns (In f x way)) (sym same) named)),
    outline_kept f x way v r.frames (subst (λ ns. IsNamed ns (In f x way)) (sym same) named) ∙ same,
    omega arith,
    tt,
  )
  put_does (Of p x way) v i taken at turned old r below same named h = by (map.get r.state.image.instances p) h
    where
      -- where the value may be stored
      chosen : Bool → Running Logged → StepResult Logged (Unit {0})
      chosen b q = cond b (Ok (tt, record q { state = on_log.keeps p (Store x way v) q.state })) (Err (Broken, q.left))

      there : (b : Bool) → result i (taken ++ below) at turned old r ≡ goes_on (and_then (chosen b (F old r)) (λ done. pure [])) below (M at (taken ++ below) turned (F old r))
          → Does1 c i taken no_item at turned old r below (chosen b r)
      there true h = (h, same, omega arith, tt)
      there false h = h

      by : (o : Option Instance) → result i (taken ++ below) at turned old r ≡ goes_on (and_then (put_in_instance Logged on_log o p x way v (F old r)) (λ done. pure [])) below (M at (taken ++ below) turned (F old r))
          → Does1 c i taken no_item at turned old r below (put_in_instance Logged on_log o p x way v r)
      by None h = h
      by (Some instance) h = there (may_store (r.state.image.types instance.body) x way v) h

  pub store_does : (k : ℕ) (t : Denoter) → shape_numbered c.numbers k ≡ Some (shape_of t) → (p : Place) (v : Value) → IsNamed c.counts p → D (one (op.Store k)) (Datum v ∷ spot p) (store Logged on_log t p v) no_item
  unfolding store row
  store_does k t is p v named = instr_does c (op.Store k) (Datum v ∷ spot p) (store Logged on_log t p v) no_item
      (λ at turned old r below same. by at turned old r below same (held Logged on_log p r) (stopping (assignable (shape_of t) v))
      (ap (λ o. goes_on (nothing (store_as o p v) (F old r)) below (M at (Datum v ∷ (Spot p ∷ below)) turned (F old r))) is
      ∙ ap (λ g. goes_on (nothing (tested g (stopping (assignable (shape_of t) v))) (F old r)) below (M at (Datum v ∷ (Spot p ∷ below)) turned (F old r))) (held_joined p (c.callers ++ old ∷ []) r (subst (λ ns. IsNamed ns p) (sym same) named))))
    where
      -- where its instance is there, and it may be assigned
      tested : Result (Option Value) Stop → Result (Unit {0}) Stop → Do Logged
      tested g o = checked g >> checked o >> put Logged on_log p v

      by : (at : ℕ) (turned : Bool) (old : List Value) (r : Running Logged) (below : List Item) → outline r.frames ≡ c.counts → (g : Result (Option Value) Stop) (o : Result (Unit {0}) Stop)
          → result (op.Store k) (Datum v ∷ (Spot p ∷ below)) at turned old r ≡ goes_on (nothing (tested g o) (F old r)) below (M at (Datum v ∷ (Spot p ∷ below)) turned (F old r))
          → Does1 c (op.Store k) (Datum v ∷ spot p) no_item at turned old r below (tested g o r)
      by at turned old r below same (Err e) o h = h
      by at turned old r below same (Ok there) (Err e) h = h
      by at turned old r below same (Ok there) (Ok done) h = put_does p v (op.Store k) (Datum v ∷ spot p) at turned old r below same named h

  -- what stands at a place is made unset
  pub blank_does : (p : Place) → IsNamed c.counts p → D (one op.Blank) (spot p) (blank_at Logged on_log p) no_item
  unfolding blank_at row
  blank_does p named = instr_does c op.Blank (spot p) (blank_at Logged on_log p) no_item
      (λ at turned old r below same. by at turned old r below same (held Logged on_log p r)
      (ap (λ g. goes_on (nothing (checked g >>= blank_there Logged on_log p) (F old r)) below (M at (Spot p ∷ below) turned (F old r))) (held_joined p (c.callers ++ old ∷ []) r (subst (λ ns. IsNamed ns p) (sym same) named))))
    where
      by : (at : ℕ) (turned : Bool) (old : List Value) (r : Running Logged) (below : List Item) → outline r.frames ≡ c.counts → (g : Result (Option Value) Stop)
          → result op.Blank (Spot p ∷ below) at turned old r ≡ goes_on (nothing (checked g >>= blank_there Logged on_log p) (F old r)) below (M at (Spot p ∷ below) turned (F old r))
          → Does1 c op.Blank (spot p) no_item at turned old r below ((checked g >>= blank_there Logged on_log p) r)
      by at turned old r below same (Err e) h = h
      by at turned old r below same (Ok None) h = h
      by at turned old r below same (Ok (Some v)) h = put_does p (blanked v) op.Blank (spot p) at turned old r below same named h
