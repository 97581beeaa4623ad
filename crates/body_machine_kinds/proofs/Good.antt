-- What kinds say of an instruction is so of its row.
use Rattle.std.proofs.Common.{◌≡◌, ◌∙◌, refl, sym, ap, ap₂, subst, ℕ, suc, Bool, true, false, ◌&&◌, cond, List, [], ◌∷◌, length, map, reverse, Option, Some, None, ℤ, Result, Ok, Err, arith}
use Rattle.std.specs.Prelude.{IsTrue, slice_get, nat_lt, nat_abs, ◌-ℤ◌, ◌^◌}
use Rattle.std.specs.List.{list_all}
use Rattle.std.proofs.lemmas.Bool.Decides.{nat_tests}
use Rattle.std.proofs.lemmas.Int.{ints}
use Rattle.pascal_values.specs.declared.fault.Fault.{Fault}
use Rattle.pascal_values.specs.declared.fault.Fault.TheVariants as fault
use Rattle.pascal_values.specs.declared.value.Value.{Value, out-Value}
use Rattle.pascal_values.specs.declared.value.Value.TheVariants as value
use Rattle.pascal_values.specs.declared.value.Value.TheOpen.{Value-F}
use Rattle.pascal_values.specs.declared.value.Shape.{Shape, out-Shape}
use Rattle.pascal_values.specs.declared.value.Shape.TheOpen.{Shape-F}
use Rattle.pascal_values.specs.Integers.{is_between}
use Rattle.pascal_values.specs.Shapes.{item_count, placed, place_of}
use Rattle.estelle_tree.specs.declared.tree.expression.Relation.{Relation}
use Rattle.estelle_tree.specs.declared.tree.expression.Relation.TheVariants as relation
use Rattle.estelle_tree.specs.Paths.{Path}
use Rattle.body_code.specs.declared.instr.Ends.TheVariants as ends
use Rattle.body_code.specs.declared.instr.Instr.{Instr}
use Rattle.body_code.specs.declared.unit.Entry.TheVariants as entry
use Rattle.body_code.specs.declared.unit.Local.{Local}
use Rattle.body_code.specs.declared.unit.CodeUnit.{CodeUnit}
use Rattle.body_code.specs.Units.{unit_of}
use Rattle.estelle_model.specs.declared.denoter.Denoter.{Denoter}
use Rattle.estelle_model.specs.declared.place.Place.{Place}
use Rattle.estelle_model.specs.declared.meaning.InteractionKind.{InteractionKind}
use Rattle.estelle_model.specs.Types.{shape_of, assignable}
use Rattle.estelle_model.specs.Operators.{int_at, int_of}
use Rattle.estelle_model.specs.Stops.{Stop, Faults, Broken, stopping}
use Rattle.estelle_model.specs.States.{Logged, on_log}
use Rattle.estelle_model.specs.Steps.{Running, Do, and_then, checked_at}
use Rattle.estelle_model.specs.Places.{deeper, load, blank_at, child_step}
use Rattle.estelle_model.specs.Expressions.{reference_at}
use Rattle.estelle_model.specs.Subject.{Subject, child_of}
use Rattle.body_numbers.specs.declared.numbers.Numbers.{Numbers}
use Rattle.body_numbers.specs.Numbers.{shape_numbered, export_numbered, word_of, interaction_of}
use Rattle.body_machine.specs.declared.item.Item.{Item}
use Rattle.body_machine.specs.declared.item.Item.TheVariants.{Datum, Spot}
use Rattle.body_machine.specs.declared.operators.Unary.{Unary}
use Rattle.body_machine.specs.declared.operators.Unary.TheVariants as unary
use Rattle.body_machine.specs.declared.operators.Binary.{Binary}
use Rattle.body_machine.specs.declared.operators.Binary.TheVariants as binary
use Rattle.body_machine.specs.Operations.{unary_value, binary_value}
use Rattle.body_machine.specs.Machine.{Activation}
use Rattle.body_machine.specs.Ends.{output_with}
use Rattle.body_machine.specs.Slots.{reference_number}
use Rattle.body_machine.specs.Rows.{Row, Nullary, OfValue, OfPlace, OfValues, OfBoth, OfMany, Calls, Begins, leaves, gives, nothing, by_export, store_as, computing, combining, storing, fitting, referring, exporting, acting, sending, row}
use Rattle.body_kinds.specs.Kinds.{Kind, Integer, Boolean, Character, Enumerated, Members, PlaceOf, is_of_at, is_of, is_of_values, simple_kind_at, simple_kind, kind_of, part_in, StoresInto}
use Rattle.body_kinds.specs.Kinded.{Table, Claims, variable_shape, HasHeader, given_kinds, value_kinds, TakesArguments, MayCall, Leaves, push, var, loc, ref, exp, field, index, load as loading, store, fit, blank, neg, abs, sqr, odd, chr, ord, successor, predecessor, negated, add, sub, mul, div, mod_, eq, ne, lt, le, gt, ge, empty, one, span, unite, meet, minus, has, call, init, release, connect, disconnect, attach, detach, output}
use Rattle.body_machine_kinds.specs.Typed.{Bodies, Frames, value_shapes, MayBeHeld, IsPlaceOf, HaveKinds, IsRunning, with_own, IsUnit}
use Rattle.body_machine_kinds.specs.Laws.{asks_more}
use Rattle.body_machine_kinds.proofs.Values.{Gives, int_operand, neg_gives, abs_gives, sqr_gives, odd_gives, chr_gives, not_gives, ord_gives, succ_gives, pred_gives, one_gives, plus_gives, difference_gives, times_gives, div_gives, mod_gives, unite_gives, minus_gives, meet_gives, span_gives, has_gives, compare_gives, is_membership}
use Rattle.body_machine_kinds.proofs.Places.{Safely, safely_then, child_held, Stays, loads, stores, blanks}
use Rattle.body_machine_kinds.proofs.Plans.{loosen, connects, disconnects, disconnects_child, attaches, detaches, releases, outputs}
use Rattle.body_machine_kinds.proofs.Items.{kind_of_values, ordinal_of_values, compared_of_values, added_of_values, get_last, AreOf, place_deeper, reference_there, slot_there}

-- ---- lemmas on operands

simple_is : (v : Value) (k : Kind) → simple_kind v ≡ Some k → is_of k v ≡ true
simple_is v k h = by (out-Value v) refl h
  where
    set : (ns : List ℕ) (b : Bool) → out-Value v ≡ Value-F.Set ns → is_of_at Members v (Value-F.Set ns) ≡ b → cond b (Some Members) None ≡ Some k → is_of k v ≡ true
    set ns true e f g = let is : Members ≡ k = cc in subst (λ (j : Kind). is_of j v ≡ true) is (ap (is_of_at Members v) e ∙ f)
    set ns false e f g = absurd (cc)

    by : (o : Value-F Value) → out-Value v ≡ o → simple_kind_at o ≡ Some k → is_of k v ≡ true
    by (Value-F.Int n) e g = let is : Integer ≡ k = cc in subst (λ (j : Kind). is_of j v ≡ true) is (ap (is_of_at Integer v) e)
    by (Value-F.Bool n) e g = let is : Boolean ≡ k = cc in subst (λ (j : Kind). is_of j v ≡ true) is (ap (is_of_at Boolean v) e)
    by (Value-F.Char n) e g = let is : Character ≡ k = cc in subst (λ (j : Kind). is_of j v ≡ true) is (ap (is_of_at Character v) e)
    by (Value-F.Enum n) e g = let is : Enumerated ≡ k = cc in subst (λ (j : Kind). is_of j v ≡ true) is (ap (is_of_at Enumerated v) e)
    by (Value-F.Set ns) e g = set ns _ e refl g
    by _ e g = absurd (cc)

near : (low high n : ℤ) → is_between low high n ≡ true → nat_lt (nat_abs (n -ℤ low)) (item_count low high) ≡ true
near low high n h = grind (arith, nat_tests, ints)

place_within : (low high n : ℤ) (k : ℕ) → place_of low high n ≡ Ok k → nat_lt k (item_count low high) ≡ true
place_within low high n k h = by (is_between low high n) refl h
  where
    small : (b : Bool) → is_between low high n ≡ true → cond b (Ok (nat_abs (n -ℤ low))) (Err fault.Index) ≡ Ok k → nat_lt k (item_count low high) ≡ true
    small true e g = let is : nat_abs (n -ℤ low) ≡ k = cc in subst (λ (j : ℕ). nat_lt j (item_count low high) ≡ true) is (near low high n e)
    small false e g = absurd (cc)

    by : (b : Bool) → is_between low high n ≡ b → cond b (placed (nat_abs (n -ℤ low))) (Err fault.Index) ≡ Ok k → nat_lt k (item_count low high) ≡ true
    by true e g = small (nat_lt (nat_abs (n -ℤ low)) (2 ^ 32)) e g
    by false e g = absurd (cc)

pub each_of_values : (types : List Denoter) → list_all is_of_values (map (λ t. kind_of (shape_of t)) types) ≡ true
each_of_values [] = refl
each_of_values (t ∷ types) = ap₂ (λ (a b : Bool). a && b) (kind_of_values (shape_of t)) (each_of_values types)

pub length_kinds : (types : List Denoter) → length (map (λ t. kind_of (shape_of t)) types) ≡ length types
length_kinds [] = refl
length_kinds (t ∷ types) = ap (λ (n : ℕ). suc n) (length_kinds types)

module _ (s : Subject) (n : Numbers) (code : List CodeUnit) (claims : Claims) (bodies : Bodies) (frames : Frames) where
  -- items of these kinds are left, and all is as it has to be
  abbrev pub Left : List Kind → List Item → Running Logged → Type 0
  Left ks items r = HaveKinds s bodies frames ks items × IsRunning s bodies frames r

  -- a row that takes and leaves items of these kinds
  abbrev pub IsGood : (body : ℕ) (closed : Bool) → (may : Bool) → Row → (taken left : List Kind) → Type 0
  IsGood body closed may (Nullary p) taken left = (taken ≡ []) × ((r : Running Logged) → IsRunning s bodies frames r → Safely may (Left left) (p r))
  IsGood body closed may (OfValue f) taken left = (k : Kind) × (taken ≡ k ∷ []) × (is_of_values k ≡ true) × ((v : Value) (r : Running Logged) → is_of k v ≡ true → IsRunning s bodies frames r → Safely false (Left left) (f v r))
  IsGood body closed may (OfPlace f) taken left = (shape : Shape) × (taken ≡ PlaceOf shape ∷ []) × ((p : Place) (r : Running Logged) → IsPlaceOf s bodies frames shape p → IsRunning s bodies frames r → Safely false (Left left) (f p r))
  IsGood body closed may (OfValues f) taken left = (j : Kind) × (k : Kind) × (taken ≡ k ∷ j ∷ []) × (is_of_values j ≡ true) × (is_of_values k ≡ true)
      × ((v w : Value) (r : Running Logged) → is_of j v ≡ true → is_of k w ≡ true → IsRunning s bodies frames r → Safely false (Left left) (f v w r))
  IsGood body closed may (OfBoth f) taken left = (k : Kind) × (shape : Shape) × (taken ≡ k ∷ PlaceOf shape ∷ []) × (is_of_values k ≡ true)
      × ((p : Place) (v : Value) (r : Running Logged) → IsPlaceOf s bodies frames shape p → is_of k v ≡ true → IsRunning s bodies frames r → Safely false (Left left) (f p v r))
  IsGood body closed may (OfMany count f) taken left = (ks : List Kind) × (taken ≡ reverse ks) × (count ≡ length ks) × IsTrue (list_all is_of_values ks)
      × ((vs : List Value) (r : Running Logged) → AreOf s bodies frames ks vs → IsRunning s bodies frames r → Safely may (Left left) (f vs r))
  IsGood body closed may (Calls of_body routine count) taken left = (unit : CodeUnit) × (unit_of code of_body (entry.Routine routine) ≡ Some unit) × MayCall s n code claims body closed of_body routine × TakesArguments count unit
      × (taken ≡ given_kinds count unit.locals) × (left ≡ (claims of_body (entry.Routine routine)).result)
  IsGood body closed may (Begins modvar of_body count) taken left = (unit : CodeUnit) × (may ≡ true) × (closed ≡ false) × (unit_of code of_body entry.Initialize ≡ Some unit)
      × (count ≡ length (child_of s of_body).parameters) × (taken ≡ value_kinds (child_of s of_body).parameters) × (left ≡ [])
  IsGood body closed may _ taken left = ⊥

  abbrev Good : Running Logged → Type 0
  Good r = IsRunning s bodies frames r

  -- a value that is computed
  gives_left : (k : Kind) (x : Result Value Stop) (r : Running Logged) → Gives k x → Good r → Safely false (Left (k ∷ [])) (gives x r)
  gives_left k (Ok v) r g h = ((g, tt), h)
  gives_left k (Err (Faults f)) r g h = tt
  gives_left k (Err Broken) r g h = absurd g

  -- a statement
  nothing_left : (may : Bool) (p : Do Logged) (r : Running Logged) → Safely may (Stays s bodies frames) (p r) → Safely may (Left []) (nothing p r)
  nothing_left may p r h = safely_then may (Stays s bodies frames) (Left []) (p r) _ h (λ a t i. (tt, i))

  module _ (body : ℕ) (closed may : Bool) where
    abbrev Well : Row → List Kind → List Kind → Type 0
    Well x taken left = IsGood body closed may x taken left

    computed : (o : Unary) (j k : Kind) → is_of_values j ≡ true → ((v : Value) → is_of j v ≡ true → Gives k (unary_value o v)) → Well (computing o) (j ∷ []) (k ∷ [])
    computed o j k e g = (j, refl, e, λ v r i h. gives_left k (unary_value o v) r (g v i) h)

    combined : (o : Binary) (i j k : Kind) → is_of_values i ≡ true → is_of_values j ≡ true → ((v w : Value) → is_of i v ≡ true → is_of j w ≡ true → Gives k (binary_value o v w)) → Well (combining o) (j ∷ i ∷ []) (k ∷ [])
    combined o i j k e f g = (i, j, refl, e, f, λ v w r x y h. gives_left k (binary_value o v w) r (g v w x y) h)

    compared : (o : Relation) (k : Kind) → is_membership o ≡ false → is_of_values k ≡ true → Well (combining (binary.Compare o)) (k ∷ k ∷ []) (Boolean ∷ [])
    compared o k m e = combined (binary.Compare o) k k Boolean e e (λ v w x y. compare_gives o m v w)

    stored : (o : Option Shape) (outer shape : Shape) → o ≡ Some outer → StoresInto outer shape → Well (storing o) (kind_of shape ∷ PlaceOf shape ∷ []) []
    stored o outer shape e inner = subst (λ (x : Option Shape). Well (storing x) (kind_of shape ∷ PlaceOf shape ∷ []) []) (sym e)
        (kind_of shape, shape, refl, kind_of_values shape, λ p v r is i h. nothing_left false (store_as (Some outer) p v) r (stores s bodies frames outer shape p v r inner h is i))

    fitted : (o : Option Shape) (shape : Shape) → o ≡ Some shape → Well (fitting o) (kind_of shape ∷ []) (kind_of shape ∷ [])
    fitted o shape e = subst (λ (x : Option Shape). Well (fitting x) (kind_of shape ∷ []) (kind_of shape ∷ [])) (sym e) (kind_of shape, refl, kind_of_values shape, λ v r i h. by v r i h (assignable shape v))
      where
        by : (v : Value) (r : Running Logged) → is_of (kind_of shape) v ≡ true → Good r → (x : Result (Unit {0}) Fault) → Safely false (Left (kind_of shape ∷ [])) (and_then (checked_at (stopping x) r) (λ ok. leaves (Datum v)))
        by v r i h (Ok a) = ((i, tt), h)
        by v r i h (Err f) = tt

    blanked : (shape : Shape) → Well (OfPlace (λ p. nothing (blank_at Logged on_log p))) (PlaceOf shape ∷ []) []
    blanked shape = (shape, refl, λ p r is h. nothing_left false (blank_at Logged on_log p) r (blanks s bodies frames shape p r h is))

    loaded : (shape : Shape) → Well (OfPlace (λ p r. and_then (load Logged on_log p r) (λ v. leaves (Datum v)))) (PlaceOf shape ∷ []) (kind_of shape ∷ [])
    loaded shape = (shape, refl, λ p r is h. safely_then false (λ v t. (is_of (kind_of shape) v ≡ true) × Good t) (Left (kind_of shape ∷ [])) (load Logged on_log p r) (λ v. leaves (Datum v)) (loads s bodies frames shape p r h is) (λ v t i. ((i.0, tt), i.1)))

    acted : (p : Do Logged) → ((r : Running Logged) → Good r → Safely may (Stays s bodies frames) (p r)) → Well (acting p) [] []
    acted p h = (refl, λ r g. nothing_left may p r (h r g))

    -- an index is an integer, and tests its bounds
    indexed : (low high : ℤ) (shape item : Shape) (p : Place) (v : Value) (r : Running Logged) → out-Shape shape ≡ Shape-F.Array low high item → IsPlaceOf s bodies frames shape p → is_of Integer v ≡ true → Good r
        → Safely false (Left (PlaceOf item ∷ [])) (and_then (checked_at (int_of v) r) (λ i. λ t. and_then (checked_at (stopping (place_of low high i)) t) (λ k. leaves (Spot (deeper p k)))))
    indexed low high shape item p v r e is i h =
        let o = int_operand v i in
        subst (λ (x : Value-F Value). Safely false (Left (PlaceOf item ∷ [])) (and_then (checked_at (int_at x) r) (λ i. λ t. and_then (checked_at (stopping (place_of low high i)) t) (λ k. leaves (Spot (deeper p k)))))) (sym o.1)
        (by (place_of low high o.0) refl)
      where
        by : (x : Result ℕ Fault) → place_of low high (int_operand v i).0 ≡ x → Safely false (Left (PlaceOf item ∷ [])) (and_then (checked_at (stopping x) r) (λ k. leaves (Spot (deeper p k))))
        by (Ok k) f = ((place_deeper s bodies frames shape item k p (ap (λ (os : Shape-F Shape). part_in os k) e ∙ ap (λ (b : Bool). cond b (Some item) None) (place_within low high (int_operand v i).0 k f)) is, tt), h)
        by (Err f) g = tt

    -- an export of a child
    exported : (p : Path) (modvar variable : ℕ) (o : Option ℕ) (shape : Shape) → bodies p ≡ Some body → o ≡ Some variable → ((k : ℕ) → HasHeader s body modvar k → variable_shape s k variable ≡ Some shape) → Well (exporting p modvar o) [] (PlaceOf shape ∷ [])
    exported p modvar variable o shape home e shapes = subst (λ (x : Option ℕ). Well (exporting p modvar x) [] (PlaceOf shape ∷ [])) (sym e) (
      refl,
      λ r h. loosen may (Left (PlaceOf shape ∷ [])) _ (safely_then false (λ c t. MayBeHeld s bodies body modvar c × (t ≡ r)) (Left (PlaceOf shape ∷ [])) (child_step Logged on_log p modvar r) (by_export (Some variable)) (child_held s bodies body p modvar r h.state home)
          (λ c t i. ((record { body = i.0.of_body; is = i.0.is; variable = shape; declared = shapes i.0.of_body i.0.header; part = refl }, tt), subst Good (sym i.1) h))),
    )

    referred : (locals : List Local) (places : List Place) (k : ℕ) (l : Local) → slice_get locals k ≡ Some l → l.by_ref ≡ true → (p : Place) × (slice_get places (reference_number locals k) ≡ Some p) × IsPlaceOf s bodies frames l.shape p → Well (referring places (reference_number locals k)) [] (PlaceOf l.shape ∷ [])
    referred locals places k l e f x = subst (λ (o : Option Place). Well (Nullary (λ r. and_then (checked_at (reference_at o) r) (λ p. leaves (Spot p)))) [] (PlaceOf l.shape ∷ [])) (sym x.1) (refl, λ r h. ((x.2, tt), h))

    sent : (p : Path) (ip count : ℕ) (w : Option (List ℕ)) (k : Option InteractionKind) (word : List ℕ) (kind : InteractionKind) → may ≡ true → bodies p ≡ Some body → w ≡ Some word → k ≡ Some kind → count ≡ length kind.parameters → Well (sending count (output_with s p ip w k)) (value_kinds kind.parameters) []
    sent p ip count w k word kind m home e f many = subst (λ (x : Option (List ℕ)). Well (sending count (output_with s p ip x k)) (value_kinds kind.parameters) []) (sym e)
        (subst (λ (x : Option InteractionKind). Well (sending count (output_with s p ip (Some word) x)) (value_kinds kind.parameters) []) (sym f) (
          map (λ t. kind_of (shape_of t)) kind.parameters,
          refl,
          many ∙ sym (length_kinds kind.parameters),
          each_of_values kind.parameters,
          λ vs r a h. nothing_left may (output_with s p ip (Some word) (Some kind) vs) r (subst (λ (b : Bool). Safely b (Stays s bodies frames) (output_with s p ip (Some word) (Some kind) vs r)) (sym m) (outputs s bodies frames body p home ip word kind vs r h)),
        ))

-- ---- one line an opcode

module _ (s : Subject) (n : Numbers) (code : List CodeUnit) (claims : Claims) (bodies : Bodies) (lower : Frames) (a : Activation) (t : Table) (u : IsUnit s n code claims bodies lower a t) where
  abbrev frames : Frames
  frames = with_own s n code claims lower a

  pub good : (i : Instr) (taken left : List Kind) → Leaves s n code claims a.body t.closed a.unit.locals i taken left → IsGood s n code claims bodies frames a.body t.closed (asks_more i) (row s n a i) taken left
  unfolding row
  good _ _ _ (push v k e) = (refl, λ r h. ((simple_is v k e, tt), h))
  good _ _ _ (var k shape c e) = (refl, λ r h. ((record { body = a.body; is = u.home c; variable = shape; declared = e; part = refl }, tt), h))
  good _ _ _ (loc k l e f) = (refl, λ r h. ((record { shapes = value_shapes a.unit.locals; is = ap (slice_get frames) u.frame ∙ get_last lower (value_shapes a.unit.locals); variable = l.shape; declared = slot_there a.unit.locals k l e f; part = refl }, tt), h))
  good _ _ _ (ref k l e f) = referred s n code claims bodies frames a.body t.closed false a.unit.locals a.here.references k l e f (reference_there s bodies frames a.unit.locals a.here.references k l u.references e f)
  good _ _ _ (exp modvar export shape c x) = exported s n code claims bodies frames a.body t.closed false a.here.path modvar x.variable (export_numbered n a.body modvar export) shape (u.home c) x.is x.shapes
  good _ _ _ (field k shape part fields e f) = (shape, refl, λ p r is h. ((place_deeper s bodies frames shape part k p (ap (λ (os : Shape-F Shape). part_in os k) e ∙ f) is, tt), h))
  good _ _ _ (index low high shape item e) = (Integer, shape, refl, refl, λ p v r is i h. indexed s n code claims bodies frames a.body t.closed false low high shape item p v r e is i h)
  good _ _ _ (loading shape) = loaded s n code claims bodies frames a.body t.closed false shape
  good _ _ _ (store k outer shape e inner) = stored s n code claims bodies frames a.body t.closed false (shape_numbered n k) outer shape e inner
  good _ _ _ (fit k shape e) = fitted s n code claims bodies frames a.body t.closed false (shape_numbered n k) shape e
  good _ _ _ (blank shape) = blanked s n code claims bodies frames a.body t.closed false shape
  good _ _ _ neg = computed s n code claims bodies frames a.body t.closed false unary.Neg Integer Integer refl neg_gives
  good _ _ _ abs = computed s n code claims bodies frames a.body t.closed false unary.Abs Integer Integer refl abs_gives
  good _ _ _ sqr = computed s n code claims bodies frames a.body t.closed false unary.Sqr Integer Integer refl sqr_gives
  good _ _ _ odd = computed s n code claims bodies frames a.body t.closed false unary.Odd Integer Boolean refl odd_gives
  good _ _ _ chr = computed s n code claims bodies frames a.body t.closed false unary.Chr Integer Character refl chr_gives
  good _ _ _ (ord k o) = computed s n code claims bodies frames a.body t.closed false unary.Ord k Integer (ordinal_of_values k o) (ord_gives k o)
  good _ _ _ (successor k o) = computed s n code claims bodies frames a.body t.closed false unary.Succ k k (ordinal_of_values k o) (succ_gives k o)
  good _ _ _ (predecessor k o) = computed s n code claims bodies frames a.body t.closed false unary.Pred k k (ordinal_of_values k o) (pred_gives k o)
  good _ _ _ negated = computed s n code claims bodies frames a.body t.closed false unary.Not Boolean Boolean refl not_gives
  good _ _ _ (add k o) = combined s n code claims bodies frames a.body t.closed false binary.Plus k k k (added_of_values k o) (added_of_values k o) (plus_gives k o)
  good _ _ _ (sub k o) = combined s n code claims bodies frames a.body t.closed false binary.Minus k k k (added_of_values k o) (added_of_values k o) (difference_gives k o)
  good _ _ _ (mul k o) = combined s n code claims bodies frames a.body t.closed false binary.Times k k k (added_of_values k o) (added_of_values k o) (times_gives k o)
  good _ _ _ div = combined s n code claims bodies frames a.body t.closed false binary.Div Integer Integer Integer refl refl div_gives
  good _ _ _ mod_ = combined s n code claims bodies frames a.body t.closed false binary.Mod Integer Integer Integer refl refl mod_gives
  good _ _ _ (eq k o) = compared s n code claims bodies frames a.body t.closed false relation.Equal k refl (compared_of_values k o)
  good _ _ _ (ne k o) = compared s n code claims bodies frames a.body t.closed false relation.NotEqual k refl (compared_of_values k o)
  good _ _ _ (lt k o) = compared s n code claims bodies frames a.body t.closed false relation.Less k refl (ordinal_of_values k o)
  good _ _ _ (le k o) = compared s n code claims bodies frames a.body t.closed false relation.AtMost k refl (compared_of_values k o)
  good _ _ _ (gt k o) = compared s n code claims bodies frames a.body t.closed false relation.Greater k refl (ordinal_of_values k o)
  good _ _ _ (ge k o) = compared s n code claims bodies frames a.body t.closed false relation.AtLeast k refl (compared_of_values k o)
  good _ _ _ empty = (refl, λ r h. ((ap (is_of_at Members (value.Set [])) (value.outs-Set []), tt), h))
  good _ _ _ (one k o) = computed s n code claims bodies frames a.body t.closed false unary.One k Members (ordinal_of_values k o) (one_gives k o)
  good _ _ _ (span k o) = combined s n code claims bodies frames a.body t.closed false binary.Span Integer k Members refl (ordinal_of_values k o) (span_gives k o)
  good _ _ _ unite = combined s n code claims bodies frames a.body t.closed false binary.Plus Members Members Members refl refl unite_gives
  good _ _ _ meet = combined s n code claims bodies frames a.body t.closed false binary.Times Members Members Members refl refl meet_gives
  good _ _ _ minus = combined s n code claims bodies frames a.body t.closed false binary.Minus Members Members Members refl refl minus_gives
  good _ _ _ (has k o) = combined s n code claims bodies frames a.body t.closed false (binary.Compare relation.Member) k Members Boolean (ordinal_of_values k o) refl (has_gives k o)
  good _ _ _ (call of_body routine count unit e may takes) = (unit, e, may, takes, refl, refl)
  good _ _ _ (init modvar of_body count unit c e many) = (unit, refl, c, e, many, refl, refl)
  good _ _ _ (release modvar c) = acted s n code claims bodies frames a.body t.closed false _ (releases s bodies frames a.body a.here.path (u.home c) modvar)
  good _ _ _ (connect x y c) = acted s n code claims bodies frames a.body t.closed true _ (connects s bodies frames a.body a.here.path (u.home c) x y)
  good _ _ _ (disconnect (ends.Point x) c) = acted s n code claims bodies frames a.body t.closed true _ (disconnects s bodies frames a.body a.here.path (u.home c) x)
  good _ _ _ (disconnect (ends.Child m) c) = acted s n code claims bodies frames a.body t.closed false _ (disconnects_child s bodies frames a.body a.here.path (u.home c) m)
  good _ _ _ (attach upper lower c) = acted s n code claims bodies frames a.body t.closed true _ (attaches s bodies frames a.body a.here.path (u.home c) upper lower)
  good _ _ _ (detach ip c) = acted s n code claims bodies frames a.body t.closed true _ (detaches s bodies frames a.body a.here.path (u.home c) ip)
  good _ _ _ (output ip interaction count word kind c e f many) = sent s n code claims bodies frames a.body t.closed true a.here.path ip count (word_of n a.body ip) (interaction_of n a.body ip interaction) word kind refl (u.home c) e f many
