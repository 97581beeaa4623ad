-- Items on stacks by their kinds: those that are taken, and those below.
use Rattle.std.proofs.Common.{◌≡◌, ◌∙◌, refl, sym, ap, ap₂, subst, ℕ, zero, suc, ◌≤◌, Bool, true, false, cond, List, [], ◌∷◌, ◌++◌, length, reverse, take, drop, Some, None, arith, append_assoc, append-nil, length-append}
use Rattle.std.specs.Prelude.{IsTrue, slice_get}
use Rattle.std.specs.List.{list_all}
use Rattle.std.specs.Option.{option_map}
use Rattle.std.proofs.lemmas.Bool.{le-leb}
use Rattle.std.proofs.lemmas.List.{take_at, drop_at, reverse-append, reverse-reverse, length-reverse}
use Rattle.pascal_values.specs.declared.value.Value.{Value}
use Rattle.pascal_values.specs.declared.value.Shape.{Shape, out-Shape}
use Rattle.pascal_values.specs.declared.value.Shape.TheOpen.{Shape-F}
use Rattle.body_code.specs.declared.unit.Local.{Local}
use Rattle.estelle_model.specs.declared.place.Place.{Place}
use Rattle.estelle_model.specs.declared.place.Place.TheVariants.{Of, In}
use Rattle.estelle_model.specs.Places.{deeper}
use Rattle.estelle_model.specs.Subject.{Subject}
use Rattle.estelle_model_legality.proofs.Lists.{and_both}
use Rattle.body_machine.specs.declared.item.Item.{Item}
use Rattle.body_machine.specs.declared.item.Item.TheVariants.{Datum, Spot}
use Rattle.body_machine.specs.Slots.{slot, reference_number, variables_in, references_in}
use Rattle.body_machine.specs.Steps.{taken_from, values_with, values_from}
use Rattle.body_kinds.specs.Kinds.{Kind, PlaceOf, is_of, is_ordinal, is_compared, is_added, is_of_values, kind_at, kind_of, part_in}
use Rattle.body_machine_kinds.specs.Typed.{Bodies, Frames, value_shapes, reference_shapes, IsPlaceOf, IsSpotOf, HasKind, HaveKinds, ArePlaces}
use Rattle.body_machine_kinds.proofs.Parts.{way_more}

-- ---- kinds of values

kind_of_values_at : (os : Shape-F Shape) (shape : Shape) → is_of_values (kind_at os shape) ≡ true
kind_of_values_at (Shape-F.Int low high) shape = refl
kind_of_values_at (Shape-F.Bool low high) shape = refl
kind_of_values_at (Shape-F.Char low high) shape = refl
kind_of_values_at (Shape-F.Enum low high) shape = refl
kind_of_values_at (Shape-F.Set low high) shape = refl
kind_of_values_at (Shape-F.Array low high item) shape = refl
kind_of_values_at (Shape-F.Fields fields) shape = refl

pub kind_of_values : (shape : Shape) → is_of_values (kind_of shape) ≡ true
kind_of_values shape = kind_of_values_at (out-Shape shape) shape

pub ordinal_of_values : (k : Kind) → IsTrue (is_ordinal k) → is_of_values k ≡ true
ordinal_of_values (PlaceOf shape) h = absurd (cc)
ordinal_of_values _ h = refl

pub compared_of_values : (k : Kind) → IsTrue (is_compared k) → is_of_values k ≡ true
compared_of_values (PlaceOf shape) h = absurd (cc)
compared_of_values _ h = refl

pub added_of_values : (k : Kind) → IsTrue (is_added k) → is_of_values k ≡ true
added_of_values (PlaceOf shape) h = absurd (cc)
added_of_values _ h = refl

-- ---- lists

pub get_more : {A : Type 0} (xs ys : List A) (k : ℕ) (x : A) → slice_get xs k ≡ Some x → slice_get (xs ++ ys) k ≡ Some x
get_more [] ys k x e = absurd (cc)
get_more (y ∷ xs) ys zero x e = e
get_more (y ∷ xs) ys (suc k) x e = get_more xs ys k x e

pub get_last : {A : Type 0} (xs : List A) (x : A) → slice_get (xs ++ x ∷ []) (length xs) ≡ Some x
get_last [] x = refl
get_last (y ∷ xs) x = get_last xs x

module _ (s : Subject) (bodies : Bodies) (frames : Frames) where
  abbrev Kinds : List Kind → List Item → Type 0
  Kinds ks items = HaveKinds s bodies frames ks items

  pub kinds_append : (ks : List Kind) (items : List Item) (js : List Kind) (more : List Item) → HaveKinds s bodies frames ks items → HaveKinds s bodies frames js more → HaveKinds s bodies frames (ks ++ js) (items ++ more)
  kinds_append [] [] js more h k = k
  kinds_append [] (i ∷ items) js more h k = absurd h
  kinds_append (x ∷ ks) [] js more h k = absurd h
  kinds_append (x ∷ ks) (i ∷ items) js more h k = (h.0, kinds_append ks items js more h.1 k)

  -- those on top, and those below
  pub record Parted (ks js : List Kind) (items : List Item) : Type 0 where
    pub top : List Item
    pub rest : List Item
    pub is : items ≡ top ++ rest
    pub topmost : HaveKinds s bodies frames ks top
    pub below : HaveKinds s bodies frames js rest

  pub parted : (ks js : List Kind) (items : List Item) → HaveKinds s bodies frames (ks ++ js) items → Parted ks js items
  parted [] js items h = record { top = []; rest = items; is = refl; topmost = tt; below = h }
  parted (k ∷ ks) js [] h = absurd h
  parted (k ∷ ks) js (i ∷ items) h = let p = parted ks js items h.1 in record { top = i ∷ p.top; rest = p.rest; is = ap (λ (l : List Item). i ∷ l) p.is; topmost = (h.0, p.topmost); below = p.below }

  pub same_length : (ks : List Kind) (items : List Item) → HaveKinds s bodies frames ks items → length items ≡ length ks
  same_length [] [] h = refl
  same_length [] (i ∷ items) h = absurd h
  same_length (k ∷ ks) [] h = absurd h
  same_length (k ∷ ks) (i ∷ items) h = ap (λ (n : ℕ). suc n) (same_length ks items h.1)

  kinds_reversed : (ks : List Kind) (items : List Item) → HaveKinds s bodies frames ks items → HaveKinds s bodies frames (reverse ks) (reverse items)
  kinds_reversed [] [] h = tt
  kinds_reversed [] (i ∷ items) h = absurd h
  kinds_reversed (k ∷ ks) [] h = absurd h
  kinds_reversed (k ∷ ks) (i ∷ items) h = subst (λ (x : List Kind). HaveKinds s bodies frames x (reverse (i ∷ items))) (sym (reverse-append (k ∷ []) ks))
      (subst (λ (x : List Item). HaveKinds s bodies frames (reverse ks ++ k ∷ []) x) (sym (reverse-append (i ∷ []) items)) (kinds_append (reverse ks) (reverse items) (k ∷ []) (i ∷ []) (kinds_reversed ks items h.1) (h.0, tt)))

  -- so many are taken from the top, the topmost last
  pub record Taken (ks js : List Kind) (count : ℕ) (items : List Item) : Type 0 where
    pub top : List Item
    pub rest : List Item
    pub is : taken_from count items ≡ Some (top, rest)
    pub topmost : HaveKinds s bodies frames ks top
    pub below : HaveKinds s bodies frames js rest

  pub taken : (ks js : List Kind) (count : ℕ) (items : List Item) → count ≡ length ks → HaveKinds s bodies frames (reverse ks ++ js) items → Taken ks js count items
  taken ks js count items many h =
      let p = parted (reverse ks) js items h in
      let long : length p.top ≡ count = same_length (reverse ks) p.top p.topmost ∙ length-reverse ks ∙ sym many in
      let more : count ≤ length (p.top ++ p.rest) = let l = length-append p.top p.rest in omega (arith, l, long) in
      record {
        top = reverse p.top;
        rest = p.rest;
        is = ap (taken_from count) p.is ∙ ap (λ (b : Bool). cond b (Some (reverse (take count (p.top ++ p.rest)), drop count (p.top ++ p.rest))) None) (le-leb count (length (p.top ++ p.rest)) more)
            ∙ ap₂ (λ (a b : List Item). Some (reverse a, b)) (take_at p.top p.rest count long) (drop_at p.top p.rest count long);
        topmost = subst (λ (x : List Kind). HaveKinds s bodies frames x (reverse p.top)) (reverse-reverse ks) (kinds_reversed (reverse ks) p.top p.topmost);
        below = p.below;
      }

  -- ---- values

  -- each value is of its kind
  abbrev pub AreOf : List Kind → List Value → Type 0
  AreOf [] [] = Unit {0}
  AreOf (k ∷ ks) (v ∷ vs) = (is_of k v ≡ true) × AreOf ks vs
  AreOf _ _ = ⊥

  no_spot : (k : Kind) (p : Place) → is_of_values k ≡ true → IsSpotOf s bodies frames k p → ⊥
  no_spot (PlaceOf shape) p v h = absurd (cc)
  no_spot _ p v h = h

  pub an_item_value : (k : Kind) (i : Item) → is_of_values k ≡ true → HasKind s bodies frames k i → (v : Value) × (i ≡ Datum v) × (is_of k v ≡ true)
  an_item_value k (Datum v) e h = (v, refl, h)
  an_item_value k (Spot p) e h = absurd (no_spot k p e h)

  pub an_item_place : (shape : Shape) (i : Item) → HasKind s bodies frames (PlaceOf shape) i → (p : Place) × (i ≡ Spot p) × IsPlaceOf s bodies frames shape p
  an_item_place shape (Datum v) h = absurd (cc)
  an_item_place shape (Spot p) h = (p, refl, h)

  values_are : (ks : List Kind) (items : List Item) (before : List Value) → IsTrue (list_all is_of_values ks) → HaveKinds s bodies frames ks items → (vs : List Value) × (values_with before items ≡ Some (before ++ vs)) × AreOf ks vs
  values_are [] [] before e h = ([], ap (λ (x : List Value). Some x) (sym (append-nil before)), tt)
  values_are [] (i ∷ items) before e h = absurd h
  values_are (k ∷ ks) [] before e h = absurd h
  values_are (k ∷ ks) (Datum v ∷ items) before e h =
      let rest = values_are ks items (before ++ v ∷ []) (and_both (is_of_values k) (list_all is_of_values ks) e).1 h.1 in
      (v ∷ rest.0, rest.1 ∙ ap (λ (x : List Value). Some x) (append_assoc before (v ∷ []) rest.0), (h.0, rest.2))
  values_are (k ∷ ks) (Spot p ∷ items) before e h = absurd (no_spot k p (and_both (is_of_values k) (list_all is_of_values ks) e).0 h.0)

  -- so many values are taken from the top
  pub record TakenValues (ks js : List Kind) (count : ℕ) (items : List Item) : Type 0 where
    pub values : List Value
    pub rest : List Item
    pub is : values_from (taken_from count items) ≡ Some (values, rest)
    pub are : AreOf ks values
    pub below : HaveKinds s bodies frames js rest

  pub taken_values : (ks js : List Kind) (count : ℕ) (items : List Item) → count ≡ length ks → IsTrue (list_all is_of_values ks) → HaveKinds s bodies frames (reverse ks ++ js) items → TakenValues ks js count items
  taken_values ks js count items many e h =
      let t = taken ks js count items many h in
      let v = values_are ks t.top [] e t.topmost in
      record { values = v.0; rest = t.rest; is = ap values_from t.is ∙ ap (option_map (λ vs. (vs, t.rest))) v.1; are = v.2; below = t.below }

  -- ---- places

  pub place_deeper : (u part : Shape) (k : ℕ) (p : Place) → part_in (out-Shape u) k ≡ Some part → IsPlaceOf s bodies frames u p → IsPlaceOf s bodies frames part (deeper p k)
  place_deeper u part k (Of p x way) e h = record { body = h.body; is = h.is; variable = h.variable; declared = h.declared; part = way_more way k h.variable u part h.part e }
  place_deeper u part k (In f x way) e h = record { shapes = h.shapes; is = h.is; variable = h.variable; declared = h.declared; part = way_more way k h.variable u part h.part e }

  place_there : (shapes : List Shape) (places : List Place) (k : ℕ) (shape : Shape) → ArePlaces s bodies frames shapes places → slice_get shapes k ≡ Some shape → (p : Place) × (slice_get places k ≡ Some p) × IsPlaceOf s bodies frames shape p
  place_there [] places k shape h e = absurd (cc)
  place_there (x ∷ shapes) [] k shape h e = absurd h
  place_there (x ∷ shapes) (p ∷ places) zero shape h e = let is : x ≡ shape = cc in (p, refl, subst (λ (y : Shape). IsPlaceOf s bodies frames y p) is h.0)
  place_there (x ∷ shapes) (p ∷ places) (suc k) shape h e = place_there shapes places k shape h.1 e

  -- what a local by reference names
  pub reference_there : (locals : List Local) (places : List Place) (k : ℕ) (l : Local) → ArePlaces s bodies frames (reference_shapes locals) places → slice_get locals k ≡ Some l → l.by_ref ≡ true
      → (p : Place) × (slice_get places (reference_number locals k) ≡ Some p) × IsPlaceOf s bodies frames l.shape p
  reference_there locals places k l h e r = place_there (reference_shapes locals) places (reference_number locals k) l.shape h (referred locals k l e r)
    where
      referred : (xs : List Local) (j : ℕ) (x : Local) → slice_get xs j ≡ Some x → x.by_ref ≡ true → slice_get (reference_shapes xs) (reference_number xs j) ≡ Some x.shape
      referred [] j x f g = absurd (cc)
      referred (y ∷ xs) zero x f g =
          let is : y ≡ x = cc in
          subst (λ (z : Local). slice_get (reference_shapes (z ∷ xs)) 0 ≡ Some x.shape) (sym is) (ap (λ (b : Bool). slice_get (cond b (x.shape ∷ []) [] ++ reference_shapes xs) 0) g)
      referred (y ∷ xs) (suc j) x f g = by y.by_ref (referred xs j x f g)
        where
          by : (b : Bool) → slice_get (reference_shapes xs) (reference_number xs j) ≡ Some x.shape → slice_get (cond b (y.shape ∷ []) [] ++ reference_shapes xs) (cond b (suc (references_in (take j xs))) (references_in (take j xs))) ≡ Some x.shape
          by true i = i
          by false i = i

-- the shape of a local that is a variable
pub slot_there : (xs : List Local) (j : ℕ) (x : Local) → slice_get xs j ≡ Some x → x.by_ref ≡ false → slice_get (value_shapes xs) (slot xs j) ≡ Some x.shape
slot_there [] j x f g = absurd (cc)
slot_there (y ∷ xs) zero x f g =
    let is : y ≡ x = cc in
    subst (λ (z : Local). slice_get (value_shapes (z ∷ xs)) 0 ≡ Some x.shape) (sym is) (ap (λ (b : Bool). slice_get (cond b [] (x.shape ∷ []) ++ value_shapes xs) 0) g)
slot_there (y ∷ xs) (suc j) x f g = by y.by_ref (slot_there xs j x f g)
  where
    by : (b : Bool) → slice_get (value_shapes xs) (slot xs j) ≡ Some x.shape → slice_get (cond b [] (y.shape ∷ []) ++ value_shapes xs) (cond b (variables_in (take j xs)) (suc (variables_in (take j xs)))) ≡ Some x.shape
    by true i = i
    by false i = i
