-- Parts of values by their shapes: what is held, read and put.
use Rattle.std.proofs.Common.{◌≡◌, ◌∙◌, refl, sym, ap, subst, ℕ, zero, suc, ◌<◌, Bool, true, false, ◌||◌, cond, List, [], ◌∷◌, ◌++◌, length, map, Option, Some, None, ℤ, Ok, Err, arith}
use Rattle.std.specs.Prelude.{slice_get, nat_lt, ◌==◌}
use Rattle.std.specs.List.{list_all}
use Rattle.std.proofs.lemmas.Bool.Decides.{nat_tests}
use Rattle.pascal_values.specs.declared.fault.Fault.TheVariants as fault
use Rattle.pascal_values.specs.declared.value.Value.{Value, out-Value, map-Value}
use Rattle.pascal_values.specs.declared.value.Value.TheVariants as value
use Rattle.pascal_values.specs.declared.value.Value.TheOpen.{Value-F}
use Rattle.pascal_values.specs.declared.value.Shape.{Shape, out-Shape, roll-Shape, map-Shape}
use Rattle.pascal_values.specs.declared.value.Shape.TheOpen.{Shape-F}
use Rattle.pascal_values.specs.declared.value.Shape.TheFolds.{ind-Shape, fold-roll-Shape}
use Rattle.pascal_values.specs.Shapes.{item_count, each_passes, is_unset, is_within, within_at, fit_of, has_ordinal}
use Rattle.pascal_values.specs.Values.{into, part_of, parts_at, with_part}
use Rattle.pascal_values.proofs.ShapeLemmas.{within_out}
use Rattle.estelle_model.specs.Belonging.{rises, belongs, belongs_at, belongs_step, part_at, into_shape, shape_at}
use Rattle.estelle_model.specs.Types.{assignable, assignable_at}
use Rattle.estelle_model.specs.Places.{blank_step, blanked}
use Rattle.estelle_model.proofs.Fitting.{belongs_out}
use Rattle.estelle_model_legality.proofs.Lists.{and_both, both_and, or_right}
use Rattle.estelle_model_legality.proofs.Belonging.{belongs_stored}
use Rattle.body_values.proofs.TypeLemmas.{blanked_out}
use Rattle.body_kinds.specs.Kinds.{Kind, Whole, is_of_at, is_of, kind_at, kind_of, part_in, shape_in, StoresInto, itself, inside}
use Rattle.body_machine_kinds.specs.Typed.{is_held_at, is_held}

-- ---- ways

part_is : (os : Shape-F Shape) (k : ℕ) (part : Shape) → part_in os k ≡ Some part → part_at os k ≡ Some part
part_is (Shape-F.Array low high item) k part h = by (nat_lt k (item_count low high)) h
  where
    by : (b : Bool) → cond b (Some item) None ≡ Some part → Some item ≡ Some part
    by true e = e
    by false e = absurd (cc)
part_is (Shape-F.Fields fields) k part h = h
part_is _ k part h = absurd (cc)

-- goes on from a part
pub on_into : (o : Option Shape) (go : Shape → Option Shape) (u : Shape) → into_shape o go ≡ Some u → (part : Shape) × (o ≡ Some part) × (go part ≡ Some u)
on_into None go u h = absurd (cc)
on_into (Some part) go u h = (part, refl, h)

pub way_is : (way : List ℕ) (shape u : Shape) → shape_in shape way ≡ Some u → shape_at shape way ≡ Some u
way_is [] shape u h = h
way_is (k ∷ way) shape u h =
    let x = on_into (part_in (out-Shape shape) k) (λ part. shape_in part way) u h in
    ap (λ (o : Option Shape). into_shape o (λ part. shape_at part way)) (part_is (out-Shape shape) k x.0 x.1) ∙ way_is way x.0 u x.2

pub way_more : (way : List ℕ) (k : ℕ) (shape u part : Shape) → shape_in shape way ≡ Some u → part_in (out-Shape u) k ≡ Some part → shape_in shape (way ++ k ∷ []) ≡ Some part
way_more [] k shape u part h e =
    let is : shape ≡ u = cc in
    ap (λ (o : Option Shape). into_shape o (λ x. Some x)) (ap (λ (x : Shape). part_in (out-Shape x) k) is ∙ e)
way_more (j ∷ way) k shape u part h e =
    let x = on_into (part_in (out-Shape shape) j) (λ y. shape_in y way) u h in
    ap (λ (o : Option Shape). into_shape o (λ y. shape_in y (way ++ k ∷ []))) x.1 ∙ way_more way k x.0 u part x.2 e

-- ---- parts of what belongs

all_at : (test : Value → Bool) (vs : List Value) (k : ℕ) → list_all test vs ≡ true → k < length vs → (v : Value) × (slice_get vs k ≡ Some v) × (test v ≡ true)
all_at test [] k h l = absurd (omega arith)
all_at test (v ∷ vs) zero h l = (v, refl, (and_both (test v) (list_all test vs) h).0)
all_at test (v ∷ vs) (suc k) h l = all_at test vs k (and_both (test v) (list_all test vs) h).1 (omega arith)

pub passes_at : (tests : List (Value → Bool)) (vs : List Value) (k : ℕ) (test : Value → Bool) → each_passes tests vs ≡ true → slice_get tests k ≡ Some test → (v : Value) × (slice_get vs k ≡ Some v) × (test v ≡ true)
passes_at [] vs k test h e = absurd (cc)
passes_at (t ∷ tests) [] k test h e = absurd (cc)
passes_at (t ∷ tests) (v ∷ vs) zero test h e = let is : t ≡ test = cc in (v, refl, subst (λ (x : Value → Bool). x v ≡ true) is (and_both (t v) (each_passes tests vs) h).0)
passes_at (t ∷ tests) (v ∷ vs) (suc k) test h e = passes_at tests vs k test (and_both (t v) (each_passes tests vs) h).1 e

pub tested_at : (f : Shape → Value → Bool) (shapes : List Shape) (k : ℕ) (shape : Shape) → slice_get shapes k ≡ Some shape → slice_get (map f shapes) k ≡ Some (f shape)
tested_at f [] k shape e = absurd (cc)
tested_at f (x ∷ shapes) zero shape e = let is : x ≡ shape = cc in ap (λ (y : Shape). Some (f y)) is
tested_at f (x ∷ shapes) (suc k) shape e = tested_at f shapes k shape e

part_there : (os : Shape-F Shape) (ov : Value-F Value) (k : ℕ) (part : Shape) → belongs_at (map-Shape Shape (Value → Bool) belongs os) ov ≡ true → part_in os k ≡ Some part → (v : Value) × (slice_get (parts_at ov) k ≡ Some v) × (belongs part v ≡ true)
part_there (Shape-F.Array low high item) (Value-F.Array vs) k part h e = by (nat_lt k (item_count low high)) refl e
  where
    by : (b : Bool) → nat_lt k (item_count low high) ≡ b → cond b (Some item) None ≡ Some part → (v : Value) × (slice_get vs k ≡ Some v) × (belongs part v ≡ true)
    by true f g =
        let is : item ≡ part = cc in
        let both = and_both (length vs == item_count low high) (list_all (belongs item) vs) h in
        let many = both.0 in
        let less : k < length vs = grind (arith, nat_tests) in
        let x = all_at (belongs item) vs k both.1 less in
        (x.0, x.1, subst (λ (y : Shape). belongs y x.0 ≡ true) is x.2)
    by false f g = absurd (cc)
part_there (Shape-F.Array low high item) _ k part h e = absurd (cc)
part_there (Shape-F.Fields fields) (Value-F.Fields vs) k part h e = passes_at (map belongs fields) vs k (belongs part) h (tested_at belongs fields k part e)
part_there (Shape-F.Fields fields) _ k part h e = absurd (cc)
part_there _ _ k part h e = absurd (cc)

-- the part at a way is there, and belongs
pub part_belongs : (way : List ℕ) (shape u : Shape) (v : Value) → shape_in shape way ≡ Some u → belongs shape v ≡ true → (w : Value) × (part_of v way ≡ Some w) × (belongs u w ≡ true)
part_belongs [] shape u v h b = let is : shape ≡ u = cc in (v, refl, subst (λ (x : Shape). belongs x v ≡ true) is b)
part_belongs (k ∷ way) shape u v h b =
    let x = on_into (part_in (out-Shape shape) k) (λ part. shape_in part way) u h in
    let p = part_there (out-Shape shape) (out-Value v) k x.0 (sym (belongs_out shape v) ∙ b) x.1 in
    let rest = part_belongs way x.0 u p.0 x.2 p.2 in
    (rest.0, ap (λ (o : Option Value). into o (λ q. part_of q way)) p.1 ∙ rest.1, rest.2)

-- ---- what is held

-- by the layers of a shape and of a value
held_layer : (shape : Shape) (v : Value) (os : Shape-F Shape) (ov : Value-F Value) → belongs shape v ≡ true → belongs_at (map-Shape Shape (Value → Bool) belongs os) ov ≡ true → is_held_at (kind_at os shape) v ov ≡ true
held_layer shape v (Shape-F.Array low high item) ov b h = b
held_layer shape v (Shape-F.Fields fields) ov b h = b
held_layer shape v (Shape-F.Set low high) (Value-F.Set ns) b h = (and_both (rises 0 ns) (list_all (has_ordinal low high) ns) h).0
held_layer shape v (Shape-F.Int low high) (Value-F.Int n) b h = refl
held_layer shape v (Shape-F.Bool low high) (Value-F.Bool n) b h = refl
held_layer shape v (Shape-F.Char low high) (Value-F.Char n) b h = refl
held_layer shape v (Shape-F.Enum low high) (Value-F.Enum n) b h = refl
held_layer shape v _ Value-F.Unset b h = refl
held_layer shape v _ _ b h = absurd (cc)

-- what belongs may be held
pub belongs_held : (shape : Shape) (v : Value) → belongs shape v ≡ true → is_held shape v ≡ true
belongs_held shape v b = held_layer shape v (out-Shape shape) (out-Value v) b (sym (belongs_out shape v) ∙ b)

rest_of : (a b : Bool) → a ≡ false → (a || b) ≡ true → b ≡ true
rest_of true b e h = absurd (cc)
rest_of false b e h = h

set_of_kind : (k : Kind) (v : Value) → is_held_at k v (out-Value v) ≡ true → is_unset v ≡ false → is_of k v ≡ true
set_of_kind (Whole shape) v h u = h
set_of_kind k v h u = rest_of (is_unset v) (is_of k v) u h

-- what is held and is set is of the kind
pub held_is : (shape : Shape) (v : Value) → is_held shape v ≡ true → is_unset v ≡ false → is_of (kind_of shape) v ≡ true
held_is shape v = set_of_kind (kind_of shape) v

kind_held_at : (k : Kind) (v : Value) → is_of k v ≡ true → is_held_at k v (out-Value v) ≡ true
kind_held_at (Whole shape) v h = h
kind_held_at k v h = or_right (is_unset v) (is_of k v) h

-- what is of the kind may be held
pub kind_held : (shape : Shape) (v : Value) → is_of (kind_of shape) v ≡ true → is_held shape v ≡ true
kind_held shape v = kind_held_at (kind_of shape) v

whole_held : (os : Shape-F Shape) (k : ℕ) (shape part : Shape) (v : Value) (ov : Value-F Value) → part_in os k ≡ Some part → is_held_at (kind_at os shape) v ov ≡ true → belongs shape v ≡ true
whole_held (Shape-F.Array low high item) k shape part v ov e h = h
whole_held (Shape-F.Fields fields) k shape part v ov e h = h
whole_held _ k shape part v ov e h = absurd (cc)

-- a part of what is held
pub part_held : (way : List ℕ) (shape u : Shape) (v : Value) → shape_in shape way ≡ Some u → is_held shape v ≡ true → (w : Value) × (part_of v way ≡ Some w) × (is_held u w ≡ true)
part_held [] shape u v h b = let is : shape ≡ u = cc in (v, refl, subst (λ (x : Shape). is_held x v ≡ true) is b)
part_held (k ∷ way) shape u v h b =
    let x = on_into (part_in (out-Shape shape) k) (λ part. shape_in part way) u h in
    let p = part_belongs (k ∷ way) shape u v h (whole_held (out-Shape shape) k shape x.0 v (out-Value v) x.1 b) in
    (p.0, p.1, belongs_held u p.0 p.2)

-- a part is put that belongs
pub put_held : (way : List ℕ) (shape u : Shape) (old new : Value) → shape_in shape way ≡ Some u → is_held shape old ≡ true → belongs u new ≡ true → is_held shape (with_part old way new) ≡ true
put_held [] shape u old new h b n = let is : shape ≡ u = cc in belongs_held shape new (subst (λ (x : Shape). belongs x new ≡ true) (sym is) n)
put_held (k ∷ way) shape u old new h b n =
    let x = on_into (part_in (out-Shape shape) k) (λ part. shape_in part way) u h in
    belongs_held shape (with_part old (k ∷ way) new) (belongs_stored (k ∷ way) shape u old new (way_is (k ∷ way) shape u h) (whole_held (out-Shape shape) k shape x.0 old (out-Value old) x.1 b) n)

-- ---- what fits

module _ (shape : Shape) (v : Value) where
  within_is : (os : Shape-F Shape) (ov : Value-F Value) → out-Shape shape ≡ os → out-Value v ≡ ov → is_within shape v ≡ within_at (map-Shape Shape (Value → Bool) is_within os) ov
  within_is os ov e f = within_out shape v ∙ ap (λ (x : Shape-F Shape). within_at (map-Shape Shape (Value → Bool) is_within x) (out-Value v)) e ∙ ap (within_at (map-Shape Shape (Value → Bool) is_within os)) f

  belongs_is : (os : Shape-F Shape) (ov : Value-F Value) → out-Shape shape ≡ os → out-Value v ≡ ov → belongs shape v ≡ belongs_at (map-Shape Shape (Value → Bool) belongs os) ov
  belongs_is os ov e f = belongs_out shape v ∙ ap (λ (x : Shape-F Shape). belongs_at (map-Shape Shape (Value → Bool) belongs x) (out-Value v)) e ∙ ap (belongs_at (map-Shape Shape (Value → Bool) belongs os)) f

  fit_within : fit_of shape v ≡ Ok tt → is_within shape v ≡ true
  fit_within h = by (is_unset v) (is_within shape v) h
    where
      by : (a b : Bool) → cond a (Err fault.Unset) (cond b (Ok (tt {0})) (Err fault.Range)) ≡ Ok tt → b ≡ true
      by true b e = absurd (cc)
      by false true e = refl
      by false false e = absurd (cc)

  fits_layer : (os : Shape-F Shape) (ov : Value-F Value) → belongs shape v ≡ belongs_at (map-Shape Shape (Value → Bool) belongs os) ov → is_within shape v ≡ within_at (map-Shape Shape (Value → Bool) is_within os) ov
      → is_of_at (kind_at os shape) v ov ≡ true → assignable_at os shape v ≡ Ok tt → belongs_at (map-Shape Shape (Value → Bool) belongs os) ov ≡ true
  fits_layer (Shape-F.Array low high item) ov same also i w = sym same ∙ i
  fits_layer (Shape-F.Fields fields) ov same also i w = sym same ∙ i
  fits_layer (Shape-F.Set low high) (Value-F.Set ns) same also i w = both_and (rises 0 ns) (list_all (has_ordinal low high) ns) i (sym also ∙ fit_within w)
  fits_layer (Shape-F.Int low high) (Value-F.Int n) same also i w = sym also ∙ fit_within w
  fits_layer (Shape-F.Bool low high) (Value-F.Bool n) same also i w = sym also ∙ fit_within w
  fits_layer (Shape-F.Char low high) (Value-F.Char n) same also i w = sym also ∙ fit_within w
  fits_layer (Shape-F.Enum low high) (Value-F.Enum n) same also i w = sym also ∙ fit_within w
  fits_layer _ _ same also i w = absurd (cc)

  -- a value of the kind that may be assigned belongs
  pub fits_belongs : is_of (kind_of shape) v ≡ true → assignable shape v ≡ Ok tt → belongs shape v ≡ true
  unfolding assignable
  fits_belongs i w = let same = belongs_is (out-Shape shape) (out-Value v) refl refl in same ∙ fits_layer (out-Shape shape) (out-Value v) same (within_is (out-Shape shape) (out-Value v) refl refl) i w

whole_kind : (shape : Shape) (v : Value) (os : Shape-F Shape) (low high : ℤ) (item : Shape) → os ≡ Shape-F.Array low high item → is_of (kind_at os shape) v ≡ true → belongs shape v ≡ true
whole_kind shape v os low high item e i = subst (λ (x : Shape-F Shape). is_of (kind_at x shape) v ≡ true) e i

-- the inner one is an array
inner_array : (outer shape : Shape) (low high : ℤ) (item : Shape) → StoresInto outer shape → out-Shape outer ≡ Shape-F.Array low high item → (l h : ℤ) × (x : Shape) × (out-Shape shape ≡ Shape-F.Array l h x)
inner_array outer shape low high item (itself x) e = (low, high, item, e)
inner_array outer shape low high item (inside o i x part l h l' h' e f rest) g = inner_array i x l' h' part rest f

-- and one that may be stored
pub stores_belongs : (outer shape : Shape) (v : Value) → StoresInto outer shape → is_of (kind_of shape) v ≡ true → assignable outer v ≡ Ok tt → belongs shape v ≡ true
stores_belongs outer shape v (itself x) i w = fits_belongs x v i w
stores_belongs outer shape v (inside o it x part l h l' h' e f rest) i w = let a = inner_array it x l' h' part rest f in whole_kind x v (out-Shape x) a.0 a.1 a.2 a.3 i

-- ---- what is made unset

abbrev Blanks : Shape → Type 0
Blanks shape = (v : Value) → belongs shape v ≡ true → belongs shape (blanked v) ≡ true

abbrev Shown : Type 0
Shown = (x : Shape) × Blanks x

abbrev layer : Shape-F Shown → Shape-F Shape
layer z = map-Shape Shown Shape (λ e. e.0) z

all_blanked : (test : Value → Bool) → ((v : Value) → test v ≡ true → test (blanked v) ≡ true) → (vs : List Value) → list_all test vs ≡ true → list_all test (map blanked vs) ≡ true
all_blanked test keeps [] h = refl
all_blanked test keeps (v ∷ vs) h = let b = and_both (test v) (list_all test vs) h in both_and (test (blanked v)) (list_all test (map blanked vs)) (keeps v b.0) (all_blanked test keeps vs b.1)

passes_blanked : (fields : List Shown) (vs : List Value) → each_passes (map belongs (map (λ (e : Shown). e.0) fields)) vs ≡ true → each_passes (map belongs (map (λ (e : Shown). e.0) fields)) (map blanked vs) ≡ true
passes_blanked [] [] h = refl
passes_blanked [] (v ∷ vs) h = absurd (cc)
passes_blanked (x ∷ fields) [] h = absurd (cc)
passes_blanked (x ∷ fields) (v ∷ vs) h =
    let b = and_both (belongs x.0 v) (each_passes (map belongs (map (λ (e : Shown). e.0) fields)) vs) h in
    both_and (belongs x.0 (blanked v)) (each_passes (map belongs (map (λ (e : Shown). e.0) fields)) (map blanked vs)) (x.1 v b.0) (passes_blanked fields vs b.1)

length_blanked : (vs : List Value) → length (map blanked vs) ≡ length vs
length_blanked [] = refl
length_blanked (v ∷ vs) = ap (λ (n : ℕ). suc n) (length_blanked vs)

made : (z : Shape-F Shown) (v : Value) → belongs (roll-Shape (layer z)) v ≡ belongs_at (map-Shape Shape (Value → Bool) belongs (layer z)) (out-Value v)
unfolding belongs
made z v = ap (λ (f : Value → Bool). f v) (fold-roll-Shape (Value → Bool) belongs_step (layer z))

abbrev BlanksLayer : Shape-F Shown → Value-F Value → Type 0
BlanksLayer z o = belongs_at (map-Shape Shape (Value → Bool) belongs (layer z)) o ≡ true → belongs_at (map-Shape Shape (Value → Bool) belongs (layer z)) (out-Value (blank_step (map-Value Value Value blanked o))) ≡ true

blanks_layer : (z : Shape-F Shown) (o : Value-F Value) → BlanksLayer z o
blanks_layer (Shape-F.Array low high item) (Value-F.Array vs) h =
    let b = and_both (length vs == item_count low high) (list_all (belongs item.0) vs) h in
    ap (belongs_at (Shape-F.Array low high (belongs item.0))) (value.outs-Array (map blanked vs))
    ∙ both_and (length (map blanked vs) == item_count low high) (list_all (belongs item.0) (map blanked vs)) (ap (λ (n : ℕ). n == item_count low high) (length_blanked vs) ∙ b.0) (all_blanked (belongs item.0) item.1 vs b.1)
blanks_layer (Shape-F.Array low high item) _ h = absurd (cc)
blanks_layer (Shape-F.Fields fields) (Value-F.Fields vs) h =
    ap (belongs_at (Shape-F.Fields (map belongs (map (λ (e : Shown). e.0) fields)))) (value.outs-Fields (map blanked vs)) ∙ passes_blanked fields vs h
blanks_layer (Shape-F.Fields fields) _ h = absurd (cc)
blanks_layer z (Value-F.Array vs) h = absurd (cc)
blanks_layer z (Value-F.Fields vs) h = absurd (cc)
blanks_layer z o h = ap (belongs_at (map-Shape Shape (Value → Bool) belongs (layer z))) value.outs-Unset

blanks_step : (x : Shape-F Shape) (y : Shape-F Shown) → map-Shape Shown Shape (λ e. e.0) y ≡ x → Blanks (roll-Shape x)
blanks_step x y is = subst (λ (z : Shape-F Shape). Blanks (roll-Shape z)) is go
  where
    go : Blanks (roll-Shape (layer y))
    go v h = made y (blanked v) ∙ ap (λ (w : Value). belongs_at (map-Shape Shape (Value → Bool) belongs (layer y)) (out-Value w)) (blanked_out v) ∙ blanks_layer y (out-Value v) (sym (made y v) ∙ h)

blanks_belong : (shape : Shape) → Blanks shape
blanks_belong = ind-Shape Blanks blanks_step

held_blank : (shape : Shape) (v : Value) (os : Shape-F Shape) (ov : Value-F Value) → out-Shape shape ≡ os → out-Value v ≡ ov → is_held_at (kind_at os shape) v ov ≡ true → belongs shape (blanked v) ≡ true
held_blank shape v (Shape-F.Array low high item) ov e f h = blanks_belong shape v h
held_blank shape v (Shape-F.Fields fields) ov e f h = blanks_belong shape v h
held_blank shape v os (Value-F.Array vs) e f h = absurd (cc)
held_blank shape v os (Value-F.Fields vs) e f h = absurd (cc)
held_blank shape v os ov e f h = ap (belongs shape) (blanked_out v ∙ ap (λ (o : Value-F Value). blank_step (map-Value Value Value blanked o)) f) ∙ belongs_is shape value.Unset os Value-F.Unset e value.outs-Unset

-- what is held and is made unset belongs
pub blanked_belongs : (shape : Shape) (v : Value) → is_held shape v ≡ true → belongs shape (blanked v) ≡ true
blanked_belongs shape v h = held_blank shape v (out-Shape shape) (out-Value v) refl refl h
