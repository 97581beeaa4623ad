-- What belongs to a type, unset parts allowed, one layer of its denoter at a time; and the types of parts.
use Rattle.std.proofs.Common.{◌≡◌, ℕ, zero, suc, ◌+◌, ◌<◌, Bool, true, false, List, [], ◌∷◌, length, take, get_or, map, ℤ, refl, sym, ap, subst, ◌∙◌, add-one, arith, Option, Some, None}
use Rattle.std.proofs.lemmas.List.{length-map, get_or-map, take-map}
use Rattle.std.specs.Prelude.{◌&&◌, nat_abs, slice_get, option_map}
use Rattle.pascal_values.specs.declared.value.Value.{Value, out-Value}
use Rattle.pascal_values.specs.declared.value.Value.TheOpen.{Value-F}
use Rattle.pascal_values.specs.declared.value.Shape.{Shape, out-Shape}
use Rattle.pascal_values.specs.declared.value.Shape.TheOpen.{Shape-F}
use Rattle.pascal_values.specs.declared.value.Shape.TheVariants as shape
use Rattle.pascal_values.specs.declared.value.Shape.TheVariants.{outs-Int, outs-Bool, outs-Char, outs-Enum, outs-Set, outs-Array, outs-Fields}
use Rattle.pascal_values.specs.Shapes.{is_within, within_at, each_passes}
use Rattle.estelle_model.specs.declared.denoter.Host.{Host}
use Rattle.estelle_model.specs.declared.denoter.Host.TheVariants as host
use Rattle.estelle_model.specs.declared.denoter.Denoter.{Denoter, out-Denoter, roll-Denoter, roll-out-Denoter, map-Denoter}
use Rattle.estelle_model.specs.declared.denoter.Denoter.TheVariants as denoter
use Rattle.estelle_model.specs.declared.denoter.Denoter.TheOpen.{Denoter-F}
use Rattle.estelle_model.specs.Types.{shape_of, shape_step, ordinal_shape}
use Rattle.estelle_model.specs.Belonging.{belongs, belongs_at, are_values_of, part_at}
use Rattle.estelle_model.proofs.Fitting.{belongs_out}
use Rattle.body_values.proofs.TypeLemmas.{ordinal_layer, ordinal_within, shape_out}

abbrev pub belongs_layer : Denoter-F Denoter → Shape-F (Value → Bool)
belongs_layer (Denoter-F.Ordinal h low high) = ordinal_layer h low high
belongs_layer (Denoter-F.Set h low high) = Shape-F.Set (nat_abs low) (nat_abs high)
belongs_layer (Denoter-F.Array low high item) = Shape-F.Array low high (belongs (shape_of item))
belongs_layer (Denoter-F.Fields fields) = Shape-F.Fields (map (λ t. belongs (shape_of t)) fields)

ordinal_belongs : (h : Host) (low high : ℤ) (v : Value) → belongs (ordinal_shape h low high) v ≡ belongs_at (ordinal_layer h low high) (out-Value v)
ordinal_belongs host.Integer low high v = belongs_out (shape.Int low high) v ∙ simp outs-Int
ordinal_belongs host.Boolean low high v = belongs_out (shape.Bool (nat_abs low) (nat_abs high)) v ∙ simp outs-Bool
ordinal_belongs host.Char low high v = belongs_out (shape.Char (nat_abs low) (nat_abs high)) v ∙ simp outs-Char
ordinal_belongs (host.Enumeration last) low high v = belongs_out (shape.Enum (nat_abs low) (nat_abs high)) v ∙ simp outs-Enum

tests_of : (ts : List Denoter) → map belongs (map shape_of ts) ≡ map (λ t. belongs (shape_of t)) ts
tests_of [] = refl
tests_of (t ∷ ts) = ap (λ fs. belongs (shape_of t) ∷ fs) (tests_of ts)

layer : (d : Denoter-F Denoter) (v : Value) → belongs (shape_step (map-Denoter Denoter Shape shape_of d)) v ≡ belongs_at (belongs_layer d) (out-Value v)
layer (Denoter-F.Ordinal h low high) v = ordinal_belongs h low high v
layer (Denoter-F.Set h low high) v = belongs_out (shape.Set (nat_abs low) (nat_abs high)) v ∙ simp outs-Set
layer (Denoter-F.Array low high item) v = belongs_out (shape.Array low high (shape_of item)) v ∙ simp outs-Array
layer (Denoter-F.Fields fields) v = belongs_out (shape.Fields (map shape_of fields)) v ∙ simp outs-Fields (ap (λ tests. belongs_at (Shape-F.Fields tests) (out-Value v)) (tests_of fields))

pub type_belongs_out : (t : Denoter) (v : Value) → belongs (shape_of t) v ≡ belongs_at (belongs_layer (out-Denoter t)) (out-Value v)
type_belongs_out t v = ap (λ s. belongs s v) (shape_out t) ∙ layer (out-Denoter t) v

-- ---- ordinal types, where to lie within is to belong

same_ordinal : (h : Host) (low high : ℤ) (v : Value-F Value) → within_at (ordinal_layer h low high) v ≡ belongs_at (ordinal_layer h low high) v
same_ordinal host.Integer low high Value-F.Unset = refl
same_ordinal host.Integer low high _ = refl
same_ordinal host.Boolean low high Value-F.Unset = refl
same_ordinal host.Boolean low high _ = refl
same_ordinal host.Char low high Value-F.Unset = refl
same_ordinal host.Char low high _ = refl
same_ordinal (host.Enumeration last) low high Value-F.Unset = refl
same_ordinal (host.Enumeration last) low high _ = refl

pub within_belongs : (h : Host) (low high : ℤ) (v : Value) → is_within (ordinal_shape h low high) v ≡ belongs_at (ordinal_layer h low high) (out-Value v)
within_belongs h low high v = ordinal_within h low high v ∙ same_ordinal h low high (out-Value v)

-- ---- values one after another

apart : (tests : List (Value → Bool)) (vs : List Value) → ¬ (length tests ≡ length vs) → each_passes tests vs ≡ false
apart [] [] h = absurd (h refl)
apart [] (v ∷ vs) h = refl
apart (f ∷ tests) [] h = refl
apart (f ∷ tests) (v ∷ vs) h = rw (apart tests vs (λ e. h (ap suc e))) (and_false (f v))
  where
    and_false : (b : Bool) → (b && false) ≡ false
    and_false true = refl
    and_false false = refl

more : (tests : List (Value → Bool)) (vs : List Value) (i : ℕ) (f : Value → Bool) (v : Value) → i < length tests → i < length vs → each_passes (take (suc i) tests) (take (suc i) vs) ≡ (each_passes (take i tests) (take i vs) && get_or tests i f (get_or vs i v))
more [] vs i f v l m = absurd (omega arith)
more (g ∷ tests) [] i f v l m = absurd (omega arith)
more (g ∷ tests) (w ∷ vs) zero f v l m = and_true (g w)
  where
    and_true : (b : Bool) → (b && true) ≡ b
    and_true true = refl
    and_true false = refl
more (g ∷ tests) (w ∷ vs) (suc i) f v l m = ap (λ b. g w && b) (more tests vs i f v (omega arith) (omega arith)) ∙ and_assoc (g w) (each_passes (take i tests) (take i vs)) (get_or tests i f (get_or vs i v))
  where
    and_assoc : (x y z : Bool) → (x && (y && z)) ≡ ((x && y) && z)
    and_assoc true y z = refl
    and_assoc false y z = refl

fails : (tests : List (Value → Bool)) (vs : List Value) (i : ℕ) (f : Value → Bool) (v : Value) → i < length tests → i < length vs → get_or tests i f (get_or vs i v) ≡ false → each_passes tests vs ≡ false
fails [] vs i f v l m e = absurd (omega arith)
fails (g ∷ tests) [] i f v l m e = refl
fails (g ∷ tests) (w ∷ vs) zero f v l m e = rw e refl
fails (g ∷ tests) (w ∷ vs) (suc i) f v l m e = ap (λ b. g w && b) (fails tests vs i f v (omega arith) (omega arith) e) ∙ and_false (g w)
  where
    and_false : (b : Bool) → (b && false) ≡ false
    and_false true = refl
    and_false false = refl

tests_length : (ts : List Denoter) → length (map (λ t. belongs (shape_of t)) ts) ≡ length ts
tests_length ts = length-map ts (λ t. belongs (shape_of t))

-- types and values of different numbers
pub fields_belong_apart : (ts : List Denoter) (vs : List Value) → ¬ (length ts ≡ length vs) → are_values_of ts vs ≡ false
fields_belong_apart ts vs h = apart (map (λ t. belongs (shape_of t)) ts) vs (λ e. h (sym (tests_length ts) ∙ e))

module _ (ts : List Denoter) (vs : List Value) (i : ℕ) (t : Denoter) (v : Value) (l : i < length ts) (m : i < length vs) (t_is : t ≡ get_or ts i t) (v_is : v ≡ get_or vs i v) where
  tested : belongs (shape_of t) ≡ get_or (map (λ u. belongs (shape_of u)) ts) i (belongs (shape_of t))
  tested = ap (λ (u : Denoter). belongs (shape_of u)) t_is ∙ sym (get_or-map (λ u. belongs (shape_of u)) ts i t (belongs (shape_of t)) l)

  here : {r : Bool} → r ≡ belongs (shape_of t) v → get_or (map (λ u. belongs (shape_of u)) ts) i (belongs (shape_of t)) (get_or vs i v) ≡ r
  here {r} is = ap (λ (f : Value → Bool). f (get_or vs i v)) (sym tested) ∙ ap (belongs (shape_of t)) (sym v_is) ∙ sym is

  within_length : i < length (map (λ u. belongs (shape_of u)) ts)
  within_length = subst (λ n. i < n) (sym (tests_length ts)) l

  -- one that does not belong
  pub values_fail : {r : Bool} → r ≡ false → r ≡ belongs (shape_of t) v → false ≡ are_values_of ts vs
  values_fail {r} failed is = sym (fails (map (λ u. belongs (shape_of u)) ts) vs i (belongs (shape_of t)) v within_length m (here is ∙ failed))

  -- one more that belongs
  pub values_more : {r : Bool} → r ≡ true → r ≡ belongs (shape_of t) v → are_values_of (take i ts) (take i vs) ≡ true → are_values_of (take (i + 1) ts) (take (i + 1) vs) ≡ true
  values_more {r} passed is before = rw add-one (
      ap (λ fs. each_passes fs (take (suc i) vs)) (sym (take-map (λ u. belongs (shape_of u)) (suc i) ts))
      ∙ more (map (λ u. belongs (shape_of u)) ts) vs i (belongs (shape_of t)) v within_length m
      ∙ (λ k. each_passes (take-map (λ u. belongs (shape_of u)) i ts k) (take i vs) && (here is ∙ passed) k)
      ∙ rw before refl)

-- ---- the types of parts

abbrev pub part_layer : Denoter-F Denoter → ℕ → Option Shape
part_layer (Denoter-F.Array low high item) k = Some (shape_of item)
part_layer (Denoter-F.Fields fields) k = option_map shape_of (slice_get fields k)
part_layer _ k = None

field_shape : (ts : List Denoter) (k : ℕ) → slice_get (map shape_of ts) k ≡ option_map shape_of (slice_get ts k)
field_shape [] k = refl
field_shape (t ∷ ts) zero = refl
field_shape (t ∷ ts) (suc k) = field_shape ts k

ordinal_part : (h : Host) (low high : ℤ) (k : ℕ) → part_at (out-Shape (ordinal_shape h low high)) k ≡ None
ordinal_part host.Integer low high k = simp outs-Int
ordinal_part host.Boolean low high k = simp outs-Bool
ordinal_part host.Char low high k = simp outs-Char
ordinal_part (host.Enumeration last) low high k = simp outs-Enum

part_of_layer : (d : Denoter-F Denoter) (k : ℕ) → part_at (out-Shape (shape_step (map-Denoter Denoter Shape shape_of d))) k ≡ part_layer d k
part_of_layer (Denoter-F.Ordinal h low high) k = ordinal_part h low high k
part_of_layer (Denoter-F.Set h low high) k = simp outs-Set
part_of_layer (Denoter-F.Array low high item) k = simp outs-Array
part_of_layer (Denoter-F.Fields fields) k = simp outs-Fields (field_shape fields k)

pub type_part_out : (t : Denoter) (k : ℕ) → part_at (out-Shape (shape_of t)) k ≡ part_layer (out-Denoter t) k
type_part_out t k = ap (λ s. part_at (out-Shape s) k) (shape_out t) ∙ part_of_layer (out-Denoter t) k

-- a type without parts
pub no_part : (t : Denoter) (k : ℕ) → ((low high : ℤ) (item : Denoter) → t ≡ denoter.Array low high item → ⊥) → ((fields : List Denoter) → t ≡ denoter.Fields fields → ⊥) → None ≡ part_at (out-Shape (shape_of t)) k
no_part t k no_array no_fields = sym (type_part_out t k ∙ by (out-Denoter t) refl)
  where
    rolled : (d : Denoter-F Denoter) → out-Denoter t ≡ d → t ≡ roll-Denoter d
    rolled d is = sym (roll-out-Denoter t) ∙ ap roll-Denoter is

    by : (d : Denoter-F Denoter) → out-Denoter t ≡ d → part_layer d k ≡ None
    by (Denoter-F.Ordinal h low high) is = refl
    by (Denoter-F.Set h low high) is = refl
    by (Denoter-F.Array low high item) is = absurd (no_array low high item (rolled (Denoter-F.Array low high item) is ∙ denoter.rolls-Array low high item))
    by (Denoter-F.Fields fields) is = absurd (no_fields fields (rolled (Denoter-F.Fields fields) is ∙ denoter.rolls-Fields fields))
