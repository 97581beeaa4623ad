-- What belongs to a type whose values can be read can be read, where its sets rise.
use Rattle.std.proofs.Common.{◌≡◌, ℕ, zero, suc, ◌<◌, Bool, true, ◌&&◌, List, [], ◌∷◌, length, map, ℤ, sym, ap, ◌∙◌, arith}
use Rattle.std.specs.Prelude.{◌==◌, nat_le, nat_abs, ◌^◌}
use Rattle.std.specs.List.{list_all, AllByRecursion}
use Rattle.std.proofs.lemmas.Bool.{leb-true}
use Rattle.std.proofs.lemmas.Bool.Decides.{nat_tests}
use Rattle.pascal_values.specs.declared.value.Value.{Value, Value-F, out-Value, map-Value}
use Rattle.pascal_values.specs.declared.value.Shape.{Shape, out-Shape, map-Shape}
use Rattle.pascal_values.specs.declared.value.Shape.TheVariants as shape
use Rattle.pascal_values.specs.declared.value.Shape.TheOpen.{Shape-F}
use Rattle.pascal_values.specs.Shapes.{item_count, each_passes}
use Rattle.pascal_values.specs.Texts.{IsFormed, HasForm, IsReadable}
use Rattle.estelle_model.specs.declared.denoter.Host.{Host}
use Rattle.estelle_model.specs.declared.denoter.Host.TheVariants as host
use Rattle.estelle_model.specs.declared.denoter.Denoter.{Denoter, out-Denoter, map-Denoter, fold_out-Denoter}
use Rattle.estelle_model.specs.declared.denoter.Denoter.TheOpen.{Denoter-F}
use Rattle.estelle_model.specs.Types.{shape_of, shape_step}
use Rattle.estelle_model.specs.Belonging.{belongs, belongs_at, are_values_of}
use Rattle.estelle_model.proofs.Fitting.{belongs_out, rises_is}
use Rattle.estelle_model_legality.proofs.Lists.{and_both}
use Rattle.trace_forms.specs.Types.{IsTypeFormed, NestsWithin, IsReadableType}
use Rattle.trace_forms.proofs.Values.{Rises, AllRise, sets_rise, sets_step, sets_out, all_of}
use Rattle.trace_forms.proofs.Lists.{all_tests}

-- ---- the shape of a type, one layer at a time

abbrev host_layer : Host → ℤ → ℤ → Shape-F Shape
host_layer host.Integer low high = Shape-F.Int low high
host_layer host.Boolean low high = Shape-F.Bool (nat_abs low) (nat_abs high)
host_layer host.Char low high = Shape-F.Char (nat_abs low) (nat_abs high)
host_layer (host.Enumeration last) low high = Shape-F.Enum (nat_abs low) (nat_abs high)

abbrev layer_of : Denoter-F Denoter → Shape-F Shape
layer_of (Denoter-F.Ordinal h low high) = host_layer h low high
layer_of (Denoter-F.Set h low high) = Shape-F.Set (nat_abs low) (nat_abs high)
layer_of (Denoter-F.Array low high item) = Shape-F.Array low high (shape_of item)
layer_of (Denoter-F.Fields fields) = Shape-F.Fields (map shape_of fields)

step_out : (d : Denoter-F Denoter) → out-Shape (shape_step (map-Denoter Denoter Shape shape_of d)) ≡ layer_of d
step_out (Denoter-F.Ordinal host.Integer low high) = shape.outs-Int low high
step_out (Denoter-F.Ordinal host.Boolean low high) = shape.outs-Bool (nat_abs low) (nat_abs high)
step_out (Denoter-F.Ordinal host.Char low high) = shape.outs-Char (nat_abs low) (nat_abs high)
step_out (Denoter-F.Ordinal (host.Enumeration last) low high) = shape.outs-Enum (nat_abs low) (nat_abs high)
step_out (Denoter-F.Set h low high) = shape.outs-Set (nat_abs low) (nat_abs high)
step_out (Denoter-F.Array low high item) = shape.outs-Array low high (shape_of item)
step_out (Denoter-F.Fields fields) = shape.outs-Fields (map shape_of fields)

shape_out : (t : Denoter) → out-Shape (shape_of t) ≡ layer_of (out-Denoter t)
unfolding shape_of
shape_out t = ap out-Shape (fold_out-Denoter Shape shape_step t) ∙ step_out (out-Denoter t)

belongs_layer : (t : Denoter) (v : Value) → belongs (shape_of t) v ≡ belongs_at (map-Shape Shape (Value → Bool) belongs (layer_of (out-Denoter t))) (out-Value v)
belongs_layer t v = belongs_out (shape_of t) v ∙ ap (λ (l : Shape-F Shape). belongs_at (map-Shape Shape (Value → Bool) belongs l) (out-Value v)) (shape_out t)

-- ---- one layer

below : (low high n most : ℕ) → (nat_le low n && nat_le n high) ≡ true → high < most → n < most
below low high n most e h = let b = and_both (nat_le low n) (nat_le n high) e in let c = leb-true n high b.1 in omega (arith, c, h)

same_length : (n m : ℕ) → (n == m) ≡ true → 0 < m → 0 < n
same_length n m e h = grind (arith, nat_tests)

module _ (IsPart : Value → Type 0) (T : Denoter → Type 0) (each : (t : Denoter) (v : Value) → T t → belongs (shape_of t) v ≡ true → Rises v → IsPart v) where
  items : (t : Denoter) → T t → (vs : List Value) → list_all (belongs (shape_of t)) vs ≡ true → AllRise vs → AllByRecursion IsPart vs
  items t h [] e r = tt
  items t h (v ∷ vs) e r = let b = and_both (belongs (shape_of t) v) _ e in (each t v h b.0 r.0, items t h vs b.1 r.1)

  fields_of : (ts : List Denoter) → AllByRecursion T ts → (vs : List Value) → each_passes (map belongs (map shape_of ts)) vs ≡ true → AllRise vs → AllByRecursion IsPart vs
  fields_of [] h [] e r = tt
  fields_of [] h (v ∷ vs) e r = absurd (cc)
  fields_of (t ∷ ts) h [] e r = tt
  fields_of (t ∷ ts) h (v ∷ vs) e r = let b = and_both (belongs (shape_of t) v) _ e in (each t v h.0 b.0 r.0, fields_of ts h.1 vs b.1 r.1)

  some_fields : (ts : List Denoter) (vs : List Value) → each_passes (map belongs (map shape_of ts)) vs ≡ true → 0 < length ts → 0 < length vs
  some_fields [] vs e h = absurd (omega (arith, h))
  some_fields (t ∷ ts) [] e h = absurd (cc)
  some_fields (t ∷ ts) (v ∷ vs) e h = omega arith

  abbrev Layer : Denoter-F Denoter → Value-F Value → Type 0
  Layer d l = IsTypeFormed T d → belongs_at (map-Shape Shape (Value → Bool) belongs (layer_of d)) l ≡ true → sets_step (map-Value Value Bool sets_rise l) ≡ true → IsFormed IsPart l

  layer : (d : Denoter-F Denoter) (l : Value-F Value) → Layer d l
  layer (Denoter-F.Ordinal host.Integer low high) (Value-F.Int n) h e r = h n e
  layer (Denoter-F.Ordinal host.Boolean low high) (Value-F.Bool b) h e r = tt
  layer (Denoter-F.Ordinal host.Char low high) (Value-F.Char n) h e r = below (nat_abs low) (nat_abs high) n 256 e h
  layer (Denoter-F.Ordinal (host.Enumeration last) low high) (Value-F.Enum n) h e r = below (nat_abs low) (nat_abs high) n (2 ^ 32) e h
  layer (Denoter-F.Set k low high) (Value-F.Set ns) h e r = rises_is 0 ns r
  layer (Denoter-F.Array low high item) (Value-F.Array vs) h e r =
      let b = and_both (length vs == item_count low high) _ e in
      (same_length (length vs) (item_count low high) b.0 h.0, items item h.1 vs b.1 (all_of vs (sym (all_tests sets_rise vs) ∙ r)))
  layer (Denoter-F.Fields fields) (Value-F.Fields vs) h e r = (some_fields fields vs e h.0, fields_of fields h.1 vs e (all_of vs (sym (all_tests sets_rise vs) ∙ r)))
  layer d Value-F.Unset h e r = tt
  layer d l h e r = absurd (cc)

  formed : (t : Denoter) (v : Value) → IsTypeFormed T (out-Denoter t) → belongs (shape_of t) v ≡ true → Rises v → IsFormed IsPart (out-Value v)
  formed t v h e r = layer (out-Denoter t) (out-Value v) h (sym (belongs_layer t v) ∙ e) (sym (sets_out v) ∙ r)

-- ---- whole values

has_form : (depth : ℕ) (t : Denoter) (v : Value) → NestsWithin depth t → belongs (shape_of t) v ≡ true → Rises v → HasForm depth v
has_form zero t v h e r = formed (λ _. ⊥) (λ _. ⊥) (λ u w none f k. none) t v h e r
has_form (suc depth) t v h e r = formed (HasForm depth) (NestsWithin depth) (has_form depth) t v h e r

pub values_readable : (types : List Denoter) (vs : List Value) → AllByRecursion IsReadableType types → are_values_of types vs ≡ true → AllRise vs → AllByRecursion IsReadable vs
values_readable [] [] h e r = tt
values_readable [] (v ∷ vs) h e r = absurd (cc)
values_readable (t ∷ types) [] h e r = absurd (cc)
values_readable (t ∷ types) (v ∷ vs) h e r = let b = and_both (belongs (shape_of t) v) (are_values_of types vs) e in (has_form 200 t v h.0 b.0 r.0, values_readable types vs h.1 b.1 r.1)
