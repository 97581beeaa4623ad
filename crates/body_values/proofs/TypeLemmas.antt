-- The values of a type, one layer of its denoter at a time.
use Rattle.std.proofs.Common.{◌≡◌, ℕ, Bool, map, replicate, ℤ, Result, Ok, sym, ap, ◌∙◌}
use Rattle.std.specs.Prelude.{nat_abs}
use Rattle.pascal_values.specs.declared.fault.Fault.{Fault}
use Rattle.pascal_values.specs.declared.value.Value.{Value, out-Value, map-Value, fold_out-Value}
use Rattle.pascal_values.specs.declared.value.Value.TheVariants as value
use Rattle.pascal_values.specs.declared.value.Shape.{Shape}
use Rattle.pascal_values.specs.declared.value.Shape.TheOpen.{Shape-F}
use Rattle.pascal_values.specs.declared.value.Shape.TheVariants as shape
use Rattle.pascal_values.specs.declared.value.Shape.TheVariants.{outs-Int, outs-Bool, outs-Char, outs-Enum, outs-Set, outs-Array, outs-Fields}
use Rattle.pascal_values.specs.Shapes.{blank_of, item_count, is_within, within_at, fit_of}
use Rattle.pascal_values.proofs.ShapeLemmas.{within_out, blank_out}
use Rattle.estelle_model.specs.declared.denoter.Host.{Host}
use Rattle.estelle_model.specs.declared.denoter.Host.TheVariants as host
use Rattle.estelle_model.specs.declared.denoter.Denoter.{Denoter, out-Denoter, map-Denoter, fold_out-Denoter}
use Rattle.estelle_model.specs.declared.denoter.Denoter.TheOpen.{Denoter-F}
use Rattle.estelle_model.specs.declared.denoter.Denoter.TheVariants as denoter
use Rattle.estelle_model.specs.Types.{shape_of, shape_step, ordinal_shape, assignable}
use Rattle.estelle_model.specs.Places.{blank_step, blanked}
use Rattle.estelle_model.proofs.Fitting.{shape_ordinal, assignable_ordinal}

-- ---- what belongs to a type

abbrev pub ordinal_layer : Host → ℤ → ℤ → Shape-F (Value → Bool)
ordinal_layer host.Integer low high = Shape-F.Int low high
ordinal_layer host.Boolean low high = Shape-F.Bool (nat_abs low) (nat_abs high)
ordinal_layer host.Char low high = Shape-F.Char (nat_abs low) (nat_abs high)
ordinal_layer (host.Enumeration last) low high = Shape-F.Enum (nat_abs low) (nat_abs high)

pub ordinal_within : (h : Host) (low high : ℤ) (v : Value) → is_within (ordinal_shape h low high) v ≡ within_at (ordinal_layer h low high) (out-Value v)
ordinal_within host.Integer low high v = within_out (shape.Int low high) v ∙ simp outs-Int
ordinal_within host.Boolean low high v = within_out (shape.Bool (nat_abs low) (nat_abs high)) v ∙ simp outs-Bool
ordinal_within host.Char low high v = within_out (shape.Char (nat_abs low) (nat_abs high)) v ∙ simp outs-Char
ordinal_within (host.Enumeration last) low high v = within_out (shape.Enum (nat_abs low) (nat_abs high)) v ∙ simp outs-Enum

pub shape_out : (t : Denoter) → shape_of t ≡ shape_step (map-Denoter Denoter Shape shape_of (out-Denoter t))
unfolding shape_of
shape_out t = fold_out-Denoter Shape shape_step t

pub set_within : (low high : ℕ) (v : Value) → is_within (shape.Set low high) v ≡ within_at (Shape-F.Set low high) (out-Value v)
set_within low high v = within_out (shape.Set low high) v ∙ simp outs-Set

-- what may be assigned, one layer of the type at a time
abbrev pub assignable_layer : Denoter-F Denoter → Value → Result (Unit {0}) Fault
assignable_layer (Denoter-F.Ordinal h low high) v = fit_of (ordinal_shape h low high) v
assignable_layer (Denoter-F.Set h low high) v = fit_of (shape.Set (nat_abs low) (nat_abs high)) v
assignable_layer (Denoter-F.Array low high item) v = Ok tt
assignable_layer (Denoter-F.Fields fields) v = Ok tt

layer_assignable : (d : Denoter-F Denoter) (v : Value) → assignable (shape_step (map-Denoter Denoter Shape shape_of d)) v ≡ assignable_layer d v
unfolding assignable
layer_assignable (Denoter-F.Ordinal h low high) v = assignable_ordinal h low high v
layer_assignable (Denoter-F.Set h low high) v = simp outs-Set
layer_assignable (Denoter-F.Array low high item) v = simp outs-Array
layer_assignable (Denoter-F.Fields fields) v = simp outs-Fields

pub type_assignable_out : (t : Denoter) (v : Value) → assignable (shape_of t) v ≡ assignable_layer (out-Denoter t) v
type_assignable_out t v = ap (λ s. assignable s v) (shape_out t) ∙ layer_assignable (out-Denoter t) v

pub ordinal_assignable : (h : Host) (low high low' high' : ℤ) (v : Value) (r : Result (Unit {0}) Fault) → low' ≡ low → high' ≡ high → r ≡ fit_of (ordinal_shape h low' high') v → r ≡ assignable (shape_of (denoter.Ordinal h low high)) v
ordinal_assignable h low high low' high' v r l m is = is ∙ (λ i. fit_of (ordinal_shape h (l i) (m i)) v) ∙ sym (ap (λ s. assignable s v) (shape_ordinal h low high) ∙ assignable_ordinal h low high v)

-- ---- what nothing is set in

abbrev pub blank_layer : Denoter-F Denoter → Value
blank_layer (Denoter-F.Array low high item) = value.Array (replicate (item_count low high) (blank_of (shape_of item)))
blank_layer (Denoter-F.Fields fields) = value.Fields (map blank_of (map shape_of fields))
blank_layer _ = value.Unset

ordinal_blank : (h : Host) (low high : ℤ) → blank_of (ordinal_shape h low high) ≡ value.Unset
ordinal_blank host.Integer low high = blank_out (shape.Int low high) ∙ simp outs-Int
ordinal_blank host.Boolean low high = blank_out (shape.Bool (nat_abs low) (nat_abs high)) ∙ simp outs-Bool
ordinal_blank host.Char low high = blank_out (shape.Char (nat_abs low) (nat_abs high)) ∙ simp outs-Char
ordinal_blank (host.Enumeration last) low high = blank_out (shape.Enum (nat_abs low) (nat_abs high)) ∙ simp outs-Enum

in_layer : (d : Denoter-F Denoter) → blank_of (shape_step (map-Denoter Denoter Shape shape_of d)) ≡ blank_layer d
in_layer (Denoter-F.Ordinal h low high) = ordinal_blank h low high
in_layer (Denoter-F.Set h low high) = blank_out (shape.Set (nat_abs low) (nat_abs high)) ∙ simp outs-Set
in_layer (Denoter-F.Array low high item) = blank_out (shape.Array low high (shape_of item)) ∙ simp outs-Array
in_layer (Denoter-F.Fields fields) = blank_out (shape.Fields (map shape_of fields)) ∙ simp outs-Fields

pub type_blank_out : (t : Denoter) → blank_of (shape_of t) ≡ blank_layer (out-Denoter t)
type_blank_out t = ap blank_of (shape_out t) ∙ in_layer (out-Denoter t)

-- ---- a value in which nothing is set

pub blanked_out : (v : Value) → blanked v ≡ blank_step (map-Value Value Value blanked (out-Value v))
unfolding blanked
blanked_out v = fold_out-Value Value blank_step v
