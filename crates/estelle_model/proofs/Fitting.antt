-- Which values fit the types of the examples.
use Rattle.std.proofs.Common.{◌≡◌, ℕ, ◌+◌, Bool, true, ◌&&◌, List, [], ◌∷◌, ℤ, Ok, Err, ap, ◌∙◌}
use Rattle.std.specs.Prelude.{if◌then◌else◌, nat_le}
use Rattle.std.proofs.lemmas.Bool.{leb-true, le-leb}
use Rattle.pascal_values.specs.declared.fault.Fault.TheVariants as fault
use Rattle.pascal_values.specs.declared.value.Value.{Value, out-Value, fold_out-Value}
use Rattle.pascal_values.specs.declared.value.Value.TheVariants as pascal
use Rattle.pascal_values.specs.declared.value.Value.TheVariants.{outs-Int, outs-Enum}
use Rattle.pascal_values.specs.declared.value.Shape.TheVariants as shape
use Rattle.pascal_values.specs.declared.value.Shape.TheVariants.{outs-Int as outs-IntShape, outs-Bool as outs-BoolShape, outs-Char as outs-CharShape, outs-Enum as outs-EnumShape}
use Rattle.pascal_values.specs.declared.value.Shape.{Shape, out-Shape, map-Shape, fold_out-Shape}
use Rattle.pascal_values.specs.Integers.{is_between}
use Rattle.pascal_values.specs.Sets.{IsRising}
use Rattle.pascal_values.specs.Shapes.{has_ordinal, is_within, fit_of, blank_of}
use Rattle.pascal_values.proofs.ShapeLemmas.{within_out, blank_out}
use Rattle.estelle_model.specs.declared.denoter.Host.{Host}
use Rattle.estelle_model.specs.declared.denoter.Host.TheVariants as host
use Rattle.estelle_model.specs.declared.denoter.Denoter.{fold_out-Denoter}
use Rattle.estelle_model.specs.declared.denoter.Denoter.TheVariants as denoter
use Rattle.estelle_model.specs.declared.denoter.Denoter.TheVariants.{outs-Ordinal}
use Rattle.estelle_model.specs.Belonging.{rises, belongs, belongs_at, belongs_step}
use Rattle.estelle_model.specs.Types.{shape_of, shape_step, ordinal_shape, assignable}
use Rattle.estelle_model.specs.Places.{blank_step, blanked}
use Rattle.estelle_model.proofs.PrivateParts.{left_true, right_true}

pub shape_ordinal : (h : Host) (low high : ℤ) → shape_of (denoter.Ordinal h low high) ≡ ordinal_shape h low high
unfolding shape_of
shape_ordinal h low high = fold_out-Denoter Shape shape_step (denoter.Ordinal h low high) ∙ simp (outs-Ordinal)

pub within_int : (low high n : ℤ) → is_within (shape.Int low high) (pascal.Int n) ≡ is_between low high n
within_int low high n = within_out (shape.Int low high) (pascal.Int n) ∙ simp (outs-IntShape, outs-Int)

-- what belongs to a shape, one layer of it at a time
pub belongs_out : (s : Shape) (v : Value) → belongs s v ≡ belongs_at (map-Shape Shape (Value → Bool) belongs (out-Shape s)) (out-Value v)
unfolding belongs
belongs_out s v = ap (λ (f : Value → Bool). f v) (fold_out-Shape (Value → Bool) belongs_step s)

pub belongs_int : (low high n : ℤ) → belongs (shape.Int low high) (pascal.Int n) ≡ is_between low high n
belongs_int low high n = belongs_out (shape.Int low high) (pascal.Int n) ∙ simp (outs-IntShape, outs-Int)

-- the test of a set's members

pub rises_is : (low : ℕ) (ns : List ℕ) → rises low ns ≡ true → IsRising low ns 256
rises_is low [] h = leb-true low 256 h
rises_is low (n ∷ ns) h = (leb-true low n (left_true (nat_le low n) (rises (n + 1) ns) h), rises_is (n + 1) ns (right_true (nat_le low n) (rises (n + 1) ns) h))

pub is_rises : (low : ℕ) (ns : List ℕ) → IsRising low ns 256 → rises low ns ≡ true
is_rises low [] h = le-leb low 256 h
is_rises low (n ∷ ns) h = ap (λ b. b && rises (n + 1) ns) (le-leb low n h.0) ∙ is_rises (n + 1) ns h.1

-- an ordinal value is tested where it is assigned
pub assignable_ordinal : (h : Host) (low high : ℤ) (v : Value) → assignable (ordinal_shape h low high) v ≡ fit_of (ordinal_shape h low high) v
unfolding assignable
assignable_ordinal host.Integer low high v = simp (outs-IntShape)
assignable_ordinal host.Boolean low high v = simp (outs-BoolShape)
assignable_ordinal host.Char low high v = simp (outs-CharShape)
assignable_ordinal (host.Enumeration last) low high v = simp (outs-EnumShape)

pub within_enum : (low high n : ℕ) → is_within (shape.Enum low high) (pascal.Enum n) ≡ has_ordinal low high n
within_enum low high n = within_out (shape.Enum low high) (pascal.Enum n) ∙ simp (outs-EnumShape, outs-Enum)

-- a simple value is unset
pub blanked_int : (n : ℤ) → blanked (pascal.Int n) ≡ pascal.Unset
unfolding blanked
blanked_int n = fold_out-Value Value blank_step (pascal.Int n) ∙ simp (outs-Int)

-- a variable of a subrange of integer begins unset
pub blank_int : (low high : ℤ) → blank_of (shape.Int low high) ≡ pascal.Unset
blank_int low high = blank_out (shape.Int low high) ∙ simp (outs-IntShape)
