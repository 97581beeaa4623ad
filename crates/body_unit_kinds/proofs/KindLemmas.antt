-- The kinds of values, and of the values of a type.
use Rattle.std.proofs.Common.{◌≡◌, ◌∙◌, sym, ap, ℕ, Bool, List, Some, None, ℤ}
use Rattle.std.specs.Prelude.{if◌then◌else◌}
use Rattle.pascal_values.specs.declared.value.Value.{Value}
use Rattle.pascal_values.specs.declared.value.Value.TheVariants as values
use Rattle.pascal_values.specs.declared.value.Shape.{Shape, out-Shape}
use Rattle.pascal_values.specs.declared.value.Shape.TheOpen.{Shape-F}
use Rattle.pascal_values.specs.declared.value.Shape.TheVariants as shapes
use Rattle.pascal_values.specs.Sets.{IsRising}
use Rattle.estelle_model.specs.declared.denoter.Host.{Host}
use Rattle.estelle_model.specs.declared.denoter.Host.TheVariants as hosts
use Rattle.estelle_model.specs.declared.denoter.Denoter.{Denoter}
use Rattle.estelle_model.specs.declared.denoter.Denoter.TheVariants as denoters
use Rattle.estelle_model.specs.Types.{shape_of, ordinal_shape}
use Rattle.estelle_model.proofs.Fitting.{is_rises}
use Rattle.body_kinds.specs.Kinds.{Integer, Boolean, Character, Enumerated, Members, Whole, simple_kind, simple_kind_at, kind_of, kind_at}
use Rattle.body_unit_kinds.proofs.ShapeEquations.{shape_ordinal_is, shape_set_is, shape_array_is, shape_fields_is}

pub set_kind : (v : Value) (ns : List ℕ) → v ≡ values.Set ns → IsRising 0 ns 256 → Some Members ≡ simple_kind v
set_kind v ns e rising = sym (ap simple_kind e ∙ ap simple_kind_at (values.outs-Set ns) ∙ ap (λ (b : Bool). if b then Some Members else None) (is_rises 0 ns rising))

kind_out : (s : Shape) (o : Shape-F Shape) → out-Shape s ≡ o → kind_of s ≡ kind_at o s
kind_out s o e = ap (λ (t : Shape-F Shape). kind_at t s) e

module _ (d : Denoter) (h : Host) (low high : ℤ) (e : d ≡ denoters.Ordinal h low high) where
  ordinal : (k : Host) → h ≡ k → shape_of d ≡ ordinal_shape k low high
  ordinal k f = shape_ordinal_is d h low high e ∙ ap (λ (x : Host). ordinal_shape x low high) f

  pub integer_kind : h ≡ hosts.Integer → Integer ≡ kind_of (shape_of d)
  integer_kind f = sym (kind_out (shape_of d) _ (ap out-Shape (ordinal hosts.Integer f) ∙ shapes.outs-Int low high))

  pub boolean_kind : h ≡ hosts.Boolean → Boolean ≡ kind_of (shape_of d)
  boolean_kind f = sym (kind_out (shape_of d) _ (ap out-Shape (ordinal hosts.Boolean f) ∙ shapes.outs-Bool _ _))

  pub character_kind : h ≡ hosts.Char → Character ≡ kind_of (shape_of d)
  character_kind f = sym (kind_out (shape_of d) _ (ap out-Shape (ordinal hosts.Char f) ∙ shapes.outs-Char _ _))

  pub enumerated_kind : (last : ℕ) → h ≡ hosts.Enumeration last → Enumerated ≡ kind_of (shape_of d)
  enumerated_kind last f = sym (kind_out (shape_of d) _ (ap out-Shape (ordinal (hosts.Enumeration last) f) ∙ shapes.outs-Enum _ _))

pub members_kind : (d : Denoter) (h : Host) (low high : ℤ) → d ≡ denoters.Set h low high → Members ≡ kind_of (shape_of d)
members_kind d h low high e = sym (kind_out (shape_of d) _ (ap out-Shape (shape_set_is d h low high e) ∙ shapes.outs-Set _ _))

pub array_kind : (d : Denoter) (low high : ℤ) (item : Denoter) → d ≡ denoters.Array low high item → Whole (shape_of d) ≡ kind_of (shape_of d)
array_kind d low high item e = sym (kind_out (shape_of d) _ (ap out-Shape (shape_array_is d low high item e) ∙ shapes.outs-Array low high (shape_of item)))

pub fields_kind : (d : Denoter) (fields : List Denoter) → d ≡ denoters.Fields fields → Whole (shape_of d) ≡ kind_of (shape_of d)
fields_kind d fields e = sym (kind_out (shape_of d) _ (ap out-Shape (shape_fields_is d fields e) ∙ shapes.outs-Fields _))
