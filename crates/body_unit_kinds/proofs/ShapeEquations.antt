-- The shape of a type, one layer of the type at a time.
use Rattle.std.proofs.Common.{◌≡◌, ◌∙◌, sym, ap, List, ℤ, map}
use Rattle.std.specs.Prelude.{nat_abs}
use Rattle.pascal_values.specs.declared.value.Shape.{Shape}
use Rattle.pascal_values.specs.declared.value.Shape.TheVariants as shapes
use Rattle.estelle_model.specs.declared.denoter.Host.{Host}
use Rattle.estelle_model.specs.declared.denoter.Denoter.{Denoter, out-Denoter, map-Denoter, fold_out-Denoter}
use Rattle.estelle_model.specs.declared.denoter.Denoter.TheVariants as denoters
use Rattle.estelle_model.specs.Types.{shape_of, shape_step, ordinal_shape}

pub shape_is : (t : Denoter) → shape_of t ≡ shape_step (map-Denoter Denoter Shape shape_of (out-Denoter t))
unfolding shape_of
shape_is t = fold_out-Denoter Shape shape_step t

pub shape_ordinal_is : (t : Denoter) (h : Host) (low high : ℤ) → t ≡ denoters.Ordinal h low high → shape_of t ≡ ordinal_shape h low high
shape_ordinal_is t h low high e = shape_is t ∙ ap (λ d. shape_step (map-Denoter Denoter Shape shape_of d)) (ap out-Denoter e ∙ denoters.outs-Ordinal h low high)

pub shape_set_is : (t : Denoter) (h : Host) (low high : ℤ) → t ≡ denoters.Set h low high → shape_of t ≡ shapes.Set (nat_abs low) (nat_abs high)
shape_set_is t h low high e = shape_is t ∙ ap (λ d. shape_step (map-Denoter Denoter Shape shape_of d)) (ap out-Denoter e ∙ denoters.outs-Set h low high)

pub shape_array_is : (t : Denoter) (low high : ℤ) (item : Denoter) → t ≡ denoters.Array low high item → shape_of t ≡ shapes.Array low high (shape_of item)
shape_array_is t low high item e = shape_is t ∙ ap (λ d. shape_step (map-Denoter Denoter Shape shape_of d)) (ap out-Denoter e ∙ denoters.outs-Array low high item)

pub shape_fields_is : (t : Denoter) (fields : List Denoter) → t ≡ denoters.Fields fields → shape_of t ≡ shapes.Fields (map shape_of fields)
shape_fields_is t fields e = shape_is t ∙ ap (λ d. shape_step (map-Denoter Denoter Shape shape_of d)) (ap out-Denoter e ∙ denoters.outs-Fields fields)

-- a shape whose bounds and whose part are those of the type
pub array_shape : (s : Shape) (t : Denoter) (low high least most : ℤ) (part : Shape) (item : Denoter) → s ≡ shapes.Array least most part → t ≡ denoters.Array low high item → least ≡ low → most ≡ high → part ≡ shape_of item → s ≡ shape_of t
array_shape s t low high least most part item e f l m p =
    e ∙ ap (λ n. shapes.Array n most part) l ∙ ap (λ n. shapes.Array low n part) m ∙ ap (λ x. shapes.Array low high x) p ∙ sym (shape_array_is t low high item f)

pub fields_shape : (s : Shape) (t : Denoter) (parts : List Shape) (fields : List Denoter) → s ≡ shapes.Fields parts → t ≡ denoters.Fields fields → parts ≡ map shape_of fields → s ≡ shape_of t
fields_shape s t parts fields e f p = e ∙ ap shapes.Fields p ∙ sym (shape_fields_is t fields f)
