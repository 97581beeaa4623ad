-- Types, and the values that belong to them (ISO 7185, 6.4).
use Rattle.std.specs.Prelude.{ℕ, if◌then◌else◌, nat_abs, nat_eq, slice_get, unwrap_or, ℤ, pos, Result, Ok, Err}
use Rattle.pascal_values.specs.declared.fault.Fault.{Fault}
use Rattle.pascal_values.specs.declared.fault.Fault.TheVariants as fault
use Rattle.pascal_values.specs.declared.value.Value.{Value, out-Value}
use Rattle.pascal_values.specs.declared.value.Value.TheVariants as value
use Rattle.pascal_values.specs.declared.value.Value.TheOpen.{Value-F}
use Rattle.pascal_values.specs.declared.value.Shape.{Shape, out-Shape}
use Rattle.pascal_values.specs.declared.value.Shape.TheVariants as shape
use Rattle.pascal_values.specs.declared.value.Shape.TheOpen.{Shape-F}
use Rattle.pascal_values.specs.Integers.{is_between}
use Rattle.pascal_values.specs.Shapes.{bool_ordinal, place_of, fit_of}
use Rattle.estelle_tree.specs.Required.{maxint, least_integer}
use Rattle.estelle_model.specs.Stops.{Stop, Faults, Broken, stopping}
use Rattle.estelle_model.specs.declared.denoter.Host.{Host}
use Rattle.estelle_model.specs.declared.denoter.Host.TheVariants as host
use Rattle.estelle_model.specs.declared.denoter.Denoter.{Denoter, out-Denoter}
use Rattle.estelle_model.specs.declared.denoter.Denoter.TheVariants as denoter
use Rattle.estelle_model.specs.declared.denoter.Denoter.TheOpen.{Denoter-F}
use Rattle.estelle_model.specs.declared.denoter.Denoter.TheFolds.{fold-Denoter}

-- ---- ordinals

-- the least and the greatest ordinal of a host type
abbrev pub least : Host → ℤ
least host.Integer = least_integer
least _ = pos 0

abbrev pub greatest : Host → ℤ
greatest host.Integer = maxint
greatest host.Boolean = pos 1
greatest host.Char = pos 255
greatest (host.Enumeration last) = pos last

abbrev pub ordinal_at : Value-F Value → Result ℤ Stop
ordinal_at (Value-F.Int n) = Ok n
ordinal_at (Value-F.Bool b) = Ok (pos (bool_ordinal b))
ordinal_at (Value-F.Char n) = Ok (pos n)
ordinal_at (Value-F.Enum n) = Ok (pos n)
ordinal_at _ = Err Broken

-- the ordinal of a value of an ordinal type (ISO 7185, 6.6.6.4: `ord`)
abbrev pub ordinal_of : Value → Result ℤ Stop
ordinal_of v = ordinal_at (out-Value v)

-- the value of a host type with an ordinal
abbrev pub value_of : Host → ℤ → Value
value_of host.Integer n = value.Int n
value_of host.Boolean n = value.Bool (nat_eq (nat_abs n) 1)
value_of host.Char n = value.Char (nat_abs n)
value_of (host.Enumeration last) n = value.Enum (nat_abs n)

-- the value with an ordinal, where the host type has one
abbrev pub value_in : Host → ℤ → Result Value Stop
value_in h n = if is_between (least h) (greatest h) n then Ok (value_of h n) else Err (Faults fault.Range)

-- ---- types

abbrev pub ordinal_shape : Host → ℤ → ℤ → Shape
ordinal_shape host.Integer low high = shape.Int low high
ordinal_shape host.Boolean low high = shape.Bool (nat_abs low) (nat_abs high)
ordinal_shape host.Char low high = shape.Char (nat_abs low) (nat_abs high)
ordinal_shape (host.Enumeration last) low high = shape.Enum (nat_abs low) (nat_abs high)

abbrev pub shape_step : Denoter-F Shape → Shape
shape_step (Denoter-F.Ordinal h low high) = ordinal_shape h low high
shape_step (Denoter-F.Set h low high) = shape.Set (nat_abs low) (nat_abs high)
shape_step (Denoter-F.Array low high item) = shape.Array low high item
shape_step (Denoter-F.Fields fields) = shape.Fields fields

-- the values of a type, by its shape
unfoldable pub shape_of : Denoter → Shape
shape_of = fold-Denoter Shape shape_step

abbrev pub assignable_at : Shape-F Shape → Shape → Value → Result (Unit {0}) Fault
assignable_at (Shape-F.Array low high item) shape v = Ok tt
assignable_at (Shape-F.Fields fields) shape v = Ok tt
assignable_at _ shape v = fit_of shape v

-- whether a value is assignment-compatible with a type (ISO 7185, 6.4.6): a simple value or a set is tested; an array or a record has the type already
unfoldable pub assignable : Shape → Value → Result (Unit {0}) Fault
assignable shape v = assignable_at (out-Shape shape) shape v

-- the whole type of a host
abbrev pub whole : Host → Denoter
whole h = denoter.Ordinal h (least h) (greatest h)

abbrev pub host_at : Denoter-F Denoter → Host
host_at (Denoter-F.Ordinal h low high) = h
host_at (Denoter-F.Set h low high) = h
host_at _ = host.Integer

-- the host type of an ordinal type, or of a set's base
abbrev pub host_of : Denoter → Host
host_of t = host_at (out-Denoter t)

abbrev pub item_at : Denoter-F Denoter → Denoter → Denoter
item_at (Denoter-F.Array low high item) t = item
item_at _ t = t

-- the component type of an array type
abbrev pub item_of : Denoter → Denoter
item_of t = item_at (out-Denoter t) t

abbrev pub field_at : Denoter-F Denoter → ℕ → Denoter → Denoter
field_at (Denoter-F.Fields fields) k t = unwrap_or (slice_get fields k) t
field_at _ k t = t

-- the type of a record's field
abbrev pub field_of : Denoter → ℕ → Denoter
field_of t k = field_at (out-Denoter t) k t

abbrev pub place_at : Denoter-F Denoter → ℤ → Result ℕ Stop
place_at (Denoter-F.Array low high item) n = stopping (place_of low high n)
place_at _ n = Err Broken

-- the place of an index among the items of an array type; another type has none
abbrev pub item_place : Denoter → ℤ → Result ℕ Stop
item_place t n = place_at (out-Denoter t) n

abbrev pub range_at : Denoter-F Denoter → ℤ × ℤ
range_at (Denoter-F.Ordinal h low high) = (low, high)
range_at _ = (pos 1, pos 0)

-- the least and the greatest ordinal of an ordinal type
abbrev pub range_of : Denoter → ℤ × ℤ
range_of t = range_at (out-Denoter t)
