-- Which values belong to a type, unset parts allowed; and what may be stored in a variable, or a part of one, by its declared type.
use Rattle.std.specs.Prelude.{ℕ, ◌+◌, nat_le, Bool, true, false, ◌&&◌, ◌==◌, List, [], ◌∷◌, length, map as each, slice_get, Option, Some, None}
use Rattle.std.specs.List.{list_all}
use Rattle.pascal_values.specs.declared.value.Value.{Value, out-Value}
use Rattle.pascal_values.specs.declared.value.Value.TheOpen.{Value-F}
use Rattle.pascal_values.specs.declared.value.Shape.{Shape, out-Shape}
use Rattle.pascal_values.specs.declared.value.Shape.TheFolds.{fold-Shape}
use Rattle.pascal_values.specs.declared.value.Shape.TheOpen.{Shape-F}
use Rattle.pascal_values.specs.Integers.{is_between}
use Rattle.pascal_values.specs.Shapes.{item_count, has_ordinal, bool_ordinal, each_passes}
use Rattle.estelle_model.specs.declared.denoter.Denoter.{Denoter}
use Rattle.estelle_model.specs.Types.{shape_of}

-- the ordinals rise, from low on, and end below 256
abbrev pub rises : ℕ → List ℕ → Bool
rises low [] = nat_le low 256
rises low (n ∷ ns) = nat_le low n && rises (n + 1) ns

-- a value is of the type's kind with all its parts, and each simple part or set lies within its bounds or is unset; the members of a set rise
abbrev pub belongs_at : Shape-F (Value → Bool) → Value-F Value → Bool
belongs_at (Shape-F.Array low high item) (Value-F.Array vs) = (length vs == item_count low high) && list_all item vs
belongs_at (Shape-F.Array low high item) _ = false
belongs_at (Shape-F.Fields fields) (Value-F.Fields vs) = each_passes fields vs
belongs_at (Shape-F.Fields fields) _ = false
belongs_at _ Value-F.Unset = true
belongs_at (Shape-F.Int low high) (Value-F.Int n) = is_between low high n
belongs_at (Shape-F.Bool low high) (Value-F.Bool b) = has_ordinal low high (bool_ordinal b)
belongs_at (Shape-F.Char low high) (Value-F.Char n) = has_ordinal low high n
belongs_at (Shape-F.Enum low high) (Value-F.Enum n) = has_ordinal low high n
belongs_at (Shape-F.Set low high) (Value-F.Set ns) = rises 0 ns && list_all (has_ordinal low high) ns
belongs_at _ _ = false

abbrev pub belongs_step : Shape-F (Value → Bool) → Value → Bool
belongs_step shape v = belongs_at shape (out-Value v)

unfoldable pub belongs : Shape → Value → Bool
belongs = fold-Shape (Value → Bool) belongs_step

-- there is a value for each type, and it belongs to it
abbrev pub are_values_of : List Denoter → List Value → Bool
are_values_of ts vs = each_passes (each (λ t. belongs (shape_of t)) ts) vs

-- ---- parts of variables

-- an item of an array, or a field of a record
abbrev pub part_at : Shape-F Shape → ℕ → Option Shape
part_at (Shape-F.Array low high item) k = Some item
part_at (Shape-F.Fields fields) k = slice_get fields k
part_at _ k = None

-- goes on into the shape of a part, if there is one
abbrev pub into_shape : Option Shape → (Shape → Option Shape) → Option Shape
into_shape None go = None
into_shape (Some shape) go = go shape

-- the shape of the part at a way
abbrev pub shape_at : Shape → List ℕ → Option Shape
shape_at shape [] = Some shape
shape_at shape (k ∷ way) = into_shape (part_at (out-Shape shape) k) (λ part. shape_at part way)

abbrev pub belongs_to : Option Shape → Value → Bool
belongs_to None v = false
belongs_to (Some shape) v = belongs shape v

-- the value belongs to the part at a way of the variable with a number, of variables of these types
abbrev pub may_store : List Denoter → ℕ → List ℕ → Value → Bool
may_store types x way v = belongs_to (into_shape (slice_get (each shape_of types) x) (λ shape. shape_at shape way)) v
