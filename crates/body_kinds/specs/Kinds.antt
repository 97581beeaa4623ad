-- The kinds of what stands on stacks, and the values and parts that are of them.
use Rattle.std.specs.Prelude.{◌≡◌, ℕ, Bool, true, false, if◌then◌else◌, nat_lt, List, [], ◌∷◌, slice_get, Option, Some, None, ℤ}
use Rattle.pascal_values.specs.declared.value.Value.{Value, out-Value}
use Rattle.pascal_values.specs.declared.value.Value.TheOpen.{Value-F}
use Rattle.pascal_values.specs.declared.value.Shape.{Shape, out-Shape}
use Rattle.pascal_values.specs.declared.value.Shape.TheOpen.{Shape-F}
use Rattle.pascal_values.specs.Shapes.{item_count}
use Rattle.estelle_model.specs.Belonging.{rises, belongs, into_shape}

pub data Kind : Type 0 where
  Integer : Kind
  Boolean : Kind
  Character : Kind
  Enumerated : Kind
  Members : Kind
  -- an array or a record
  Whole : (shape : Shape) → Kind
  PlaceOf : (shape : Shape) → Kind

-- ---- values

abbrev pub is_of_at : Kind → Value → Value-F Value → Bool
is_of_at Integer v (Value-F.Int n) = true
is_of_at Boolean v (Value-F.Bool b) = true
is_of_at Character v (Value-F.Char n) = true
is_of_at Enumerated v (Value-F.Enum n) = true
is_of_at Members v (Value-F.Set ns) = rises 0 ns
is_of_at (Whole shape) v _ = belongs shape v
is_of_at _ v _ = false

-- the value is of the kind and set, and may lie beyond the bounds of its type
abbrev pub is_of : Kind → Value → Bool
is_of k v = is_of_at k v (out-Value v)

-- a kind of values with ordinals
abbrev pub is_ordinal : Kind → Bool
is_ordinal Integer = true
is_ordinal Boolean = true
is_ordinal Character = true
is_ordinal Enumerated = true
is_ordinal _ = false

-- a kind of values that the order of sets compares, and others
abbrev pub is_compared : Kind → Bool
is_compared Members = true
is_compared k = is_ordinal k

-- a kind of what is added, subtracted and multiplied: for sets these are union, difference and intersection
abbrev pub is_added : Kind → Bool
is_added Integer = true
is_added Members = true
is_added _ = false

-- a kind of values
abbrev pub is_of_values : Kind → Bool
is_of_values (PlaceOf shape) = false
is_of_values _ = true

abbrev pub simple_kind_at : Value-F Value → Option Kind
simple_kind_at (Value-F.Int n) = Some Integer
simple_kind_at (Value-F.Bool b) = Some Boolean
simple_kind_at (Value-F.Char n) = Some Character
simple_kind_at (Value-F.Enum n) = Some Enumerated
simple_kind_at (Value-F.Set ns) = if rises 0 ns then Some Members else None
simple_kind_at _ = None

-- the kind of a simple value or a set, if it is set
abbrev pub simple_kind : Value → Option Kind
simple_kind v = simple_kind_at (out-Value v)

abbrev pub kind_at : Shape-F Shape → Shape → Kind
kind_at (Shape-F.Int low high) shape = Integer
kind_at (Shape-F.Bool low high) shape = Boolean
kind_at (Shape-F.Char low high) shape = Character
kind_at (Shape-F.Enum low high) shape = Enumerated
kind_at (Shape-F.Set low high) shape = Members
kind_at (Shape-F.Array low high item) shape = Whole shape
kind_at (Shape-F.Fields fields) shape = Whole shape

-- the kind of the values of a shape
abbrev pub kind_of : Shape → Kind
kind_of shape = kind_at (out-Shape shape) shape

-- ---- parts

-- an item that an array has, or a field of a record
abbrev pub part_in : Shape-F Shape → ℕ → Option Shape
part_in (Shape-F.Array low high item) k = if nat_lt k (item_count low high) then Some item else None
part_in (Shape-F.Fields fields) k = slice_get fields k
part_in _ k = None

-- the shape of the part at a way that each value of the shape has
abbrev pub shape_in : Shape → List ℕ → Option Shape
shape_in shape [] = Some shape
shape_in shape (k ∷ way) = into_shape (part_in (out-Shape shape) k) (λ part. shape_in part way)

-- the shape itself, or an array inside the array, by fewer indices than it has
pub data StoresInto : Shape → Shape → Type 0 where
  itself : (shape : Shape) → StoresInto shape shape
  inside : (outer item shape part : Shape) (low high least greatest : ℤ) → out-Shape outer ≡ Shape-F.Array low high item → out-Shape item ≡ Shape-F.Array least greatest part → StoresInto item shape → StoresInto outer shape
