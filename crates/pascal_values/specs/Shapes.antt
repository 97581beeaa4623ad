-- The values of a type, by its shape.
use Rattle.std.specs.Prelude.{ℕ, ◌+◌, ◌^◌, ◌==◌, nat_lt, nat_le, nat_abs, Bool, true, false, ◌&&◌, if◌then◌else◌, List, [], ◌∷◌, length, map, replicate, ℤ, ◌-ℤ◌, Result, Ok, Err}
use Rattle.std.specs.List.{list_all}
use Rattle.std.specs.Int.RustNames.{int_le}
use Rattle.pascal_values.specs.declared.fault.Fault.{Fault}
use Rattle.pascal_values.specs.declared.fault.Fault.TheVariants as fault
use Rattle.pascal_values.specs.declared.value.Value.{Value, out-Value}
use Rattle.pascal_values.specs.declared.value.Value.TheVariants as value
use Rattle.pascal_values.specs.declared.value.Value.TheOpen.{Value-F}
use Rattle.pascal_values.specs.declared.value.Shape.{Shape}
use Rattle.pascal_values.specs.declared.value.Shape.TheFolds.{fold-Shape}
use Rattle.pascal_values.specs.declared.value.Shape.TheOpen.{Shape-F}
use Rattle.pascal_values.specs.Integers.{is_between}

-- how many items an array has
abbrev pub item_count : ℤ → ℤ → ℕ
item_count low high = if int_le low high then nat_abs (high -ℤ low) + 1 else 0

abbrev pub blank_step : Shape-F Value → Value
blank_step (Shape-F.Array low high item) = value.Array (replicate (item_count low high) item)
blank_step (Shape-F.Fields fields) = value.Fields fields
blank_step _ = value.Unset

-- the value whose simple parts and sets are unset
unfoldable pub blank_of : Shape → Value
blank_of = fold-Shape Value blank_step

abbrev pub has_ordinal : ℕ → ℕ → ℕ → Bool
has_ordinal low high n = nat_le low n && nat_le n high

abbrev pub bool_ordinal : Bool → ℕ
bool_ordinal b = if b then 1 else 0

-- each value passes the test of its place
abbrev pub each_passes : List (Value → Bool) → List Value → Bool
each_passes [] [] = true
each_passes [] (v ∷ vs) = false
each_passes (test ∷ tests) [] = false
each_passes (test ∷ tests) (v ∷ vs) = test v && each_passes tests vs

abbrev pub within_at : Shape-F (Value → Bool) → Value-F Value → Bool
within_at _ Value-F.Unset = true
within_at (Shape-F.Int low high) (Value-F.Int n) = is_between low high n
within_at (Shape-F.Bool low high) (Value-F.Bool b) = has_ordinal low high (bool_ordinal b)
within_at (Shape-F.Char low high) (Value-F.Char n) = has_ordinal low high n
within_at (Shape-F.Enum low high) (Value-F.Enum n) = has_ordinal low high n
within_at (Shape-F.Set low high) (Value-F.Set ns) = list_all (has_ordinal low high) ns
within_at (Shape-F.Array low high item) (Value-F.Array vs) = (length vs == item_count low high) && list_all item vs
within_at (Shape-F.Fields fields) (Value-F.Fields vs) = each_passes fields vs
within_at _ _ = false

abbrev pub within_step : Shape-F (Value → Bool) → Value → Bool
within_step shape v = within_at shape (out-Value v)

-- each part of the value that is set is of the shape's kind and lies within its bounds
unfoldable pub is_within : Shape → Value → Bool
is_within = fold-Shape (Value → Bool) within_step

-- each value lies within the shape of its place
abbrev pub each_within : List Shape → List Value → Bool
each_within shapes vs = each_passes (map is_within shapes) vs

abbrev pub is_unset_at : Value-F Value → Bool
is_unset_at Value-F.Unset = true
is_unset_at _ = false

-- the whole value is unset
abbrev pub is_unset : Value → Bool
is_unset v = is_unset_at (out-Value v)

-- whether a value may be assigned to a variable of a type
abbrev pub fit_of : Shape → Value → Result (Unit {0}) Fault
fit_of shape v = if is_unset v then Err fault.Unset else (if is_within shape v then Ok tt else Err fault.Range)

abbrev pub placed : ℕ → Result ℕ Fault
placed n = if nat_lt n (2 ^ 32) then Ok n else Err fault.Index

-- the place of an index among an array's items, which are 2 ^ 32 at most
abbrev pub place_of : ℤ → ℤ → ℤ → Result ℕ Fault
place_of low high n = if is_between low high n then placed (nat_abs (n -ℤ low)) else Err fault.Index
