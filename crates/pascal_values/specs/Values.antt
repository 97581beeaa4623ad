-- The parts of a value.
use Rattle.std.specs.Prelude.{ℕ, List, [], ◌∷◌, slice_get, slice_set, Option, Some, None}
use Rattle.pascal_values.specs.declared.value.Value.{Value, out-Value}
use Rattle.pascal_values.specs.declared.value.Value.TheVariants.{Array, Fields}
use Rattle.pascal_values.specs.declared.value.Value.TheOpen.{Value-F}

abbrev pub parts_at : Value-F Value → List Value
parts_at (Value-F.Array parts) = parts
parts_at (Value-F.Fields parts) = parts
parts_at _ = []

-- an array's items, or a record's fields
abbrev pub parts_of : Value → List Value
parts_of v = parts_at (out-Value v)

abbrev pub with_parts_at : Value-F Value → Value → List Value → Value
with_parts_at (Value-F.Array parts) v new = Array new
with_parts_at (Value-F.Fields parts) v new = Fields new
with_parts_at _ v new = v

-- the array or record with these parts
abbrev pub with_parts : Value → List Value → Value
with_parts v new = with_parts_at (out-Value v) v new

-- goes on into a part, if there is one
abbrev pub into : Option Value → (Value → Option Value) → Option Value
into None go = None
into (Some v) go = go v

-- the part at a way, which leads from part to part by their numbers from 0
abbrev pub part_of : Value → List ℕ → Option Value
part_of v [] = Some v
part_of v (k ∷ way) = into (slice_get (parts_of v) k) (λ p. part_of p way)

abbrev pub changed_by : List Value → ℕ → Option Value → (Value → Value) → List Value
changed_by parts k None change = parts
changed_by parts k (Some p) change = slice_set parts k (change p)

-- the parts with another at one place
abbrev pub changed_at : List Value → ℕ → (Value → Value) → List Value
changed_at parts k change = changed_by parts k (slice_get parts k) change

-- the value in which the part at a way is new, and no other part
abbrev pub with_part : Value → List ℕ → Value → Value
with_part v [] new = new
with_part v (k ∷ way) new = with_parts v (changed_at (parts_of v) k (λ p. with_part p way new))
