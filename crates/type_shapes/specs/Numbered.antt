-- Shapes with numbers, by what spells them.
use Rattle.std.specs.Prelude.{◌≡◌, ℕ, List, map}
use Rattle.std.specs.Str.{bytes_eq}
use Rattle.std.specs.Map.{lookup}
use Rattle.std.specs.List.{position_from}
use Rattle.pascal_values.specs.declared.value.Shape.{Shape}
use Rattle.type_shapes.specs.Spelling.{spelling}

-- what spells shapes, each with the number of a shape
abbrev pub Numbered : Type 0
Numbered = List (List ℕ × ℕ)

-- each spelling has the number of the first shape that is spelt so; the shapes are numbered from n
abbrev pub AreFirst : ℕ → List Shape → Numbered → Type 0
AreFirst n shapes numbers = (text : List ℕ) → lookup (bytes_eq text) numbers ≡ position_from (bytes_eq text) n (map spelling shapes)
