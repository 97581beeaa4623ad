-- Shapes by lists of numbers that tell them apart.
use Rattle.std.specs.Prelude.{ℕ, List, [], ◌∷◌, ◌++◌, length, map, flat_map, nat_abs, ℤ, pos, negsuc, Option}
use Rattle.std.specs.List.{position_from}
use Rattle.std.specs.Str.{bytes_eq}
use Rattle.pascal_values.specs.declared.value.Shape.{Shape}
use Rattle.pascal_values.specs.declared.value.Shape.TheOpen.{Shape-F}
use Rattle.pascal_values.specs.declared.value.Shape.TheFolds.{fold-Shape}

abbrev pub sign : ℤ → ℕ
sign (pos n) = 0
sign (negsuc n) = 1

-- an integer
abbrev pub integer : ℤ → List ℕ
integer n = sign n ∷ nat_abs n ∷ []

-- a kind of shapes, with its bounds
unfoldable pub kind : ℕ → ℤ → ℤ → List ℕ
kind k low high = k ∷ integer low ++ integer high

-- the parts before the whole; a record is spelt with the count of its fields
abbrev pub spelling_step : Shape-F (List ℕ) → List ℕ
spelling_step (Shape-F.Int low high) = kind 0 low high
spelling_step (Shape-F.Bool low high) = kind 1 (pos low) (pos high)
spelling_step (Shape-F.Char low high) = kind 2 (pos low) (pos high)
spelling_step (Shape-F.Enum low high) = kind 3 (pos low) (pos high)
spelling_step (Shape-F.Set low high) = kind 4 (pos low) (pos high)
spelling_step (Shape-F.Array low high item) = item ++ kind 5 low high
spelling_step (Shape-F.Fields fields) = flat_map (λ x. x) fields ++ kind 6 (pos (length fields)) (pos 0)

unfoldable pub spelling : Shape → List ℕ
spelling = fold-Shape (List ℕ) spelling_step

-- the first place of a shape among others
abbrev pub first_of : List Shape → Shape → Option ℕ
first_of shapes shape = position_from (bytes_eq (spelling shape)) 0 (map spelling shapes)
