-- What spells a shape, by one equation for each kind of shape.
use Rattle.std.proofs.Common.{◌≡◌, ◌∙◌, ap, List, [], ◌∷◌, ◌++◌, map, length, ℕ, refl, append_assoc}
use Rattle.std.specs.Prelude.{pos}
use Rattle.std.specs.List.{flat_map}
use Rattle.std.proofs.lemmas.List.Folds.{flat_map-map}
use Rattle.std.proofs.lemmas.List.{length-map}
use Rattle.pascal_values.specs.declared.value.Shape.{Shape, out-Shape, map-Shape, fold_out-Shape}
use Rattle.pascal_values.specs.declared.value.Shape.TheOpen.{Shape-F}
use Rattle.type_shapes.specs.Spelling.{kind, spelling, spelling_step}

abbrev pub spelling_layer : Shape-F Shape → List ℕ
spelling_layer (Shape-F.Int low high) = kind 0 low high
spelling_layer (Shape-F.Bool low high) = kind 1 (pos low) (pos high)
spelling_layer (Shape-F.Char low high) = kind 2 (pos low) (pos high)
spelling_layer (Shape-F.Enum low high) = kind 3 (pos low) (pos high)
spelling_layer (Shape-F.Set low high) = kind 4 (pos low) (pos high)
spelling_layer (Shape-F.Array low high item) = spelling item ++ kind 5 low high
spelling_layer (Shape-F.Fields fields) = flat_map spelling fields ++ kind 6 (pos (length fields)) (pos 0)

pub by_layer : (l : Shape-F Shape) → spelling_step (map-Shape Shape (List ℕ) spelling l) ≡ spelling_layer l
by_layer (Shape-F.Int low high) = refl
by_layer (Shape-F.Bool low high) = refl
by_layer (Shape-F.Char low high) = refl
by_layer (Shape-F.Enum low high) = refl
by_layer (Shape-F.Set low high) = refl
by_layer (Shape-F.Array low high item) = refl
by_layer (Shape-F.Fields fields) = λ i. flat_map-map (λ x. x) spelling fields i ++ kind 6 (pos (length-map fields spelling i)) (pos 0)

pub spelling_is : (shape : Shape) → spelling shape ≡ spelling_layer (out-Shape shape)
unfolding spelling
spelling_is shape = fold_out-Shape (List ℕ) spelling_step shape ∙ by_layer (out-Shape shape)

pub ruleset spelling_rules = (spelling_is, append_assoc)
