-- What is held of a specification gives its numbers.
use Rattle.std.proofs.Common.{◌≡◌, ◌∙◌, ap, sym, ℕ, List, [], map, length, refl, Option, Some, None, Result, Ok, Err}
use Rattle.std.specs.Prelude.{IfOk, option_map, option_and_then, slice_get, unwrap_or}
use Rattle.std.specs.Map.{lookup}
use Rattle.std.specs.Str.{bytes_eq}
use Rattle.std.proofs.lemmas.Option.{slice_get-map}
use Rattle.std.proofs.lemmas.List.{length-map}
use Rattle.pascal_values.specs.declared.value.Shape.{Shape}
use Rattle.estelle_tree.specs.declared.tree.declaration.Routine.{Routine as RoutineTree}
use Rattle.estelle_model.specs.declared.denoter.Denoter.{Denoter}
use Rattle.estelle_model.specs.Types.{shape_of}
use Rattle.estelle_model.specs.Bodies.{BodyAlone, bodies}
use Rattle.estelle_model.specs.Subject.{Subject, meant}
use Rattle.type_shapes.specs.TypeNodes.{shapes_of}
use Rattle.type_shapes.specs.Spelling.{spelling, first_of}
use Rattle.body_numbers.specs.declared.numbers.Numbers.{Numbers}
use Rattle.body_program_numbers.specs.declared.numbering.Numbering.TheInside.{Inside}
use Rattle.body_program_numbers.specs.declared.outline.Standing.{Standing}
use Rattle.body_program_numbers.specs.Outline as outline
use Rattle.body_program_numbers.specs.Found.{routines, standing_of, standings, routine_lists}
use Rattle.body_program_numbers.specs.Held.{HoldsAll}
use Rattle.body_program_numbers.specs.Numbering.{numbers_of, number_of, routines_of, word_of_body, name_word}

pub if_ok : {T E : Type 0} {P Q : T → Type 0} (r : Result T E) → ((v : T) → P v → Q v) → IfOk r P → IfOk r Q
if_ok (Ok v) f p = f v p
if_ok (Err e) f p = tt

module _ (n : Inside) (holds : HoldsAll n) where
  -- the first number of a shape
  pub shape_found : (s : Subject) (shape : Shape) (d : Denoter) (k : Option ℕ) → n.program.now ≡ s → shape ≡ shape_of d → k ≡ lookup (bytes_eq (spelling shape)) n.shapes → k ≡ number_of s (shape_of d)
  shape_found s shape d k view is found =
      found
      ∙ holds.shapes (spelling shape)
      ∙ ap (λ (m : Numbers). first_of m.shapes shape) holds.numbers
      ∙ ap (λ (u : Subject). first_of (shapes_of (meant u) u.specification) shape) view
      ∙ ap (number_of s) is

  -- the body with a number
  found_body : (s : Subject) (k : ℕ) → n.program.now ≡ s → option_map standing_of (slice_get n.bodies k) ≡ slice_get (bodies s.specification) k
  found_body s k view = sym (slice_get-map standing_of n.bodies k) ∙ ap (λ (bs : List BodyAlone). slice_get bs k) (holds.bodies ∙ ap (λ (u : Subject). bodies u.specification) view)

  pub word_found : (s : Subject) (k : ℕ) → n.program.now ≡ s → option_map (λ (x : Standing). name_word n.name.now.word (standing_of x).name) (slice_get n.bodies k) ≡ word_of_body s k
  word_found s k view = by (slice_get n.bodies k) ∙ ap (option_map (λ (b : BodyAlone). name_word n.name.now.word b.name)) (found_body s k view) ∙ ap (λ w. option_map (λ (b : BodyAlone). name_word w b.name) (slice_get (bodies s.specification) k)) (ap (λ x. x.word) holds.name ∙ ap (λ (u : Subject). u.specification.name.word) view)
    where
      by : (o : Option Standing) → option_map (λ (x : Standing). name_word n.name.now.word (standing_of x).name) o ≡ option_map (λ (b : BodyAlone). name_word n.name.now.word b.name) (option_map standing_of o)
      by None = refl
      by (Some x) = refl

  pub routines_found : (s : Subject) (k : ℕ) → n.program.now ≡ s → unwrap_or (option_map (λ (x : Standing). routines x.routines) (slice_get n.bodies k)) [] ≡ routines_of s k
  routines_found s k view = ap (λ o. unwrap_or o []) (sym (slice_get-map (λ (x : Standing). routines x.routines) n.bodies k) ∙ ap (λ (ls : List (List RoutineTree)). slice_get ls k) (holds.lists ∙ ap (λ (u : Subject). outline.routine_lists u.specification) view))

  pub count_found : (s : Subject) → n.program.now ≡ s → length n.bodies ≡ length (bodies s.specification)
  count_found s view = sym (length-map n.bodies standing_of) ∙ ap (λ (bs : List BodyAlone). length bs) (holds.bodies ∙ ap (λ (u : Subject). bodies u.specification) view)
