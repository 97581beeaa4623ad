-- The specification's own instance as it is made.
use Rattle.std.proofs.Common.{◌≡◌, ◌∙◌, List, [], ◌∷◌, map, replicate, length, drop, Option, Some, None, refl, ap, sym, subst, arith}
use Rattle.std.specs.Prelude.{option_map}
use Rattle.std.specs.FinMap as fin
use Rattle.estelle_tree.specs.Paths.{Path, path_cmp}
use Rattle.pascal_values.specs.Shapes.{blank_of}
use Rattle.estelle_model.specs.declared.denoter.Denoter.{Denoter}
use Rattle.estelle_model.specs.declared.image.Image.{Image}
use Rattle.estelle_model.specs.Types.{shape_of}
use Rattle.estelle_model.specs.Bodies.{BodyAlone, module_variables_in, variable_types}
use Rattle.estelle_model.specs.Subject.{Subject, meant, body, blanks, types_of_variables, new_instance}
use Rattle.estelle_model.specs.Firing.{alone, bare}
use Rattle.estelle_model.specs.Computed.{core_of}
use Rattle.estelle_model.specs.Core.{Instance}
use Rattle.estelle_model.specs.Jobs.{part_of_entry}
use Rattle.estelle_model.proofs.Maps.{total}
use Rattle.estelle_model_legality.specs.Jobs.{image_of}
use Rattle.body_state.specs.Bodies.{module_body}
use Rattle.body_state.specs.InOrder.{InOrder}
use Rattle.body_jobs.specs.Roots.{root_part, root_image}
use Rattle.body_jobs.proofs.JobLemmas.{shown_in_order}

blanks_are : (ts : List Denoter) → map blank_of (map shape_of ts) ≡ blanks ts
blanks_are [] = refl
blanks_are (t ∷ ts) = ap (λ vs. blank_of (shape_of t) ∷ vs) (blanks_are ts)

drop_none : {A : Type 0} (xs : List A) → xs ≡ drop 0 xs
drop_none [] = refl
drop_none (x ∷ xs) = refl

-- its part is that of the instance
pub part_is : (s : Subject) (b : BodyAlone) → root_part (module_body s 0 b) ≡ part_of_entry ([], new_instance s 0 b [])
part_is s b =
    let ts = variable_types (meant s) b in
    ap (λ vs. record { path = []; body = 0; state = None; vars = vs; modvars = replicate (length (module_variables_in b)) None; births = 0 })
    (blanks_are ts ∙ ap blanks (drop_none ts))

no_length : {A : Type 0} (xs : List A) → length xs ≡ 0 → xs ≡ []
no_length [] e = refl
no_length (x ∷ xs) e = absurd (omega (arith, e))

nothing_there : fin.entries (fin.empty {K = Path} {X = Instance} {R = path_cmp}) ≡ []
nothing_there = no_length _ (sym (fin.len-entries (fin.empty {K = Path} {X = Instance} {R = path_cmp})) ∙ fin.len-empty path_cmp Instance)

shown : (s : Subject) (o : Option BodyAlone) → root_image (option_map (module_body s 0) o) ≡ record { parts = map part_of_entry (fin.entries (alone (option_map (λ b. new_instance s 0 b []) o))); links = [] }
shown s None = (λ i. record { parts = map part_of_entry (sym nothing_there i); links = [] })
shown s (Some b) =
    let one : fin.entries (alone (Some (new_instance s 0 b []))) ≡ ([], new_instance s 0 b []) ∷ [] = fin.entries-insert total fin.empty [] (new_instance s 0 b []) ∙ ap (fin.put path_cmp [] (new_instance s 0 b [])) nothing_there in
    (λ i. record { parts = part_is s b i ∷ []; links = [] }) ∙ (λ i. record { parts = map part_of_entry (sym one i); links = [] })

-- it is the image of that instance alone
pub root_shown : (s : Subject) (image : Image) → image ≡ root_image (option_map (module_body s 0) (body s 0)) → image ≡ image_of (bare s).core
root_shown s image is = is ∙ shown s (body s 0)

made : (s : Subject) (o : Option BodyAlone) → core_of s (root_image (option_map (module_body s 0) o)) ≡ record { instances = alone (option_map (λ b. new_instance s 0 b []) o); links = []; types = types_of_variables s }
made s None = refl
made s (Some b) = ap (λ p. core_of s (record { parts = p ∷ []; links = [] })) (part_is s b)

-- its image shows it alone
pub root_core : (s : Subject) (image : Image) → image ≡ image_of (bare s).core → core_of s image ≡ (bare s).core
root_core s image is = ap (core_of s) (is ∙ sym (shown s (body s 0))) ∙ made s (body s 0)

pub root_in_order : (s : Subject) (image : Image) → image ≡ image_of (bare s).core → InOrder image.parts
root_in_order s image is = subst (λ (x : Image). InOrder x.parts) (sym is) (shown_in_order (bare s).core.instances)
