-- What is told of bodies by the parts of the tree is what the definitions say of them.
use Rattle.std.proofs.Common.{◌≡◌, ◌∙◌, ℕ, ◌+◌, zero, suc, add-one, false, Bool, List, [], ◌∷◌, ◌++◌, refl, ap, sym, length, map, replicate, Option, Some, None, append-nil, append_assoc, length-append}
use Rattle.std.specs.Prelude.{option_map, option_and_then}
use Rattle.std.specs.List.{flat_map, slice_get}
use Rattle.std.proofs.lemmas.List.{map-append, length-replicate}
use Rattle.std.proofs.lemmas.List.Folds.{flat_map-map}
use Rattle.estelle_tree.specs.declared.tree.name.Name.{Name}
use Rattle.estelle_tree.specs.declared.tree.specification.ModvarDecl.{ModvarDecl}
use Rattle.estelle_tree.specs.declared.tree.specification.Body.{Body, out-Body}
use Rattle.estelle_tree.specs.declared.tree.specification.Parts.{Parts, out-Parts}
use Rattle.estelle_tree.specs.declared.tree.specification.Decl.{Decl, out-Decl}
use Rattle.estelle_tree.specs.declared.tree.specification.Decl.TheOpen.{Decl-F}
use Rattle.estelle_model.specs.Meant.{Meanings}
use Rattle.estelle_model.specs.Denoted.{section_types}
use Rattle.estelle_model.specs.Bodies.{Contribution, BodyAlone, default_of, bodies, heading, heading_of, interaction_point, interaction_points, system_attribute}
use Rattle.estelle_model.specs.Subject.{Subject, body}
use Rattle.estelle_model.specs.Attributes.{attribute, header_attribute}
use Rattle.meaning_table.specs.Known.{Known, meanings_of}
use Rattle.body_table.specs.Contributions.{variables_of, modvar_names, modules_at, modules_of, module_headers_at, ips_of, bodies_of, brought_of}
use Rattle.body_table.specs.Standings as stand
use Rattle.body_table.specs.Standings.{standing, inner, inner_of}
use Rattle.body_table.proofs.WayEquations.{nested}
use Rattle.body_table.proofs.BodyEquations.{body_is, parts_is}
use Rattle.body_state.specs.declared.bodies.ModuleBody.{ModuleBody}
use Rattle.body_state.specs.Bodies.{module_body, bodies_from, module_bodies}
use Rattle.body_program.specs.declared.flat.BodyTransitions.{BodyTransitions}
use Rattle.body_program.specs.Headings.{of_heading}
use Rattle.body_program.specs.Own.{headers_at, headers_by, headers_in}
use Rattle.body_program.specs.Chosen.{transitions_by}
use Rattle.body_program.specs.Told.{has_some, told, inner_body, flat_at, bodies_in, flats_in, root_part, all_told, all_flat}
use Rattle.body_program.specs.Programs.{known_of}

-- ---- module variables

same_length : (known : Meanings) (ms : List ModvarDecl) → length (flat_map (headers_at known) ms) ≡ length (flat_map modvar_names ms)
same_length known [] = refl
same_length known (m ∷ ms) =
    length-append (headers_at known m) (flat_map (headers_at known) ms)
    ∙ (λ i. length-replicate (length m.names.names) (heading_of (known m.header)).at i + same_length known ms i)
    ∙ sym (length-append (modvar_names m) (flat_map modvar_names ms))

same_length_at : (known : Meanings) (l : Decl-F Decl Body Parts) → length (headers_by known l) ≡ length (modules_at l)
same_length_at known (Decl-F.Const defs span) = refl
same_length_at known (Decl-F.Types defs span) = refl
same_length_at known (Decl-F.Channel c) = refl
same_length_at known (Decl-F.Header h) = refl
same_length_at known (Decl-F.Body b) = refl
same_length_at known (Decl-F.Ip ips span) = refl
same_length_at known (Decl-F.Modvar ms span) = same_length known ms
same_length_at known (Decl-F.Var vars span) = refl
same_length_at known (Decl-F.State states span) = refl
same_length_at known (Decl-F.Stateset sets span) = refl
same_length_at known (Decl-F.Routine r) = refl

same_lengths : (known : Meanings) (ds : List Decl) → length (flat_map (headers_in known) ds) ≡ length (flat_map modules_of ds)
same_lengths known [] = refl
same_lengths known (d ∷ ds) =
    length-append (headers_in known d) (flat_map (headers_in known) ds)
    ∙ (λ i. same_length_at known (out-Decl d) i + same_lengths known ds i)
    ∙ sym (length-append (modules_of d) (flat_map modules_of ds))

abbrev place : Meanings → Name → ℕ
place known x = (heading_of (known x)).at

repeated : (known : Meanings) (n : ℕ) (x : Name) → map (place known) (replicate n x) ≡ replicate n (place known x)
repeated known zero x = refl
repeated known (suc n) x = ap (λ ps. place known x ∷ ps) (repeated known n x)

places : (known : Meanings) (ms : List ModvarDecl) → map (place known) (flat_map (λ m. replicate (length m.names.names) m.header) ms) ≡ flat_map (headers_at known) ms
places known [] = refl
places known (m ∷ ms) =
    map-append (place known) (replicate (length m.names.names) m.header) (flat_map (λ m. replicate (length m.names.names) m.header) ms)
    ∙ (λ i. repeated known (length m.names.names) m.header i ++ places known ms i)

places_at : (known : Meanings) (l : Decl-F Decl Body Parts) → map (place known) (module_headers_at l) ≡ headers_by known l
places_at known (Decl-F.Const defs span) = refl
places_at known (Decl-F.Types defs span) = refl
places_at known (Decl-F.Channel c) = refl
places_at known (Decl-F.Header h) = refl
places_at known (Decl-F.Body b) = refl
places_at known (Decl-F.Ip ips span) = refl
places_at known (Decl-F.Modvar ms span) = places known ms
places_at known (Decl-F.Var vars span) = refl
places_at known (Decl-F.State states span) = refl
places_at known (Decl-F.Stateset sets span) = refl
places_at known (Decl-F.Routine r) = refl

all_places : (known : Meanings) (ds : List Decl) → map (place known) (flat_map (λ d. module_headers_at (out-Decl d)) ds) ≡ flat_map (headers_in known) ds
all_places known [] = refl
all_places known (d ∷ ds) =
    map-append (place known) (module_headers_at (out-Decl d)) (flat_map (λ d. module_headers_at (out-Decl d)) ds)
    ∙ (λ i. places_at known (out-Decl d) i ++ all_places known ds i)

-- ---- a body where it stands

module _ (known : Known) (by_default : Bool) where
  abbrev means : Meanings
  means = meanings_of known

  -- the header's part, and then the body's own
  pub told_is : (name header : Option Name) (p : Parts) → told known by_default (of_heading (heading means header)) (has_some (transitions_by known (out-Parts p).trans)) p ≡ inner_body known by_default (standing by_default name header p)
  unfolding inner_body
  told_is name header p =
      let ds = (out-Parts p).decls in
      let h = heading means header in
      let brought = brought_of by_default in
      let variables : section_types means (flat_map variables_of ds) ≡ section_types means (flat_map (λ (d : Contribution). d.variables) (map brought ds)) = ap (section_types means) (sym (flat_map-map (λ (d : Contribution). d.variables) brought ds)) in
      let count : length (flat_map (headers_in means) ds) ≡ length (flat_map (λ (d : Contribution). d.module_variables) (map brought ds)) = same_lengths means ds ∙ ap (λ xs. length xs) (sym (flat_map-map (λ (d : Contribution). d.module_variables) brought ds)) in
      let headers : flat_map (headers_in means) ds ≡ map (place means) (flat_map (λ (d : Contribution). d.module_headers) (map brought ds)) = sym (all_places means ds) ∙ ap (map (place means)) (sym (flat_map-map (λ (d : Contribution). d.module_headers) brought ds)) in
      let points : flat_map (λ d. interaction_points means by_default false (ips_of d)) ds ≡ interaction_points means by_default false (flat_map (λ (d : Contribution). d.ips) (map brought ds)) =
      sym (nested (λ d. replicate (length d.names.names) (interaction_point means by_default false d)) ips_of ds) ∙ ap (interaction_points means by_default false) (sym (flat_map-map (λ (d : Contribution). d.ips) brought ds)) in
      λ i. record (inner_body known by_default (standing by_default name header p)) {
        variables = h.parameters ++ h.exports ++ variables i;
        module_variables = count i;
        module_headers = headers i;
        ips = h.ips ++ points i;
      }

  flat_is : (name header : Option Name) (p : Parts) → transitions_by known (out-Parts p).trans ≡ flat_at known (standing by_default name header p)
  unfolding flat_at
  flat_is name header p = refl

  mapped_inner : {A : Type 0} (f : BodyAlone → A) (ds : List Decl) → map f (inner by_default ds) ≡ flat_map (λ d. map f (flat_map (stand.body by_default) (bodies_of d))) ds
  mapped_inner f [] = refl
  mapped_inner f (d ∷ ds) =
      map-append f (flat_map (stand.body by_default) (bodies_of d)) (inner by_default ds)
      ∙ ap (λ xs. map f (flat_map (stand.body by_default) (bodies_of d)) ++ xs) (mapped_inner f ds)

  -- a body, and then those in it
  pub body_told : (b : Body) → map (inner_body known by_default) (stand.body by_default b) ≡ told known by_default (of_heading (heading means (Some (out-Body b).header))) (has_some (transitions_by known (out-Parts (out-Body b).parts).trans)) (out-Body b).parts ∷ flat_map (bodies_in known by_default) (out-Parts (out-Body b).parts).decls
  body_told b =
      ap (map (inner_body known by_default)) (body_is by_default b)
      ∙ (λ i. sym (told_is (Some (out-Body b).name) (Some (out-Body b).header) (out-Body b).parts) i ∷ mapped_inner (inner_body known by_default) (out-Parts (out-Body b).parts).decls i)

  pub body_flat : (b : Body) → map (flat_at known) (stand.body by_default b) ≡ transitions_by known (out-Parts (out-Body b).parts).trans ∷ flat_map (flats_in known by_default) (out-Parts (out-Body b).parts).decls
  body_flat b =
      ap (map (flat_at known)) (body_is by_default b)
      ∙ (λ i. sym (flat_is (Some (out-Body b).name) (Some (out-Body b).header) (out-Body b).parts) i ∷ mapped_inner (flat_at known) (out-Parts (out-Body b).parts).decls i)

  pub parts_flat : (p : Parts) → map (flat_at known) (standing by_default None None p ∷ inner_of by_default p) ≡ transitions_by known (out-Parts p).trans ∷ flat_map (flats_in known by_default) (out-Parts p).decls
  parts_flat p = λ i. sym (flat_is None None p) i ∷ mapped_inner (flat_at known) (out-Parts p).decls i

pub ruleset telling = (body_told, body_flat, append-nil, append_assoc)

-- ---- all bodies

-- the transitions of all
pub flats_are : (s : Subject) (known : Known) (found : List BodyTransitions) → known ≡ known_of s → found ≡ all_flat known s.specification → found ≡ map (flat_at (known_of s)) (bodies s.specification)
flats_are s known found e is =
    let by_default = default_of s.specification.heads in
    is ∙ ap (λ k. all_flat k s.specification) e ∙ sym (parts_flat (known_of s) by_default s.specification.parts) ∙ ap (map (flat_at (known_of s))) (sym (parts_is by_default s.specification.parts))

at_length : {A : Type 0} (xs : List A) (y : A) (ys : List A) → slice_get (xs ++ y ∷ ys) (length xs) ≡ Some y
at_length [] y ys = refl
at_length (x ∷ xs) y ys = at_length xs y ys

module _ (s : Subject) where
  abbrev by_default : Bool
  by_default = default_of s.specification.heads

  -- the number does not matter but for the attribute
  numbered : (k : ℕ) (b : BodyAlone) → attribute s k ≡ header_attribute s b → module_body s k b ≡ inner_body (known_of s) by_default b
  unfolding inner_body
  numbered k b e = λ i. record (module_body s k b) { attribute = e i }

  -- those behind the first have the attributes of their headers
  later : (n : ℕ) (before bs : List BodyAlone) → bodies s.specification ≡ before ++ bs → length before ≡ suc n → bodies_from s (suc n) bs ≡ map (inner_body (known_of s) by_default) bs
  later n before [] e h = refl
  later n before (b ∷ bs) e h =
      let there : body s (suc n) ≡ Some b = (λ i. slice_get (e i) (sym h i)) ∙ at_length before b bs in
      let its : attribute s (suc n) ≡ header_attribute s b = ap (option_and_then (header_attribute s)) there in
      λ i. numbered (suc n) b its i ∷ later (suc n) (before ++ b ∷ []) bs (e ∙ sym (append_assoc before (b ∷ []) bs)) (length-append before (b ∷ []) ∙ ap (λ k. k + 1) h ∙ add-one (suc n)) i

  first : (p : Parts) → told (known_of s) by_default (root_part s.specification) (has_some (transitions_by (known_of s) (out-Parts p).trans)) p ≡ module_body s 0 (standing by_default None None p)
  unfolding inner_body
  first p = λ i. record (told_is (known_of s) by_default None None p i) { attribute = option_map system_attribute s.specification.attr }

  all_are : all_told (known_of s) s.specification ≡ module_bodies s
  all_are =
      let p = s.specification.parts in
      (λ i. first p i ∷ sym (mapped_inner (known_of s) by_default (inner_body (known_of s) by_default) (out-Parts p).decls) i)
      ∙ ap (λ bs. module_body s 0 (standing by_default None None p) ∷ bs) (sym (later 0 (standing by_default None None p ∷ []) (inner_of by_default p) (parts_is by_default p) refl))
      ∙ ap (bodies_from s 0) (sym (parts_is by_default p))

  -- what is told is what the evaluator asks for
  pub bodies_are : (known : Known) (told_bodies : List ModuleBody) → known ≡ known_of s → told_bodies ≡ all_told known s.specification → told_bodies ≡ module_bodies s
  bodies_are known told_bodies e is = is ∙ ap (λ k. all_told k s.specification) e ∙ all_are
