-- The numbers of one body after another.
use Rattle.std.proofs.Common.{◌≡◌, ◌∙◌, ap, sym, ℕ, ◌+◌, ◌<◌, List, [], ◌∷◌, ◌++◌, map, take, get_or, length, refl, subst, arith, Option, Some, None}
use Rattle.std.specs.Prelude.{option_map, slice_get}
use Rattle.std.specs.List.{flat_map}
use Rattle.std.proofs.lemmas.List.{length-map}
use Rattle.std.proofs.lemmas.List.Folds.{flat_map-map}
use Rattle.std.proofs.lemmas.Option.{slice_get-map, slice_get_read, get_or_from_slice_get}
use Rattle.estelle_tree.specs.declared.tree.specification.IpDecl.{IpDecl}
use Rattle.estelle_tree.specs.declared.tree.specification.Parts.{out-Parts}
use Rattle.estelle_model.specs.Bodies.{Contribution, BodyAlone, bodies, heading, module_headers, ips_in}
use Rattle.estelle_model.specs.Subject.{Subject, meant, body}
use Rattle.meaning_table.proofs.Chains.{map_more}
use Rattle.body_table.specs.Contributions.{ips_of, brought_of}
use Rattle.body_state.specs.declared.bodies.ModuleBody.{ModuleBody}
use Rattle.body_state.specs.Bodies.{module_body}
use Rattle.body_numbers.specs.declared.numbers.BodyNumbers.{BodyNumbers}
use Rattle.body_numbers.specs.declared.numbers.IpNumbers.{IpNumbers}
use Rattle.body_program_numbers.specs.declared.outline.Standing.{Standing}
use Rattle.body_program_numbers.specs.Found.{standing_of, standings}
use Rattle.body_program_numbers.specs.Numbering.{numbers_by, numbers_over}

module _ (s : Subject) (channels headers : List ℕ) (points : List (List IpNumbers)) where
  -- of a body as it is known and as it is found
  one : (x : Standing) (k : ℕ) (m : ModuleBody) (numbers : BodyNumbers) → m ≡ module_body s k (standing_of x) → numbers ≡ numbers_by (meant s) channels headers points m.module_headers m.header (flat_map ips_of (out-Parts x.parts.now).decls)
      → numbers ≡ numbers_over s channels headers points (standing_of x)
  one x k m numbers e is =
      let own : flat_map ips_of (out-Parts x.parts.now).decls ≡ ips_in (standing_of x) = sym (flat_map-map (λ (d : Contribution). d.ips) (brought_of x.by_default) (out-Parts x.parts.now).decls) in
      is ∙ (λ i. numbers_by (meant s) channels headers points (e i).module_headers (e i).header (own i))

  -- one more body
  pub next_body : (found : List Standing) (i k : ℕ) (x : Standing) (m : ModuleBody) (numbers : BodyNumbers) (all new : List BodyNumbers) → standings found ≡ bodies s.specification → i < length found → x ≡ get_or found i x → k ≡ i
      → Some m ≡ option_map (module_body s k) (body s k) → numbers ≡ numbers_by (meant s) channels headers points m.module_headers m.header (flat_map ips_of (out-Parts x.parts.now).decls)
      → all ≡ map (numbers_over s channels headers points) (take i (bodies s.specification)) → new ≡ all ++ numbers ∷ [] → new ≡ map (numbers_over s channels headers points) (take (i + 1) (bodies s.specification))
  next_body found i k x m numbers all new are within at number known is before pushed =
      let b = standing_of x in
      let bs = bodies s.specification in
      let there : slice_get found i ≡ Some x = slice_get_read found (length found) i x refl within at in
      let here : slice_get bs i ≡ Some b = ap (λ (ys : List BodyAlone). slice_get ys i) (sym are) ∙ slice_get-map standing_of found i ∙ ap (option_map standing_of) there in
      let its : body s k ≡ Some b = ap (slice_get bs) number ∙ here in
      let same : Some m ≡ Some (module_body s k b) = known ∙ ap (option_map (module_body s k)) its in
      let m_is : m ≡ module_body s k b = cc in
      let long : length bs ≡ length found = ap (λ (ys : List BodyAlone). length ys) (sym are) ∙ length-map found standing_of in
      let item : b ≡ get_or bs i b = sym (get_or_from_slice_get bs i b b here) in
      pushed
      ∙ ap (λ (ys : List BodyNumbers). ys ++ numbers ∷ []) before
      ∙ ap (λ n. map (numbers_over s channels headers points) (take i bs) ++ n ∷ []) (one x k m numbers m_is is)
      ∙ sym (map_more (numbers_over s channels headers points) bs i b (omega arith) item)
