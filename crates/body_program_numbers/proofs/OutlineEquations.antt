-- What is declared, by one equation for each type of node.
use Rattle.std.proofs.Common.{◌≡◌, ◌∙◌, ap, sym, List, [], ◌∷◌, ◌++◌, map, append-nil, append_assoc}
use Rattle.std.specs.List.{flat_map}
use Rattle.std.proofs.lemmas.List.{map-append}
use Rattle.std.proofs.lemmas.List.Folds.{flat_map-map}
use Rattle.estelle_tree.specs.declared.tree.declaration.Routine.{Routine}
use Rattle.estelle_tree.specs.declared.tree.specification.Channel.{Channel}
use Rattle.estelle_tree.specs.declared.tree.specification.Header.{Header}
use Rattle.estelle_tree.specs.declared.tree.specification.Decl.{Decl, out-Decl, map-Decl, fold_out-Decl}
use Rattle.estelle_tree.specs.declared.tree.specification.Decl.TheFolds.{fold_out-Body, fold_out-Parts}
use Rattle.estelle_tree.specs.declared.tree.specification.Body.{Body, out-Body}
use Rattle.estelle_tree.specs.declared.tree.specification.Parts.{Parts, out-Parts}
use Rattle.body_table.proofs.BodyEquations.{body_is as standing_is}
use Rattle.body_program_numbers.specs.Outline.{Outline, decl_layer, body_layer, parts_layer, decl, body, parts}

pub decl_is : (x : Decl) → decl x ≡ decl_layer (map-Decl Decl Body Parts Outline Outline Outline decl body parts (out-Decl x))
unfolding decl body parts
decl_is x = fold_out-Decl Outline Outline Outline decl_layer body_layer parts_layer x

pub body_is : (x : Body) → body x ≡ parts (out-Body x).parts
unfolding decl body parts
body_is x = fold_out-Body Outline Outline Outline decl_layer body_layer parts_layer x

parts_out : (x : Parts) → parts x ≡ record {
  channels = flat_map (λ (d : Outline). d.channels) (map decl (out-Parts x).decls);
  headers = flat_map (λ (d : Outline). d.headers) (map decl (out-Parts x).decls);
  routines = [];
  bodies = flat_map (λ (d : Outline). d.routines) (map decl (out-Parts x).decls) ∷ flat_map (λ (d : Outline). d.bodies) (map decl (out-Parts x).decls);
}
unfolding decl body parts
parts_out x = fold_out-Parts Outline Outline Outline decl_layer body_layer parts_layer x

pub parts_is : (x : Parts) → parts x ≡ record {
  channels = flat_map (λ d. (decl d).channels) (out-Parts x).decls;
  headers = flat_map (λ d. (decl d).headers) (out-Parts x).decls;
  routines = [];
  bodies = flat_map (λ d. (decl d).routines) (out-Parts x).decls ∷ flat_map (λ d. (decl d).bodies) (out-Parts x).decls;
}
parts_is x =
    let ds = (out-Parts x).decls in
    let made : List Channel → List Header → List (List Routine) → Outline = λ cs hs bs. record { channels = cs; headers = hs; routines = []; bodies = bs } in
    parts_out x ∙ (λ i. made (flat_map-map (λ (d : Outline). d.channels) decl ds i) (flat_map-map (λ (d : Outline). d.headers) decl ds i) (flat_map-map (λ (d : Outline). d.routines) decl ds i ∷ flat_map-map (λ (d : Outline). d.bodies) decl ds i))

pub ruleset outlines = (decl_is, body_is, parts_is, standing_is, append-nil, append_assoc, map-append)
