-- One equation of what is declared, and of where rules speak of it, for each type of node in clauses and bodies.
use Rattle.std.proofs.Common.{◌≡◌, ◌∙◌, ◌++◌, ◌∷◌, ℕ, List, map, ap}
use Rattle.std.specs.List.{flat_map}
use Rattle.estelle_tree.specs.declared.tree.clause.TransBody.{TransBody, out-TransBody, map-TransBody, fold_out-TransBody}
use Rattle.estelle_tree.specs.declared.tree.clause.TransBody.TheFolds.{fold_out-Group}
use Rattle.estelle_tree.specs.declared.tree.clause.Group.{Group, out-Group}
use Rattle.estelle_tree.specs.declared.tree.specification.Decl.{Decl, out-Decl, map-Decl, fold_out-Decl}
use Rattle.estelle_tree.specs.declared.tree.specification.Decl.TheFolds.{fold_out-Body, fold_out-Parts}
use Rattle.estelle_tree.specs.declared.tree.specification.Body.{Body, out-Body}
use Rattle.estelle_tree.specs.declared.tree.specification.Parts.{Parts, out-Parts}
use Rattle.type_rules.specs.Meanings.{Env, Declarations}
use Rattle.type_rules.specs.declared.sites.PlacedSite.{PlacedSite}
use Rattle.type_rules.specs.SpecificationSites.{Part, PlacedPart, trans_body_layer, group_layer, trans_body, group, clause_part, decl_layer, body_layer, parts_layer, decl, body, parts, body_name, init_part, placed, in_body}
use Rattle.type_rules.proofs.Lists.{chain_map}

pub trans_body_is : (x : TransBody) → trans_body x ≡ trans_body_layer (map-TransBody TransBody Group Part Part trans_body group (out-TransBody x))
unfolding trans_body group
trans_body_is x = fold_out-TransBody Part Part trans_body_layer group_layer x

pub group_is : (x : Group) → group x ≡ record { declares = (clause_part (out-Group x).clause).declares ++ (trans_body (out-Group x).body).declares; sites = λ env. (clause_part (out-Group x).clause).sites env ++ (trans_body (out-Group x).body).sites env }
unfolding trans_body group
group_is x = fold_out-Group Part Part trans_body_layer group_layer x

pub decl_is : (x : Decl) → decl x ≡ decl_layer (map-Decl Decl Body Parts PlacedPart PlacedPart PlacedPart decl body parts (out-Decl x))
unfolding decl body parts
decl_is x = fold_out-Decl PlacedPart PlacedPart PlacedPart decl_layer body_layer parts_layer x

body_out : (x : Body) → body x ≡ record {
  declares = λ at. body_name (out-Body x).name (out-Body x).header ∷ (parts (out-Body x).parts).declares (out-Body x).span.start;
  sites = λ env at. (parts (out-Body x).parts).sites env (out-Body x).span.start;
}
unfolding decl body parts
body_out x = fold_out-Body PlacedPart PlacedPart PlacedPart decl_layer body_layer parts_layer x

pub body_declares : (x : Body) (at : ℕ) → (body x).declares at ≡ body_name (out-Body x).name (out-Body x).header ∷ (parts (out-Body x).parts).declares (out-Body x).span.start
body_declares x at = ap (λ (p : PlacedPart). p.declares at) (body_out x)

pub body_sites : (x : Body) (env : Env) (at : ℕ) → (body x).sites env at ≡ (parts (out-Body x).parts).sites env (out-Body x).span.start
body_sites x env at = ap (λ (p : PlacedPart). p.sites env at) (body_out x)

parts_out : (x : Parts) → parts x ≡ record {
  declares = λ at. flat_map (λ (d : PlacedPart). d.declares at) (map decl (out-Parts x).decls) ++ ((init_part (out-Parts x).init).declares ++ flat_map (λ t. (trans_body t.body).declares) (out-Parts x).trans);
  sites = λ env at. flat_map (λ (d : PlacedPart). d.sites env at) (map decl (out-Parts x).decls) ++ (placed (in_body at) ((init_part (out-Parts x).init).sites env) ++ flat_map (λ t. placed (in_body at) ((trans_body t.body).sites env)) (out-Parts x).trans);
}
unfolding decl body parts
parts_out x = fold_out-Parts PlacedPart PlacedPart PlacedPart decl_layer body_layer parts_layer x

pub parts_declare : (x : Parts) (at : ℕ) → (parts x).declares at ≡ flat_map (λ d. (decl d).declares at) (out-Parts x).decls ++ ((init_part (out-Parts x).init).declares ++ flat_map (λ t. (trans_body t.body).declares) (out-Parts x).trans)
parts_declare x at =
    ap (λ (p : PlacedPart). p.declares at) (parts_out x)
    ∙ ap (λ (ds : Declarations). ds ++ ((init_part (out-Parts x).init).declares ++ flat_map (λ t. (trans_body t.body).declares) (out-Parts x).trans)) (chain_map (λ (d : PlacedPart). d.declares at) decl (out-Parts x).decls)

pub parts_sites : (x : Parts) (env : Env) (at : ℕ) → (parts x).sites env at ≡ flat_map (λ d. (decl d).sites env at) (out-Parts x).decls ++ (placed (in_body at) ((init_part (out-Parts x).init).sites env) ++ flat_map (λ t. placed (in_body at) ((trans_body t.body).sites env)) (out-Parts x).trans)
parts_sites x env at =
    ap (λ (p : PlacedPart). p.sites env at) (parts_out x)
    ∙ ap (λ (ps : List PlacedSite). ps ++ (placed (in_body at) ((init_part (out-Parts x).init).sites env) ++ flat_map (λ t. placed (in_body at) ((trans_body t.body).sites env)) (out-Parts x).trans)) (chain_map (λ (d : PlacedPart). d.sites env at) decl (out-Parts x).decls)

pub ruleset groups = (trans_body_is, group_is)

pub ruleset bodies = (decl_is, body_declares, body_sites, parts_declare, parts_sites)
