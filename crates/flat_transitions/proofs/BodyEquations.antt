-- The equations that the walk over the bodies follows.
use Rattle.std.proofs.Common.{◌≡◌, ◌∙◌, List, [], ◌∷◌, ◌++◌, map, refl, ap, sym, append_assoc, append-nil}
use Rattle.std.specs.List.{flat_map}
use Rattle.std.proofs.lemmas.List.{map-append}
use Rattle.flat_transitions.specs.declared.flat.FlatTrans.{FlatTrans}
use Rattle.std.proofs.lemmas.List.Folds.{flat_map-map}
use Rattle.estelle_tree.specs.declared.tree.specification.Trans.{Trans}
use Rattle.estelle_tree.specs.declared.tree.specification.Decl.{Decl, out-Decl, map-Decl, fold_out-Decl}
use Rattle.estelle_tree.specs.declared.tree.specification.Decl.TheFolds.{fold-Body, fold_out-Body, fold_out-Parts}
use Rattle.estelle_tree.specs.declared.tree.specification.Body.{Body, out-Body}
use Rattle.estelle_tree.specs.declared.tree.specification.Parts.{Parts, out-Parts}
use Rattle.flat_transitions.specs.BodyWalks.{decl_layer, body_layer, parts_layer, decl_trans, parts_trans}

abbrev Found : Type 0
Found = List (List Trans)

unfoldable pub body_trans : Body → Found
body_trans = fold-Body Found Found Found decl_layer body_layer parts_layer

pub decl_is : (x : Decl) → decl_trans x ≡ decl_layer (map-Decl Decl Body Parts Found Found Found decl_trans body_trans parts_trans (out-Decl x))
unfolding decl_trans body_trans parts_trans
decl_is x = fold_out-Decl Found Found Found decl_layer body_layer parts_layer x

pub body_is : (x : Body) → body_trans x ≡ parts_trans (out-Body x).parts
unfolding decl_trans body_trans parts_trans
body_is x = fold_out-Body Found Found Found decl_layer body_layer parts_layer x

parts_are : (x : Parts) → parts_trans x ≡ (out-Parts x).trans ∷ flat_map decl_trans (out-Parts x).decls
unfolding decl_trans body_trans parts_trans
parts_are x =
    fold_out-Parts Found Found Found decl_layer body_layer parts_layer x
    ∙ ap (λ ts. (out-Parts x).trans ∷ ts) (flat_map-map (λ ts. ts) decl_trans (out-Parts x).decls)

map_each : {A B C : Type 0} (g : B → C) (f : A → List B) (xs : List A) → map g (flat_map f xs) ≡ flat_map (λ x. map g (f x)) xs
map_each g f [] = refl
map_each g f (x ∷ xs) = map-append g (f x) (flat_map f xs) ∙ ap (λ ys. map g (f x) ++ ys) (map_each g f xs)

-- over the bodies in the parts, the outer one first
pub parts_mapped : (g : List Trans → List FlatTrans) (x : Parts) → map g (parts_trans x) ≡ g (out-Parts x).trans ∷ flat_map (λ d. map g (decl_trans d)) (out-Parts x).decls
parts_mapped g x = ap (map g) (parts_are x) ∙ ap (λ ts. g (out-Parts x).trans ∷ ts) (map_each g decl_trans (out-Parts x).decls)

pub ruleset bodies = (decl_is, body_is, parts_mapped, append_assoc, append-nil)
