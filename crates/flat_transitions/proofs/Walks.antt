-- The equations that the walk follows.
use Rattle.std.proofs.Common.{◌≡◌, ◌∙◌, List, [], ◌∷◌, ◌++◌, map, refl, ap, sym, append_assoc, append-nil}
use Rattle.std.specs.List.{flat_map}
use Rattle.std.proofs.lemmas.Grind.{flat_map-append}
use Rattle.std.proofs.lemmas.List.Folds.{flat_map-map}
use Rattle.estelle_tree.specs.declared.tree.clause.TransBody.{TransBody, out-TransBody, map-TransBody, fold_out-TransBody}
use Rattle.estelle_tree.specs.declared.tree.clause.TransBody.TheOpen.{TransBody-F}
use Rattle.estelle_tree.specs.declared.tree.clause.TransBody.TheFolds.{fold-Group, fold_out-Group}
use Rattle.estelle_tree.specs.declared.tree.clause.Group.{Group, out-Group}
use Rattle.estelle_model.specs.Meant.{Meanings}
use Rattle.estelle_model.specs.Bodies.{Way, behind, ways, trans_body_layer, group_layer}
use Rattle.estelle_model.specs.Transitions.{Choice, Transition}
use Rattle.flat_transitions.specs.declared.in_force.ClausesInForce.{ClausesInForce}
use Rattle.flat_transitions.specs.Walks.{with_clause, reached, at_way, below, below_group}

unfoldable pub group_ways : Group → List Way
group_ways = fold-Group (List Way) (List Way) trans_body_layer group_layer

ways_are : (x : TransBody) → ways x ≡ trans_body_layer (map-TransBody TransBody Group (List Way) (List Way) ways group_ways (out-TransBody x))
unfolding ways group_ways
ways_are x = fold_out-TransBody (List Way) (List Way) trans_body_layer group_layer x

pub group_ways_are : (x : Group) → group_ways x ≡ map (behind (out-Group x).clause) (ways (out-Group x).body)
unfolding ways group_ways
group_ways_are x = fold_out-Group (List Way) (List Way) trans_body_layer group_layer x

module _ (means : List Choice → Meanings) where
  abbrev below_at : ClausesInForce → TransBody-F TransBody Group → List Transition
  below_at s (TransBody-F.Block b) = reached means s b
  below_at s (TransBody-F.Groups groups span) = flat_map (below_group means s) groups

  pub below_group_is : (s : ClausesInForce) (g : Group) → below_group means s g ≡ below means (with_clause (means []) s (out-Group g).clause) (out-Group g).body
  unfolding below_group
  below_group_is s g = refl

  groups_below : (s : ClausesInForce) (xs : List Group) → flat_map (at_way means s) (flat_map (λ ws. ws) (map group_ways xs)) ≡ flat_map (below_group means s) xs
  groups_below s [] = refl
  groups_below s (x ∷ xs) =
      flat_map-append (at_way means s) (group_ways x) (flat_map (λ ws. ws) (map group_ways xs))
      ∙ ap (λ ts. ts ++ flat_map (at_way means s) (flat_map (λ ws. ws) (map group_ways xs)))
      (ap (flat_map (at_way means s)) (group_ways_are x) ∙ flat_map-map (at_way means s) (behind (out-Group x).clause) (ways (out-Group x).body) ∙ sym (below_group_is s x))
      ∙ ap (λ ts. below_group means s x ++ ts) (groups_below s xs)

  layer_below : (s : ClausesInForce) (l : TransBody-F TransBody Group) → flat_map (at_way means s) (trans_body_layer (map-TransBody TransBody Group (List Way) (List Way) ways group_ways l)) ≡ below_at s l
  layer_below s (TransBody-F.Block b) = append-nil (reached means s b)
  layer_below s (TransBody-F.Groups groups span) = groups_below s groups

  pub below_is : (s : ClausesInForce) (x : TransBody) → below means s x ≡ below_at s (out-TransBody x)
  below_is s x = ap (flat_map (at_way means s)) (ways_are x) ∙ layer_below s (out-TransBody x)

pub ruleset groups = (below_is, below_group_is, append_assoc, append-nil)
