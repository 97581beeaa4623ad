-- One equation of the visits for each type of node in groups of clauses.
use Rattle.std.proofs.Common.{◌≡◌, ◌∙◌, ◌++◌, ◌∷◌, [], refl, ap}
use Rattle.std.specs.List.{flat_map}
use Rattle.estelle_tree.specs.declared.tree.clause.TransBody.{TransBody, out-TransBody, map-TransBody, fold_out-TransBody}
use Rattle.estelle_tree.specs.declared.tree.clause.TransBody.TheOpen.{TransBody-F}
use Rattle.estelle_tree.specs.declared.tree.clause.TransBody.TheFolds.{fold_out-Group}
use Rattle.estelle_tree.specs.declared.tree.clause.Group.{Group, out-Group}
use Rattle.tree_visits.specs.Visit.{ClauseBegins, Around}
use Rattle.tree_visits.specs.Visits.{Visits, standing, block, behind, trans_body_layer, group_layer, trans_body, group}
use Rattle.tree_visits.proofs.Taken.{chain_map}

abbrev body_at : Around → TransBody-F TransBody Group → Visits
body_at a (TransBody-F.Block b) = standing a (block b)
body_at a (TransBody-F.Groups groups span) = flat_map (λ g. group g a) groups

layer_at : (a : Around) (l : TransBody-F TransBody Group) → trans_body_layer (map-TransBody TransBody Group (Around → Visits) (Around → Visits) trans_body group l) a ≡ body_at a l
layer_at a (TransBody-F.Block b) = refl
layer_at a (TransBody-F.Groups groups span) = chain_map (λ (g : Around → Visits). g a) group groups

pub trans_body_is : (x : TransBody) (a : Around) → trans_body x a ≡ body_at a (out-TransBody x)
unfolding trans_body group
trans_body_is x a = ap (λ (f : Around → Visits). f a) (fold_out-TransBody (Around → Visits) (Around → Visits) trans_body_layer group_layer x) ∙ layer_at a (out-TransBody x)

pub group_is : (x : Group) (a : Around) → group x a ≡ standing a (ClauseBegins (out-Group x).clause ∷ []) ++ trans_body (out-Group x).body (behind a (out-Group x).clause)
unfolding trans_body group
group_is x a = ap (λ (f : Around → Visits). f a) (fold_out-Group (Around → Visits) (Around → Visits) trans_body_layer group_layer x)

pub ruleset clauses = (trans_body_is, group_is)
