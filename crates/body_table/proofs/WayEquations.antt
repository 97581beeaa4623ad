-- The ways from `trans` and the clauses on them, by one equation for each kind of node.
use Rattle.std.proofs.Common.{◌≡◌, ◌∙◌, List, [], ◌∷◌, ◌++◌, refl, ap, sym, map, append-nil, append_assoc}
use Rattle.std.specs.List.{flat_map}
use Rattle.std.proofs.lemmas.Grind.{flat_map-append}
use Rattle.estelle_tree.specs.declared.tree.name.Name.{Name}
use Rattle.estelle_tree.specs.declared.tree.clause.Block.{Block}
use Rattle.estelle_tree.specs.declared.tree.clause.Clause.{Clause}
use Rattle.estelle_tree.specs.declared.tree.clause.TransBody.{TransBody, out-TransBody, map-TransBody, fold_out-TransBody}
use Rattle.estelle_tree.specs.declared.tree.clause.TransBody.TheVariants as body_node
use Rattle.estelle_tree.specs.declared.tree.clause.TransBody.TheFolds.{fold_out-Group}
use Rattle.estelle_tree.specs.declared.tree.clause.Group.{Group, out-Group}
use Rattle.estelle_tree.specs.declared.span.Span.{Span}
use Rattle.estelle_model.specs.Definitions.{interaction_of, clause_declares}
use Rattle.estelle_model.specs.Bodies.{Way, behind, ways, clauses, trans_body_layer, group_layer, clauses_layer, clause_group_layer}
use Rattle.body_table.specs.Received.{block_behind}
use Rattle.body_table.specs.Ways.{group_ways, group_clauses, way_declares}

-- ---- lists of lists

pub nested : {A B C : Type 0} (f : B → List C) (g : A → List B) (xs : List A) → flat_map f (flat_map g xs) ≡ flat_map (λ x. flat_map f (g x)) xs
nested f g [] = refl
nested f g (x ∷ xs) = flat_map-append f (g x) (flat_map g xs) ∙ ap (λ zs. flat_map f (g x) ++ zs) (nested f g xs)

joined : {A B C : Type 0} (f : B → List C) (g : A → List B) (xs : List A) → flat_map f (flat_map (λ ys. ys) (map g xs)) ≡ flat_map (λ x. flat_map f (g x)) xs
joined f g [] = refl
joined f g (x ∷ xs) = flat_map-append f (g x) (flat_map (λ ys. ys) (map g xs)) ∙ ap (λ zs. flat_map f (g x) ++ zs) (joined f g xs)

-- ---- clauses

clauses_out : (x : TransBody) → clauses x ≡ clauses_layer (map-TransBody TransBody Group (List Clause) (List Clause) clauses group_clauses (out-TransBody x))
unfolding clauses group_clauses
clauses_out x = fold_out-TransBody (List Clause) (List Clause) clauses_layer clause_group_layer x

group_clauses_out : (g : Group) → group_clauses g ≡ (out-Group g).clause ∷ clauses (out-Group g).body
unfolding clauses group_clauses
group_clauses_out g = fold_out-Group (List Clause) (List Clause) clauses_layer clause_group_layer g

-- what the clauses above a block declare: there are none
pub block_clauses : (b : Block) → flat_map clause_declares (clauses (body_node.Block b)) ≡ []
block_clauses b = ap (flat_map clause_declares) (clauses_out (body_node.Block b) ∙ ap (λ l. clauses_layer (map-TransBody TransBody Group (List Clause) (List Clause) clauses group_clauses l)) (body_node.outs-Block b))

pub groups_clauses : (gs : List Group) (span : Span) → flat_map clause_declares (clauses (body_node.Groups gs span)) ≡ flat_map (λ g. flat_map clause_declares (group_clauses g)) gs
groups_clauses gs span =
    ap (flat_map clause_declares) (clauses_out (body_node.Groups gs span) ∙ ap (λ l. clauses_layer (map-TransBody TransBody Group (List Clause) (List Clause) clauses group_clauses l)) (body_node.outs-Groups gs span))
    ∙ joined clause_declares group_clauses gs

pub group_clause : (g : Group) → flat_map clause_declares (group_clauses g) ≡ clause_declares (out-Group g).clause ++ flat_map clause_declares (clauses (out-Group g).body)
group_clause g = ap (flat_map clause_declares) (group_clauses_out g)

-- ---- ways

ways_out : (x : TransBody) → ways x ≡ trans_body_layer (map-TransBody TransBody Group (List Way) (List Way) ways group_ways (out-TransBody x))
unfolding ways group_ways
ways_out x = fold_out-TransBody (List Way) (List Way) trans_body_layer group_layer x

group_ways_out : (g : Group) → group_ways g ≡ map (behind (out-Group g).clause) (ways (out-Group g).body)
unfolding ways group_ways
group_ways_out g = fold_out-Group (List Way) (List Way) trans_body_layer group_layer g

pub block_way : (xs : List Name) (b : Block) → flat_map (way_declares xs) (ways (body_node.Block b)) ≡ block_behind xs b
block_way xs b =
    ap (flat_map (way_declares xs)) (ways_out (body_node.Block b) ∙ ap (λ l. trans_body_layer (map-TransBody TransBody Group (List Way) (List Way) ways group_ways l)) (body_node.outs-Block b))
    ∙ append-nil (block_behind (xs ++ []) b) ∙ ap (λ ys. block_behind ys b) (append-nil xs)

pub groups_ways : (xs : List Name) (gs : List Group) (span : Span) → flat_map (way_declares xs) (ways (body_node.Groups gs span)) ≡ flat_map (λ g. flat_map (way_declares xs) (group_ways g)) gs
groups_ways xs gs span =
    ap (flat_map (way_declares xs)) (ways_out (body_node.Groups gs span) ∙ ap (λ l. trans_body_layer (map-TransBody TransBody Group (List Way) (List Way) ways group_ways l)) (body_node.outs-Groups gs span))
    ∙ joined (way_declares xs) group_ways gs

behind_more : (xs : List Name) (c : Clause) (ws : List Way) → flat_map (way_declares xs) (map (behind c) ws) ≡ flat_map (way_declares (xs ++ interaction_of c)) ws
behind_more xs c [] = refl
behind_more xs c (w ∷ ws) =
    ap (λ ds. way_declares xs (behind c w) ++ ds) (behind_more xs c ws)
    ∙ ap (λ ys. block_behind ys w.block ++ flat_map (way_declares (xs ++ interaction_of c)) ws) (sym (append_assoc xs (interaction_of c) (flat_map interaction_of w.clauses)))

-- the ways under one more clause
pub group_way : (xs : List Name) (g : Group) → flat_map (way_declares xs) (group_ways g) ≡ flat_map (way_declares (xs ++ interaction_of (out-Group g).clause)) (ways (out-Group g).body)
group_way xs g = ap (flat_map (way_declares xs)) (group_ways_out g) ∙ behind_more xs (out-Group g).clause (ways (out-Group g).body)

pub ruleset ways_declare = (block_clauses, groups_clauses, group_clause, block_way, groups_ways, group_way)
