-- Blocks on the ways from `trans`, under the interactions that are received above.
use Rattle.std.specs.Prelude.{List, ◌++◌, flat_map}
use Rattle.estelle_tree.specs.declared.tree.name.Name.{Name}
use Rattle.estelle_tree.specs.declared.tree.clause.Group.{Group}
use Rattle.estelle_tree.specs.declared.tree.clause.TransBody.TheFolds.{fold-Group}
use Rattle.estelle_tree.specs.declared.tree.clause.Clause.{Clause}
use Rattle.estelle_model.specs.Denoted.{Declarations}
use Rattle.estelle_model.specs.Definitions.{interaction_of}
use Rattle.estelle_model.specs.Bodies.{Way, trans_body_layer, group_layer, clauses_layer, clause_group_layer}
use Rattle.body_table.specs.Received.{block_behind}

-- the ways and the clauses of a group
unfoldable pub group_ways : Group → List Way
group_ways = fold-Group (List Way) (List Way) trans_body_layer group_layer

unfoldable pub group_clauses : Group → List Clause
group_clauses = fold-Group (List Clause) (List Clause) clauses_layer clause_group_layer

-- the block at the end of a way
abbrev pub way_declares : List Name → Way → Declarations
way_declares xs w = block_behind (xs ++ flat_map interaction_of w.clauses) w.block
