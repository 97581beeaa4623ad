use Rattle.std.proofs.Common.{◌≡◌, take, map}
use Rattle.tree_visits.specs.Nodes.{around}
use Rattle.tree_visits.specs.Taking.{after_nodes}
use Rattle.tree_visits.specs.Visits.{block_decl_node}
use Rattle.tree_visits.proofs.statements.definitions.Given as goal

abbrev pub invariant-loop-decl : goal.invariant-loop-decl
invariant-loop-decl g l = l.visitor ≡ after_nodes g.V.Visitor.step (around l.within) l.initial.visitor (map block_decl_node (take l.decl-index l.decls))
