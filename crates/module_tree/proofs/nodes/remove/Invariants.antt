use Rattle.std.proofs.Common.{◌≡◌, ◌≤◌, ℕ, List, length}
use Rattle.std.specs.Prelude.{IsSome, IsTrue}
use Rattle.std.specs.Vec.{vec_capacity}
use Rattle.indexmap.specs.IndexMap.{spare, index_map_len}
use Rattle.estelle_tree.specs.Paths.{is_inside}
use Rattle.module_tree.specs.Trees.{without}
use Rattle.module_tree.specs.Nodes.{Linked, found, links, instances_of}
use Rattle.module_tree.proofs.nodes.remove.Given as goal

abbrev pub invariant-leaves : goal.invariant-leaves
invariant-leaves g l = record {
  linked : Linked (links l.nodes.entries);
  there : IsSome (found l.nodes.entries l.way.items);
  below : IsTrue (is_inside l.path l.way.items);
  bounded : (q : List ℕ) → IsSome (found l.nodes.entries q) → length q ≤ l.depth;
  room : l.depth ≤ vec_capacity l.way;
  more : vec_capacity l.fn.way ≤ vec_capacity l.way;
  spare : spare l.fn.nodes ≤ spare l.nodes;
  seen : without (instances_of l.nodes.entries) l.path ≡ without (instances_of l.fn.nodes.entries) l.path;
}

abbrev pub decreases-leaves : goal.decreases-leaves
decreases-leaves g l = index_map_len l.nodes
