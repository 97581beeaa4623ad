use Rattle.std.proofs.Common.{◌≡◌, ◌≤◌, ◌-◌, length, map as each}
use Rattle.std.specs.Prelude.{IsSome, IsTrue}
use Rattle.std.specs.Vec.{vec_capacity}
use Rattle.estelle_tree.specs.Paths.{is_inside}
use Rattle.module_tree.specs.Nodes.{found}
use Rattle.module_tree.proofs.Below.{backward, listed}
use Rattle.module_tree.proofs.walk.backward_parts.Given as goal

abbrev pub invariant-back : goal.invariant-back
invariant-back g l = record {
  there : IsSome (found l.nodes.entries l.way.items);
  below : IsTrue (is_inside l.path l.way.items);
  room : l.depth ≤ vec_capacity l.way;
  parts : each (λ r. r.now) l.parts.items ≡ backward l.nodes.entries l.path l.way.items;
}

abbrev pub decreases-back : goal.decreases-back
decreases-back g l = length (listed l.nodes.entries l.path) - length l.parts.items
