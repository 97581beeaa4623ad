use Rattle.std.proofs.Common.{◌≡◌, ◌-◌, length}
use Rattle.std.specs.Prelude.{IsSome, IsTrue}
use Rattle.std.specs.Vec.{vec_capacity}
use Rattle.estelle_tree.specs.Paths.{is_inside}
use Rattle.module_tree.specs.Nodes.{found, links, number_at}
use Rattle.module_tree.proofs.Below.{IsRest}
use Rattle.module_tree.proofs.nodes.descend.Given as goal

abbrev pub invariant-loop-last : goal.invariant-loop-last
invariant-loop-last g l = record {
  there : IsSome (found l.nodes.entries l.way.items);
  last : l.last ≡ number_at (λ n. n.last) (links l.nodes.entries) l.way.items;
  below : IsTrue (is_inside l.fn.way.items l.way.items);
  rest : IsRest l.nodes.entries l.fn.way.items l.way.items;
  room : vec_capacity l.way ≡ vec_capacity l.fn.way;
}

abbrev pub decreases-loop-last : goal.decreases-loop-last
decreases-loop-last g l = l.depth - length l.way.items
