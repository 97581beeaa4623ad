use Rattle.std.proofs.Common.{◌≡◌, ◌≢◌, ◌++◌, map, reverse, true}
use Rattle.estelle_tree.specs.Paths.{child}
use Rattle.module_tree.specs.Nodes.{links, has_child, child_numbers}
use Rattle.module_tree.proofs.Chains.{passing}
use Rattle.module_tree.proofs.nodes.backward_paths.Given as goal

abbrev pub invariant-loop-number : goal.invariant-loop-number
invariant-loop-number g l = record {
  listed : map (child l.path) (reverse (child_numbers (links l.nodes.entries) l.path)) ≡ l.paths.items ++ map (child l.path) (reverse (passing (has_child (links l.nodes.entries) l.path) l.number));
  there : l.number ≢ 0 → has_child (links l.nodes.entries) l.path l.number ≡ true;
}

abbrev pub decreases-loop-number : goal.decreases-loop-number
decreases-loop-number g l = l.number
