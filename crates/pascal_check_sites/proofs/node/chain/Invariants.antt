use Rattle.std.proofs.Common.{◌≡◌, ◌++◌, take}
use Rattle.std.specs.List.{flat_map}
use Rattle.pascal_check_sites.proofs.node.chain.Given as goal

abbrev pub invariant-loop-node : goal.invariant-loop-node
invariant-loop-node g l = l.out ≡ l.initial.out ++ flat_map (g.N.Node.sites l.table) (take l.node-index l.nodes)
