use Rattle.std.proofs.Common.{◌≡◌, take}
use Rattle.std.specs.List.{flat_map}
use Rattle.meaning_table.specs.Known.{declare_all}
use Rattle.body_table.proofs.node.chain.Given as goal

abbrev pub invariant-loop-node : goal.invariant-loop-node
invariant-loop-node g l = l.table ≡ declare_all l.initial.table (flat_map g.N.Node.declares (take l.node-index l.nodes))
