use Rattle.std.proofs.Common.{◌≡◌, take}
use Rattle.std.specs.List.{flat_map}
use Rattle.estelle_printer.specs.Writing.{write}
use Rattle.estelle_printer.proofs.node.chain.Given as goal

abbrev pub invariant-loop-node : goal.invariant-loop-node
invariant-loop-node g l = l.out ≡ write l.initial.out (flat_map g.N.Node.tokens (take l.node-index l.nodes))
