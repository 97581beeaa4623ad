use Rattle.std.proofs.Common.{◌≡◌, take}
use Rattle.std.specs.List.{flat_map}
use Rattle.scope_names_events.specs.Writing.{write}
use Rattle.scope_names_events.proofs.node.chain.Given as goal

abbrev pub invariant-loop-node : goal.invariant-loop-node
invariant-loop-node g l = l.out ≡ write l.initial.out (flat_map g.N.Node.events (take l.node-index l.nodes))
