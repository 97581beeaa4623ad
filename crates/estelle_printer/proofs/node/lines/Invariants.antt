use Rattle.std.proofs.Common.{◌≡◌, ◌++◌, take}
use Rattle.std.specs.List.{flat_map}
use Rattle.estelle_tree.specs.declared.kind.Kind.TheVariants as k
use Rattle.estelle_printer.specs.Forms.{mark}
use Rattle.estelle_printer.specs.Writing.{write}
use Rattle.estelle_printer.proofs.node.lines.Given as goal

abbrev pub invariant-loop-node : goal.invariant-loop-node
invariant-loop-node g l = l.out ≡ write l.initial.out (flat_map (λ x. g.N.Node.tokens x ++ mark k.Semicolon) (take l.node-index l.nodes))
