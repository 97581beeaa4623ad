use Rattle.std.proofs.Common.{◌≡◌, take}
use Rattle.estelle_printer.specs.Forms.{separated}
use Rattle.estelle_printer.specs.Writing.{write}
use Rattle.estelle_printer.proofs.node.separated.Given as goal

abbrev pub invariant-loop-place : goal.invariant-loop-place
invariant-loop-place g l = l.out ≡ write l.initial.out (separated l.kind g.N.Node.tokens (take l.place l.nodes))
