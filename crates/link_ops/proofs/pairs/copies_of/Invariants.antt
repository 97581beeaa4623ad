use Rattle.std.proofs.Common.{◌≡◌, filter, take}
use Rattle.link_ops.specs.Pairs as spec
use Rattle.link_ops.proofs.pairs.copies_of.Given as goal

abbrev pub invariant-loop-pair : goal.invariant-loop-pair
invariant-loop-pair g l = l.links.items ≡ filter (g.T.LinkTest.passes l.test) (spec.seen l.points (take l.pair-index l.pairs))
