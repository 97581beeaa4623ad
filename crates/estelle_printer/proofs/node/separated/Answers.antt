use Rattle.std.proofs.Common.{arith}
use Rattle.estelle_printer.proofs.WritingLemmas.{writes, separated_more}
use Rattle.estelle_printer.proofs.node.separated.Goals as goal

pub loop-place-preserved : goal.loop-place-preserved
loop-place-preserved g c =
    let e = separated_more c.args.kind g.N.Node.tokens c.args.nodes.now c.loop-place.place c.index-nodes-place.result c.args.out.now c.loop-place-test.true c.index-nodes-place.is in
    grind (arith, writes)
