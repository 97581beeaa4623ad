use Rattle.std.proofs.Common.{arith}
use Rattle.scope_names_events.proofs.WritingLemmas.{writes, chain_more}
use Rattle.scope_names_events.proofs.node.chain.Goals as goal

pub loop-node-preserved : goal.loop-node-preserved
loop-node-preserved g c =
    let e = chain_more g.N.Node.events c.args.nodes.now c.loop-node.node-index c.node-item.result c.args.out.now c.loop-node-test.true c.node-item.is in
    grind (arith, writes)
