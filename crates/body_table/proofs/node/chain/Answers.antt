use Rattle.std.proofs.Common.{arith}
use Rattle.meaning_table.proofs.Declarations.{declared_more}
use Rattle.body_table.proofs.node.chain.Goals as goal

pub loop-node-preserved : goal.loop-node-preserved
loop-node-preserved g c =
    let e = declared_more g.N.Node.declares c.args.nodes.now c.loop-node.node-index c.node-item.result c.args.table.now c.loop-node-test.true c.node-item.is in
    grind (arith)
