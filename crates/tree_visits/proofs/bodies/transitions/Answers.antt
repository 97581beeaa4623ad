use Rattle.std.proofs.Common.{arith}
use Rattle.tree_visits.specs.Nodes.{around}
use Rattle.tree_visits.specs.Visits.{trans}
use Rattle.tree_visits.proofs.Taken.{chain_more}
use Rattle.tree_visits.proofs.bodies.transitions.Goals as goal

pub loop-inner-preserved : goal.loop-inner-preserved
loop-inner-preserved g c =
    let e = chain_more g.V.Visitor.step (trans (around c.args.within.now)) c.args.transitions.now c.loop-inner.inner-index c.inner-item.result c.args.visitor.now c.loop-inner-test.true c.inner-item.is in
    grind (arith)
