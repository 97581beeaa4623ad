use Rattle.std.proofs.Common.{arith}
use Rattle.tree_visits.specs.Nodes.{around}
use Rattle.tree_visits.specs.Visits.{group}
use Rattle.tree_visits.proofs.Taken.{chain_more}
use Rattle.tree_visits.proofs.clauses.+groups.Goals as goal

pub groups-loop-inner-preserved : goal.groups-loop-inner-preserved
groups-loop-inner-preserved g t c =
    let e = chain_more g.V.Visitor.step (λ x. group x (around c.args.within.now)) c.args.groups.now c.loop-inner.inner-index c.inner-item.result c.args.visitor.now c.loop-inner-test.true c.inner-item.is in
    grind (arith)
