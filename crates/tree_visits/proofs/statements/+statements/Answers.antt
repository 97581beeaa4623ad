use Rattle.std.proofs.Common.{arith}
use Rattle.tree_visits.specs.Nodes.{around}
use Rattle.tree_visits.specs.Visits.{stmt, case_}
use Rattle.tree_visits.proofs.Taken.{nodes_more}
use Rattle.tree_visits.proofs.StatementEquations.{stmts_taken}
use Rattle.tree_visits.proofs.statements.+statements.Goals as goal

pub stmts-loop-inner-preserved : goal.stmts-loop-inner-preserved
stmts-loop-inner-preserved g t c =
    let e = nodes_more g.V.Visitor.step (around c.args.within.now) stmt c.items-inner-items.result.now c.loop-inner.inner-index c.inner-item.result c.args.visitor.now c.loop-inner-test.true c.inner-item.is in
    grind (arith)

pub alternatives-loop-case-preserved : goal.alternatives-loop-case-preserved
alternatives-loop-case-preserved g t c =
    let e = nodes_more g.V.Visitor.step (around c.args.within.now) case_ c.args.cases.now c.loop-case.case-index c.case-item.result c.args.visitor.now c.loop-case-test.true c.case-item.is in
    grind (arith)

pub stmts-returns : goal.stmts-returns
stmts-returns g t c = stmts_taken g.V.Visitor.step (around c.args.within.now) c.args.node.now c.items-inner-items.result.now c.loop-inner.inner-index c.args.visitor.now c.loop-inner.visitor c.items-inner-items.ensures c.loop-inner-test.false c.loop-inner.invariant
