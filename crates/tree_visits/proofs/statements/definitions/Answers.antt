use Rattle.std.proofs.Common.{arith}
use Rattle.tree_visits.specs.Nodes.{around}
use Rattle.tree_visits.specs.Visits.{block_decl_node}
use Rattle.tree_visits.proofs.Taken.{each_more}
use Rattle.tree_visits.proofs.statements.definitions.Goals as goal

pub loop-decl-preserved : goal.loop-decl-preserved
loop-decl-preserved g c =
    let e = each_more g.V.Visitor.step (around c.args.within.now) block_decl_node c.args.decls.now c.loop-decl.decl-index c.decl-item.result c.args.visitor.now c.loop-decl-test.true c.decl-item.is in
    grind (arith)
