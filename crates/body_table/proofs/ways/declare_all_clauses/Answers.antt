use Rattle.std.proofs.Common.{arith}
use Rattle.std.specs.List.{flat_map}
use Rattle.estelle_tree.specs.declared.tree.specification.Trans.{Trans}
use Rattle.estelle_model.specs.Definitions.{clause_declares}
use Rattle.estelle_model.specs.Bodies.{clauses}
use Rattle.meaning_table.proofs.Declarations.{declared_more}
use Rattle.body_table.proofs.ways.declare_all_clauses.Goals as goal

pub loop-trans-preserved : goal.loop-trans-preserved
loop-trans-preserved c =
    let e = declared_more (λ (t : Trans). flat_map clause_declares (clauses t.body)) c.args.transitions.now c.loop-trans.trans-index c.trans-item.result c.args.table.now c.loop-trans-test.true c.trans-item.is in
    grind (arith)
