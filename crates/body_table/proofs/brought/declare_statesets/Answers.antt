use Rattle.std.proofs.Common.{arith}
use Rattle.estelle_model.specs.Bodies.{stateset_declares}
use Rattle.meaning_table.proofs.Declarations.{declaring, declared_one_more}
use Rattle.body_table.proofs.brought.declare_statesets.Goals as goal

pub loop-set-preserved : goal.loop-set-preserved
loop-set-preserved c =
    let e = declared_one_more stateset_declares c.args.sets.now c.loop-set.set-index c.set-item.result c.args.table.now c.loop-set-test.true c.set-item.is in
    grind (arith, declaring)
