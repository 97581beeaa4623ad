use Rattle.std.proofs.Common.{arith}
use Rattle.estelle_model.specs.Denoted.{ordinal_declares}
use Rattle.meaning_table.proofs.Declarations.{declared_more}
use Rattle.meaning_table.proofs.type_parts.declare_ordinals.Goals as goal

pub loop-ordinal-preserved : goal.loop-ordinal-preserved
loop-ordinal-preserved c =
    let e = declared_more ordinal_declares c.args.ordinals.now c.loop-ordinal.ordinal-index c.ordinal-item.result c.args.table.now c.loop-ordinal-test.true c.ordinal-item.is in
    grind (arith)
