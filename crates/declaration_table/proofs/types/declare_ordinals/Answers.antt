use Rattle.std.proofs.Common.{arith}
use Rattle.type_rules.specs.TypeSites.{ordinal_declares}
use Rattle.declaration_table.proofs.Declaring.{chain_more}
use Rattle.declaration_table.proofs.types.declare_ordinals.Goals as goal

pub loop-ordinal-preserved : goal.loop-ordinal-preserved
loop-ordinal-preserved c =
    let e = chain_more ordinal_declares c.args.ordinals.now c.loop-ordinal.ordinal-index c.ordinal-item.result c.args.table.now c.loop-ordinal-test.true c.ordinal-item.is in
    grind (arith)
