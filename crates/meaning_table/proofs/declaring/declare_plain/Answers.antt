use Rattle.std.proofs.Common.{arith}
use Rattle.meaning_table.specs.Kinds.{plain_meaning}
use Rattle.meaning_table.proofs.Declarations.{declaring, rising_step, drop_end}
use Rattle.meaning_table.proofs.declaring.declare_plain.Goals as goal

pub loop-name-preserved : goal.loop-name-preserved
loop-name-preserved c =
    let e = rising_step (plain_meaning c.args.kind) c.args.names.now c.loop-name.name-index c.loop-name.number c.name-item.result c.loop-name.table c.loop-name-test.true c.name-item.is in
    grind (arith)

pub returns : goal.returns
returns c =
    let e = drop_end c.args.names.now c.loop-name.name-index c.loop-name-test.false in
    grind (arith, declaring)
