use Rattle.std.proofs.Common.{arith}
use Rattle.estelle_model.specs.Definitions.{inter_declares}
use Rattle.meaning_table.proofs.Declarations.{declared_more}
use Rattle.body_table.proofs.channels.declare_interactions.Goals as goal

pub loop-inter-preserved : goal.loop-inter-preserved
loop-inter-preserved c =
    let e = declared_more (inter_declares c.args.channel c.args.by) c.args.inters.now c.loop-inter.inter-index c.inter-item.result c.args.table.now c.loop-inter-test.true c.inter-item.is in
    grind (arith)
