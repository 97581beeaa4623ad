use Rattle.std.proofs.Common.{arith}
use Rattle.estelle_tree.specs.declared.tree.clause.AnyDom.{AnyDom}
use Rattle.estelle_model.specs.Denoted.{ordinal_declares}
use Rattle.meaning_table.proofs.Declarations.{declared_more}
use Rattle.body_table.proofs.blocks.declare_domains.Goals as goal

pub loop-any-preserved : goal.loop-any-preserved
loop-any-preserved c =
    let e = declared_more (λ (d : AnyDom). ordinal_declares d.domain) c.args.domains.now c.loop-any.any-index c.any-item.result c.args.table.now c.loop-any-test.true c.any-item.is in
    grind (arith)
