use Rattle.std.proofs.Common.{arith}
use Rattle.meaning_table.specs.Kinds.{plainly}
use Rattle.meaning_table.specs.declared.kinds.PlainKind.TheVariants.{Module}
use Rattle.body_table.specs.Contributions.{modvar_names}
use Rattle.meaning_table.proofs.Declarations.{declaring, drop_end}
use Rattle.body_table.proofs.Numbering.{plainly_rising, names_step, items_count}
use Rattle.body_table.proofs.numbered.declare_modvars.Goals as goal

pub loop-modvar-preserved : goal.loop-modvar-preserved
loop-modvar-preserved c =
    let count = items_count modvar_names c.args.modvars.now c.loop-modvar.modvar-index c.modvar-item.result c.loop-modvar-test.true c.modvar-item.is in
    let step = names_step (plainly Module) modvar_names c.args.modvars.now c.loop-modvar.modvar-index c.loop-modvar.number c.modvar-item.result c.loop-modvar.table c.loop-modvar-test.true c.modvar-item.is in
    grind (arith, plainly_rising)

pub returns : goal.returns
returns c =
    let e = drop_end c.args.modvars.now c.loop-modvar.modvar-index c.loop-modvar-test.false in
    grind (arith, declaring)
