use Rattle.std.proofs.Common.{arith}
use Rattle.estelle_model.specs.Definitions.{variables_of}
use Rattle.meaning_table.specs.Kinds.{numbered_behind}
use Rattle.meaning_table.specs.declared.kinds.VariableKind.TheVariants.{Local}
use Rattle.meaning_table.proofs.Declarations.{declaring, chain_step, chain_count, drop_end}
use Rattle.body_table.proofs.definitions.declare_locals.Goals as goal

pub loop-decl-preserved : goal.loop-decl-preserved
loop-decl-preserved g c =
    let count = chain_count variables_of c.args.decls.now c.loop-decl.decl-index c.decl-item.result c.loop-decl-test.true c.decl-item.is in
    let step = chain_step (numbered_behind Local (g.B.Base.base c.args.base.now)) variables_of c.args.decls.now c.loop-decl.decl-index c.loop-decl.number c.decl-item.result c.loop-decl.table c.loop-decl-test.true c.decl-item.is in
    grind (arith)

pub returns : goal.returns
returns g c =
    let e = drop_end c.args.decls.now c.loop-decl.decl-index c.loop-decl-test.false in
    grind (arith, declaring)
