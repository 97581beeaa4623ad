use Rattle.std.proofs.Common.{arith}
use Rattle.meaning_table.proofs.Declarations.{declared_more}
use Rattle.body_table.specs.Contributions.{names_of}
use Rattle.body_table.proofs.brought.declare_names.Goals as goal

pub loop-decl-preserved : goal.loop-decl-preserved
loop-decl-preserved c =
    let e = declared_more (names_of c.args.by_default) c.args.decls.now c.loop-decl.decl-index c.decl-item.result c.args.table.now c.loop-decl-test.true c.decl-item.is in
    grind (arith)
