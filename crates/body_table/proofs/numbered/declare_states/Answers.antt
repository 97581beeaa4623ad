use Rattle.std.proofs.Common.{arith}
use Rattle.meaning_table.specs.Kinds.{plainly}
use Rattle.meaning_table.specs.declared.kinds.PlainKind.TheVariants.{State}
use Rattle.body_table.specs.Contributions.{states_of}
use Rattle.meaning_table.proofs.Declarations.{declaring, drop_end}
use Rattle.body_table.proofs.Numbering.{plainly_rising, names_step, items_count}
use Rattle.body_table.proofs.numbered.declare_states.Goals as goal

pub loop-decl-preserved : goal.loop-decl-preserved
loop-decl-preserved c =
    let count = items_count states_of c.args.decls.now c.loop-decl.decl-index c.decl-item.result c.loop-decl-test.true c.decl-item.is in
    let step = names_step (plainly State) states_of c.args.decls.now c.loop-decl.decl-index c.loop-decl.number c.decl-item.result c.loop-decl.table c.loop-decl-test.true c.decl-item.is in
    grind (arith, plainly_rising)

pub returns : goal.returns
returns c =
    let e = drop_end c.args.decls.now c.loop-decl.decl-index c.loop-decl-test.false in
    grind (arith, declaring)
