use Rattle.std.proofs.Common.{arith}
use Rattle.std.specs.Option.{option_copied}
use Rattle.meaning_table.specs.Kinds.{numbered_behind}
use Rattle.meaning_table.specs.declared.kinds.VariableKind.TheVariants.{Own}
use Rattle.meaning_table.proofs.Declarations.{declaring, chain_step, drop_end}
use Rattle.body_table.specs.Contributions.{variables_of}
use Rattle.body_table.specs.Standings.{header_variables}
use Rattle.body_table.proofs.brought.declare_variables.Goals as goal

pub loop-decl-preserved : goal.loop-decl-preserved
loop-decl-preserved c =
    let step = chain_step (numbered_behind Own (header_variables (option_copied c.args.base.now.header))) variables_of c.args.decls.now c.loop-decl.decl-index c.loop-decl.number c.decl-item.result c.loop-decl.table c.loop-decl-test.true c.decl-item.is in
    grind (arith)

pub returns : goal.returns
returns c =
    let e = drop_end c.args.decls.now c.loop-decl.decl-index c.loop-decl-test.false in
    grind (arith, declaring)
