use Rattle.std.proofs.Common.{arith}
use Rattle.meaning_table.specs.Kinds.{numbered_behind}
use Rattle.meaning_table.specs.declared.kinds.VariableKind.TheVariants.{Var}
use Rattle.meaning_table.proofs.Declarations.{declaring, chain_step, chain_count, drop_end}
use Rattle.body_table.specs.Formals.{var_section}
use Rattle.body_table.proofs.routines.declare_var_formals.Goals as goal

pub loop-formal-preserved : goal.loop-formal-preserved
loop-formal-preserved c =
    let count = chain_count var_section c.args.formals.now c.loop-formal.formal-index c.formal-item.result c.loop-formal-test.true c.formal-item.is in
    let step = chain_step (numbered_behind Var (λ m. 0)) var_section c.args.formals.now c.loop-formal.formal-index c.loop-formal.number c.formal-item.result c.loop-formal.table c.loop-formal-test.true c.formal-item.is in
    grind (arith)

pub returns : goal.returns
returns c =
    let e = drop_end c.args.formals.now c.loop-formal.formal-index c.loop-formal-test.false in
    grind (arith, declaring)
