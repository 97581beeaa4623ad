use Rattle.std.proofs.Common.{arith}
use Rattle.scope_names_events.proofs.WritingLemmas.{writes, chain_more}
use Rattle.scope_rules.specs.StatementEvents.{stmt, case_}
use Rattle.scope_names_events.proofs.statements.+statements.Goals as goal

pub write_list-loop-stmt-preserved : goal.write_list-loop-stmt-preserved
write_list-loop-stmt-preserved t c =
    let e = chain_more stmt c.args.stmts.now c.loop-stmt.stmt-index c.stmt-item.result c.args.out.now c.loop-stmt-test.true c.stmt-item.is in
    grind (arith, writes)

pub write_cases-loop-case-preserved : goal.write_cases-loop-case-preserved
write_cases-loop-case-preserved t c =
    let e = chain_more case_ c.args.cases.now c.loop-case.case-index c.case-item.result c.args.out.now c.loop-case-test.true c.case-item.is in
    grind (arith, writes)
