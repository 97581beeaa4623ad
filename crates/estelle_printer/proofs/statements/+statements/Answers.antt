use Rattle.std.proofs.Common.{arith}
use Rattle.estelle_tree.specs.declared.kind.Kind.TheVariants as k
use Rattle.estelle_printer.specs.StatementTokens.{case_, stmt}
use Rattle.estelle_printer.proofs.WritingLemmas.{writes, separated_more}
use Rattle.estelle_printer.proofs.statements.+statements.Goals as goal

pub write_cases-loop-place-preserved : goal.write_cases-loop-place-preserved
write_cases-loop-place-preserved t c =
    let e = separated_more k.Semicolon case_ c.args.cases.now c.loop-place.place c.index-cases-place.result c.args.out.now c.loop-place-test.true c.index-cases-place.is in
    grind (arith, writes)

pub write_list-loop-place-preserved : goal.write_list-loop-place-preserved
write_list-loop-place-preserved t c =
    let e = separated_more k.Semicolon stmt c.args.stmts.now c.loop-place.place c.index-stmts-place.result c.args.out.now c.loop-place-test.true c.index-stmts-place.is in
    grind (arith, writes)
