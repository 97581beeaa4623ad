use Rattle.std.proofs.Common.{arith}
use Rattle.estelle_printer.specs.SpecificationTokens.{decl}
use Rattle.estelle_printer.proofs.WritingLemmas.{writes, chain_more, on_ok}
use Rattle.estelle_printer.proofs.SpecificationEquations.{body_written}
use Rattle.estelle_printer.proofs.specification.+bodies.Goals as goal

pub write_decls-loop-decl-preserved : goal.write_decls-loop-decl-preserved
write_decls-loop-decl-preserved t c =
    let e = chain_more decl c.args.decls.now c.loop-decl.decl-index c.decl-item.result c.args.out.now c.loop-decl-test.true c.decl-item.is in
    grind (arith, writes)

pub write_body-returns : goal.write_body-returns
write_body-returns t c = on_ok c.mark-2.result (body_written c.args.body.now c.args.out.now c.write_body_head.new.out c.write_parts.new.out c.mark.new.self c.mark-2.new.self c.in_ok-write_body_head.ensures c.in_ok-write_parts.ensures c.in_ok-mark.ensures) c.mark-2.ensures
