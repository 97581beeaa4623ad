use Rattle.std.proofs.Common.{arith}
use Rattle.scope_names_events.proofs.WritingLemmas.{writes, chain_more}
use Rattle.scope_rules.specs.SpecificationEvents.{decl}
use Rattle.scope_names_events.proofs.WritingLemmas.{on_ok}
use Rattle.scope_names_events.proofs.SpecificationEquations.{body_written}
use Rattle.scope_names_events.proofs.specification.+bodies.Goals as goal

pub write_decls-loop-decl-preserved : goal.write_decls-loop-decl-preserved
write_decls-loop-decl-preserved t c =
    let e = chain_more (λ x. (decl x).events) c.args.decls.now c.loop-decl.decl-index c.decl-item.result c.args.out.now c.loop-decl-test.true c.decl-item.is in
    grind (arith, writes)

pub write_body-returns : goal.write_body-returns
write_body-returns t c = on_ok c.push.result (body_written c.args.body.now c.args.out.now c.write_body_head.new.out c.write_parts.new.out c.push.new.self c.in_ok-write_body_head.ensures c.in_ok-write_parts.ensures) c.push.ensures
