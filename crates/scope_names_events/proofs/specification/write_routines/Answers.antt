use Rattle.std.proofs.Common.{arith}
use Rattle.scope_names_events.proofs.WritingLemmas.{writes, chain_more}
use Rattle.scope_rules.specs.SpecificationEvents.{decl}
use Rattle.scope_names_events.proofs.specification.write_routines.Goals as goal

pub loop-decl-preserved : goal.loop-decl-preserved
loop-decl-preserved c =
    let e = chain_more (λ x. (decl x).routine) c.args.decls.now c.loop-decl.decl-index c.decl-item.result c.args.out.now c.loop-decl-test.true c.decl-item.is in
    grind (arith, writes)
