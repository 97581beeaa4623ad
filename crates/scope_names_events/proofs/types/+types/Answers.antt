use Rattle.std.proofs.Common.{arith}
use Rattle.scope_names_events.proofs.WritingLemmas.{writes, chain_more}
use Rattle.scope_rules.specs.TypeEvents.{section}
use Rattle.scope_names_events.proofs.TypeEquations.{section_is}
use Rattle.scope_names_events.proofs.types.+types.Goals as goal

pub write_section_types-loop-section-preserved : goal.write_section_types-loop-section-preserved
write_section_types-loop-section-preserved t c =
    let s = section_is c.section-item.result in
    let e = chain_more (λ x. (section x).1.1) c.args.sections.now c.loop-section.section-index c.section-item.result c.args.out.now c.loop-section-test.true c.section-item.is in
    grind (arith, writes)
