use Rattle.std.proofs.Common.{arith}
use Rattle.type_rules.specs.TypeSites.{section_declares, typed_names}
use Rattle.declaration_table.proofs.Declaring.{chain_more}
use Rattle.declaration_table.proofs.types.+declaring.Goals as goal

pub declare_sections-loop-section-preserved : goal.declare_sections-loop-section-preserved
declare_sections-loop-section-preserved t c =
    let e = chain_more (λ x. section_declares (typed_names x)) c.args.sections.now c.loop-section.section-index c.section-item.result c.args.table.now c.loop-section-test.true c.section-item.is in
    grind (arith)
