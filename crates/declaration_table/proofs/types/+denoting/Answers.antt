use Rattle.std.proofs.Common.{arith}
use Rattle.declaration_table.proofs.Typing.{section_more, record_denotes}
use Rattle.declaration_table.proofs.types.+denoting.Goals as goal

pub denote_sections-loop-section-preserved : goal.denote_sections-loop-section-preserved
denote_sections-loop-section-preserved t c =
    let e = section_more c.args.table.now c.args.sections.now c.loop-section.section-index c.section-item.result c.loop-section-test.true c.section-item.is in
    grind (arith)

pub denotes-returns-in-Fields : goal.denotes-returns-in-Fields
denotes-returns-in-Fields t c =
    let e = record_denotes c.args.table.now c.in-Fields.packed c.in-Fields.fields c.in-Fields.span in
    grind (arith)
