use Rattle.std.proofs.Common.{arith}
use Rattle.meaning_table.specs.Kinds.{numbered_behind}
use Rattle.meaning_table.proofs.Declarations.{declaring, section_step, drop_next, drop_end}
use Rattle.meaning_table.proofs.sections.declare_sections.Goals as goal

pub loop-section-preserved : goal.loop-section-preserved
loop-section-preserved g c =
    let next = drop_next c.args.sections.now c.loop-section.section-index c.section-item.result c.loop-section-test.true c.section-item.is in
    let step = section_step (numbered_behind c.args.kind (g.B.Base.base c.args.base.now)) g.S.Section.section c.args.sections.now c.loop-section.section-index c.loop-section.number c.section-item.result c.loop-section.table c.loop-section-test.true c.section-item.is in
    grind (arith, declaring)

pub returns : goal.returns
returns g c =
    let e = drop_end c.args.sections.now c.loop-section.section-index c.loop-section-test.false in
    grind (arith, declaring)
