use Rattle.std.proofs.Common.{arith}
use Rattle.estelle_model.specs.declared.meaning.Meaning.TheVariants.{Field}
use Rattle.estelle_model.specs.Denoted.{section}
use Rattle.meaning_table.proofs.Declarations.{declaring, section_step, drop_end}
use Rattle.meaning_table.proofs.TypeEquations.{section_is}
use Rattle.meaning_table.proofs.type_parts.declare_fields.Goals as goal

pub loop-section-preserved : goal.loop-section-preserved
loop-section-preserved c =
    let e = section_step (λ known n t. Field n) section c.args.sections.now c.loop-section.section-index c.loop-section.number c.section-item.result c.loop-section.table c.loop-section-test.true c.section-item.is in
    grind (arith, section_is)

pub returns : goal.returns
returns c =
    let e = drop_end c.args.sections.now c.loop-section.section-index c.loop-section-test.false in
    grind (arith, declaring)
