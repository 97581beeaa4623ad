use Rattle.std.proofs.Common.{arith}
use Rattle.estelle_model.specs.Denoted.{section, Section}
use Rattle.meaning_table.proofs.Declarations.{declared_map_more}
use Rattle.meaning_table.proofs.TypeEquations.{section_is}
use Rattle.meaning_table.proofs.type_parts.+declaring.Goals as goal

pub declare_types-loop-section-preserved : goal.declare_types-loop-section-preserved
declare_types-loop-section-preserved t c =
    let e = declared_map_more (λ (s : Section). s.1.declares) section c.args.sections.now c.loop-section.section-index c.section-item.result c.args.table.now c.loop-section-test.true c.section-item.is in
    grind (arith, section_is)
