use Rattle.std.proofs.Common.{arith, length, replicate}
use Rattle.estelle_model.specs.Denoted.{section, Section}
use Rattle.meaning_table.specs.Known.{meanings_of}
use Rattle.meaning_table.proofs.Chains.{chain_map_more}
use Rattle.meaning_table.proofs.TypeEquations.{section_is}
use Rattle.meaning_table.proofs.types.+denoting.Goals as goal

pub denote_sections-loop-section-preserved : goal.denote_sections-loop-section-preserved
denote_sections-loop-section-preserved t c =
    let each = λ (s : Section). replicate (length s.0) (s.1.denotes (meanings_of c.args.table.now)) in
    let e = chain_map_more each section c.args.sections.now c.loop-section.section-index c.section-item.result c.loop-section-test.true c.section-item.is in
    grind (arith, section_is)
