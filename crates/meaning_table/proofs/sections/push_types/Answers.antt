use Rattle.std.proofs.Common.{arith, length, replicate}
use Rattle.std.proofs.lemmas.Grind.{common_steps}
use Rattle.estelle_model.specs.Denoted.{Section}
use Rattle.meaning_table.specs.Known.{meanings_of}
use Rattle.meaning_table.proofs.Chains.{chain_map_more}
use Rattle.meaning_table.proofs.sections.push_types.Goals as goal

pub loop-section-preserved : goal.loop-section-preserved
loop-section-preserved g c =
    let each = λ (s : Section). replicate (length s.0) (s.1.denotes (meanings_of c.args.table.now)) in
    let e = chain_map_more each g.S.Section.section c.args.sections.now c.loop-section.section-index c.section-item.result c.loop-section-test.true c.section-item.is in
    grind (arith, common_steps)
