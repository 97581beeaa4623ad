use Rattle.std.proofs.Common.{arith, append_assoc}
use Rattle.meaning_table.specs.Known.{meanings_of}
use Rattle.meaning_table.proofs.Chains.{chain_more}
use Rattle.type_shapes.specs.TypeNodes.{nodes_behind}
use Rattle.type_shapes.proofs.NodeEquations.{behind_is}
use Rattle.type_shapes.proofs.seen.+types.Goals as goal

pub push_sections-loop-section-preserved : goal.push_sections-loop-section-preserved
push_sections-loop-section-preserved t c =
    let e = chain_more (nodes_behind (meanings_of c.args.table.now)) c.args.sections.now c.loop-section.section-index c.section-item.result c.loop-section-test.true c.section-item.is in
    grind (arith, append_assoc, behind_is)
