use Rattle.std.proofs.Common.{ap, arith, length}
use Rattle.std.specs.Borrow.{Bor}
use Rattle.std.proofs.lemmas.Grind.{common_steps}
use Rattle.estelle_tree.specs.declared.tree.name.Name.{Name}
use Rattle.estelle_model.specs.Definitions.{types_received}
use Rattle.meaning_table.specs.Known.{meanings_of}
use Rattle.meaning_table.proofs.Chains.{chain_map_more}
use Rattle.body_table.proofs.blocks.ReceivedBase.count.Goals as goal

pub loop-interaction-preserved : goal.loop-interaction-preserved
loop-interaction-preserved c =
    let each = λ (x : Name). types_received (meanings_of c.args.table.now x) in
    let more = ap length (chain_map_more each (λ (x : Bor Name). x.now) c.args.self.now.interactions.now c.loop-interaction.interaction-index c.interaction-item.result c.loop-interaction-test.true c.interaction-item.is) in
    grind (arith, common_steps)
