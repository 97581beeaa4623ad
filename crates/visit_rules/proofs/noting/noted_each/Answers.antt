use Rattle.std.proofs.Common.{arith}
use Rattle.visit_rules.proofs.NotedLaws.{names_noted}
use Rattle.visit_rules.proofs.noting.noted_each.Goals as goal

pub loop-name-preserved : goal.loop-name-preserved
loop-name-preserved c =
    let e = names_noted c.args.number c.args.names.now c.loop-name.name-index c.name-item.result c.args.first c.loop-name-test.true c.name-item.is in
    grind (arith)
