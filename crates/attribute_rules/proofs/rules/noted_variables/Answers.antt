use Rattle.std.proofs.Common.{arith}
use Rattle.visit_rules.proofs.NotedLaws.{chain_noted}
use Rattle.attribute_rules.specs.AttributeRules.{variable_breaches}
use Rattle.attribute_rules.proofs.rules.noted_variables.Goals as goal

pub loop-variables-preserved : goal.loop-variables-preserved
loop-variables-preserved c =
    let e = chain_noted (variable_breaches c.args.table.now c.args.body c.args.rule) c.args.modvars.now c.loop-variables.variables-index c.variables-item.result c.args.first c.loop-variables-test.true c.variables-item.is in
    grind (arith)
