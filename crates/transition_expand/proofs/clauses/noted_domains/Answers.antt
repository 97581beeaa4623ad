use Rattle.std.proofs.Common.{arith}
use Rattle.visit_rules.proofs.NotedLaws.{chain_noted}
use Rattle.transition_expand.specs.TransitionRules.{wrong_domain}
use Rattle.transition_expand.proofs.clauses.noted_domains.Goals as goal

pub loop-any-preserved : goal.loop-any-preserved
loop-any-preserved c =
    let e = chain_noted (wrong_domain c.args.types.now) c.args.anys.now c.loop-any.any-index c.any-item.result c.args.first c.loop-any-test.true c.any-item.is in
    grind (arith)
