use Rattle.std.proofs.Common.{arith}
use Rattle.scope_names_events.proofs.WritingLemmas.{lists_more}
use Rattle.scope_rules.specs.ExpressionEvents.{selector}
use Rattle.scope_names_events.proofs.expressions.steps_of.Goals as goal

pub loop-selector-preserved : goal.loop-selector-preserved
loop-selector-preserved c =
    let e = lists_more (λ s. (selector s).0) c.args.selectors.now c.loop-selector.selector-index c.selector-item.result c.loop-selector-test.true c.selector-item.is in
    grind (arith)
