use Rattle.std.proofs.Common.{append_assoc, arith}
use Rattle.scope_rules.specs.declared.event.Step.TheVariants as step
use Rattle.scope_names_events.proofs.WritingLemmas.{same_more}
use Rattle.scope_names_events.proofs.expressions.push_indices.Goals as goal

pub loop-expr-preserved : goal.loop-expr-preserved
loop-expr-preserved c =
    let e = same_more step.Index c.args.exprs.now c.loop-expr._expr-index c.loop-expr-test.true in
    grind (arith, append_assoc)
