use Rattle.std.proofs.Common.{◌∙◌}
use Rattle.pascal_values.proofs.ShapeLemmas.{repeated_more, repeated_all}
use Rattle.body_values.proofs.whole.repeated.Goals as goal

pub returns : goal.returns
returns c = repeated_all c.args.copies c.loop.counter c.args.value _ c.loop.values _ c.loop-test.false c.loop.auto.counter-end c.loop.invariant.made c.loop.invariant.same c.in_ok-push-2.ensures.ok

pub loop-preserved : goal.loop-preserved
loop-preserved c = record {
  made = repeated_more c.loop.counter c.args.value _ c.loop.values _ c.loop.invariant.made (c.in_ok-copy.ensures ∙ c.loop.invariant.same) c.in_ok-push.ensures.ok;
  same = c.loop.invariant.same;
}
