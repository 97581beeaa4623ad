use Rattle.std.proofs.Common.{arith, ◌∙◌}
use Rattle.pascal_values.proofs.SetLemmas.{range-more, IsSet-ranged, ranged-is}
use Rattle.pascal_values.proofs.sets.span.Goals as goal

pub loop-n-preserved : goal.loop-n-preserved
loop-n-preserved c = record {
  made = range-more c.args.low c.loop-n.n c.loop-n.ordinals.items c.push.new.self.items c.loop-n.auto.n c.loop-n.invariant.made c.in_ok-push.ensures.items;
  n_in = omega arith;
}

pub of-requires : goal.of-requires
of-requires c = IsSet-ranged c.args.low c.args.high c.loop-n.n c.loop-n.ordinals.items (omega arith) c.loop-n-test.false c.loop-n.invariant.n_in c.loop-n.invariant.made

pub returns : goal.returns
returns c = ranged-is c.args.low c.args.high c.loop-n.n c.of.result (omega arith) c.loop-n-test.false c.loop-n.invariant.n_in (c.of.ensures ∙ c.loop-n.invariant.made)
