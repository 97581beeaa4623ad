use Rattle.std.proofs.Common.{arith}
use Rattle.body_values.proofs.FrameLemmas.{types_more}
use Rattle.body_values.proofs.frames.count_values.Goals as goal

pub loop-parameter-preserved : goal.loop-parameter-preserved
loop-parameter-preserved c =
    let more = types_more c.args.parameters.now c.loop-parameter.parameter-index c.parameter-item.result c.loop-parameter-test.true c.parameter-item.is in
    let places = c.places-count.ensures.count in
    let bound = c.places-count.ensures.bound in
    let before = c.loop-parameter.invariant in
    (omega (arith, more, places, before.0), omega (arith, bound, before.1))
