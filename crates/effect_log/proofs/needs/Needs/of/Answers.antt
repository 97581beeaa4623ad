use Rattle.std.proofs.Common.{◌<◌, length, arith}
use Rattle.effect_log.specs.Rooms.{outputs_of, links_of, instances_of, points_of, depth_of, removes}
use Rattle.effect_log.proofs.Counting.{sum-next, any-next, most-next}
use Rattle.effect_log.proofs.needs.Needs.of.Goals as goal

pub loop-effect-preserved : goal.loop-effect-preserved
loop-effect-preserved c =
    let within : c.loop-effect.effect-index < length c.args.effects.now = c.loop-effect-test.true in
    let was = c.loop-effect.invariant in
    let more = c.in_ok-add.ensures in
    record {
      outputs = sum-next c.args.effects.now c.loop-effect.effect-index c.effect-item.result within c.effect-item.is outputs_of _ _ more.outputs was.outputs;
      links = sum-next c.args.effects.now c.loop-effect.effect-index c.effect-item.result within c.effect-item.is links_of _ _ more.links was.links;
      instances = sum-next c.args.effects.now c.loop-effect.effect-index c.effect-item.result within c.effect-item.is instances_of _ _ more.instances was.instances;
      points = sum-next c.args.effects.now c.loop-effect.effect-index c.effect-item.result within c.effect-item.is points_of _ _ more.points was.points;
      widest = omega (arith, was.widest, more.widest);
      depths = most-next c.args.effects.now c.loop-effect.effect-index c.effect-item.result within c.effect-item.is depth_of _ _ more.widest more.depth was.depths;
      removes = any-next c.args.effects.now c.loop-effect.effect-index c.effect-item.result within c.effect-item.is removes _ _ more.removes was.removes;
    }
