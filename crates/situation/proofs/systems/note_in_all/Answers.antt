use Rattle.std.proofs.Common.{◌<◌, length, arith}
use Rattle.situation_steps.specs.Systems.{after_firing}
use Rattle.situation.proofs.Listed.{change_more}
use Rattle.situation.proofs.systems.note_in_all.Goals as goal

pub loop-system-preserved : goal.loop-system-preserved
loop-system-preserved c =
    let less : c.loop-system.system-index < length c.args.systems.now = omega arith in
    change_more (after_firing c.args.path.now c.args.arrivals.now) c.args.systems.now c.loop-system.systems c.loop-system.system-index c.system-item.result c.note_firing.new.system less c.loop-system.invariant c.note_firing.ensures
