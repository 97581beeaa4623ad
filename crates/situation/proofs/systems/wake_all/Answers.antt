use Rattle.std.proofs.Common.{◌<◌, length, refl, arith, get_or}
use Rattle.situation_steps.specs.Systems.{after_wait}
use Rattle.situation.proofs.Listed.{change_more}
use Rattle.situation.proofs.systems.wake_all.Goals as goal

pub loop-system-preserved : goal.loop-system-preserved
loop-system-preserved c =
    let less : c.loop-system.system-index < length c.args.systems.now = omega arith in
    change_more after_wait c.args.systems.now c.loop-system.systems c.loop-system.system-index c.system-item.result (after_wait (get_or c.loop-system.systems c.loop-system.system-index c.system-item.result)) less c.loop-system.invariant refl
