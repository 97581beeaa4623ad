use Rattle.body_walker_blocks.proofs.HostSteps.{item_turn}
use Rattle.body_walker_blocks.proofs.hosts.item_behind.Goals as goal

pub loop-preserved : goal.loop-preserved
loop-preserved c = item_turn c.loop.item.now c.item_of-item.result.now _ c.args.indices c.loop.counter c.loop-test.true c.item_of-item.ensures c.loop.invariant
