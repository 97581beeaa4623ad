use Rattle.body_walker_blocks.proofs.Plans.{then, stops, finished, leaves, exits}
use Rattle.body_walker_blocks.proofs.BlockSteps.{block_steps}
use Rattle.body_walker_blocks.proofs.blocks.block.Goals as goal

pub returns-in_err-within : goal.returns-in_err-within
returns-in_err-within c = exits c.from_residual-in_err-within.result c.from_residual-in_err-within.ensures.1 (block_steps c.new-scope.result (record { known = c.args.table.now; subject = c.args.bodies.now }) c.args.routine.now c.args.values c.new-scope.ensures c.in_ok-copy.ensures c.new.ensures) (stops c.in_err-within.ensures)

pub returns : goal.returns
returns c = leaves (block_steps c.new-scope.result (record { known = c.args.table.now; subject = c.args.bodies.now }) c.args.routine.now c.args.values c.new-scope.ensures c.in_ok-copy.ensures c.new.ensures) (then c.in_ok-within.ensures finished)
