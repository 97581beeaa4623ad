use Rattle.body_walker_blocks.proofs.Plans.{last, leaves}
use Rattle.body_walker_blocks.proofs.BlockSteps.{clause_steps}
use Rattle.body_walker_blocks.proofs.blocks.clause.Goals as goal

pub returns : goal.returns
returns c = leaves (clause_steps c.new-scope.result (record { known = c.args.table.now; subject = c.args.bodies.now }) c.args.node.now c.new-scope.ensures c.in_ok-copy.ensures c.new.ensures) (last c.expr.ensures)
