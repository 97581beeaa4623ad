use Rattle.std.proofs.Common.{refl}
use Rattle.body_walker_blocks.proofs.Plans.{then, stops, last, leaves, exits}
use Rattle.body_walker_blocks.proofs.ActionSteps.{cut_module_steps}
use Rattle.body_walker_blocks.proofs.linking.disconnect_module.Goals as goal

pub returns-in_err-child : goal.returns-in_err-child
returns-in_err-child c = exits c.from_residual.result c.from_residual.ensures.1 (cut_module_steps c.args.scope.now c.args.here.now c.args.number c.args.scope.now.subject refl) (stops c.in_err-child.ensures)

pub returns : goal.returns
returns c = leaves (cut_module_steps c.args.scope.now c.args.here.now c.args.number c.bodies.result.now c.bodies.ensures) (then c.in_ok-child.ensures (last c.disconnect_child.ensures))
