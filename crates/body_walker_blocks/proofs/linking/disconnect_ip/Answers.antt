use Rattle.std.proofs.Common.{refl}
use Rattle.body_walker_blocks.proofs.Plans.{then, stops, last, leaves, exits}
use Rattle.body_walker_blocks.proofs.ActionSteps.{cut_ip_steps}
use Rattle.body_walker_blocks.proofs.linking.disconnect_ip.Goals as goal

pub returns-in_err-a : goal.returns-in_err-a
returns-in_err-a c = exits c.from_residual.result c.from_residual.ensures.1 (cut_ip_steps c.args.scope.now c.args.here.now c.args.node.now.name c.args.node.now.part c.args.scope.now.subject refl) (stops c.in_err-a.ensures)

pub returns : goal.returns
returns c = leaves (cut_ip_steps c.args.scope.now c.args.here.now c.args.node.now.name c.args.node.now.part c.bodies.result.now c.bodies.ensures) (then c.in_ok-a.ensures (last c.disconnect_point.ensures))
