use Rattle.std.proofs.Common.{refl}
use Rattle.body_walker_blocks.proofs.Plans.{with, without, last, leaves, exits}
use Rattle.body_walker_blocks.proofs.ActionSteps.{detach_steps}
use Rattle.body_walker_blocks.proofs.linking.detach.Goals as goal

pub returns-in_err-upper : goal.returns-in_err-upper
returns-in_err-upper c = exits c.from_residual.result c.from_residual.ensures.1 (detach_steps c.args.scope.now c.args.here.now c.args.own.now c.args.scope.now.subject refl) (without c.in_err-upper.ensures)

pub returns : goal.returns
returns c = leaves (detach_steps c.args.scope.now c.args.here.now c.args.own.now c.bodies.result.now c.bodies.ensures) (with c.in_ok-upper.ensures (last c.detach_point.ensures))
