use Rattle.std.proofs.Common.{refl}
use Rattle.body_walker_blocks.proofs.Plans.{then, stops, with, without, last, leaves, exits}
use Rattle.body_walker_blocks.proofs.ActionSteps.{attach_steps}
use Rattle.body_walker_blocks.proofs.linking.attach.Goals as goal

pub returns-in_err-upper : goal.returns-in_err-upper
returns-in_err-upper c = exits c.from_residual.result c.from_residual.ensures.1 (attach_steps c.args.scope.now c.args.here.now c.args.own.now c.args.modvar.now c.args.ip.now c.args.scope.now.subject refl) (without c.in_err-upper.ensures)

pub returns-in_err-lower : goal.returns-in_err-lower
returns-in_err-lower c = exits c.from_residual-in_err-lower.result c.from_residual-in_err-lower.ensures.1 (attach_steps c.args.scope.now c.args.here.now c.args.own.now c.args.modvar.now c.args.ip.now c.args.scope.now.subject refl) (with c.in_ok-upper.ensures (stops c.in_err-lower.ensures))

pub returns : goal.returns
returns c = leaves (attach_steps c.args.scope.now c.args.here.now c.args.own.now c.args.modvar.now c.args.ip.now c.bodies.result.now c.bodies.ensures) (with c.in_ok-upper.ensures (then c.in_ok-lower.ensures (last c.attach_points.ensures)))
