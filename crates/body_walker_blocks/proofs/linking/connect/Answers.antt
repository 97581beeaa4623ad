use Rattle.std.proofs.Common.{refl}
use Rattle.body_walker_blocks.proofs.Plans.{then, stops, last, leaves, exits}
use Rattle.body_walker_blocks.proofs.ActionSteps.{connect_steps}
use Rattle.body_walker_blocks.proofs.linking.connect.Goals as goal

pub returns-in_err-a : goal.returns-in_err-a
returns-in_err-a c = exits c.from_residual.result c.from_residual.ensures.1 (connect_steps c.args.scope.now c.args.here.now c.args.first.now c.args.second.now c.args.scope.now.subject refl) (stops c.in_err-a.ensures)

pub returns-in_err-b : goal.returns-in_err-b
returns-in_err-b c = exits c.from_residual-in_err-b.result c.from_residual-in_err-b.ensures.1 (connect_steps c.args.scope.now c.args.here.now c.args.first.now c.args.second.now c.args.scope.now.subject refl) (then c.in_ok-a.ensures (stops c.in_err-b.ensures))

pub returns : goal.returns
returns c = leaves (connect_steps c.args.scope.now c.args.here.now c.args.first.now c.args.second.now c.bodies.result.now c.bodies.ensures) (then c.in_ok-a.ensures (then c.in_ok-b.ensures (last c.connect_points.ensures)))
