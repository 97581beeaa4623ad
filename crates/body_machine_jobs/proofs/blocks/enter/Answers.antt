use Rattle.estelle_model.specs.Actions.{enters_state}
use Rattle.body_state.specs.Follows.{carried}
use Rattle.body_machine_jobs.proofs.blocks.enter.Goals as goal

pub returns : goal.returns
returns c = c.finish.ensures (carried (enters_state c.args.bodies.now c.args.path.now c.args.to)) c.args.walk (c.enter_state-entered.ensures c.args.bodies.now)
