use Rattle.body_state.specs.Progress.{running}
use Rattle.body_machine_jobs.proofs.GuardParts.{delays_none, delays_timed, delays_waits}
use Rattle.body_machine_jobs.proofs.guards.delay.Goals as goal

pub returns-in-None : goal.returns-in-None
returns-in-None c = delays_none c.args.bodies.now c.args.numbers.now c.args.code.now c.args.path.now c.args.values.now c.args.body c.args.trans c.args.transition.now (running c.args.walk) c.args.timed c.at_once.result c.in-None.ensures (c.at_once.ensures c.args.bodies.now)

pub returns-then-timed : goal.returns-then-timed
returns-then-timed c = delays_timed c.args.bodies.now c.args.numbers.now c.args.code.now c.args.path.now c.args.values.now c.args.body c.args.trans c.args.transition.now (running c.args.walk) c.args.timed c.in-Some.delay.now c.at_once-then-timed.result c.in-Some.ensures c.if-timed.true (c.at_once-then-timed.ensures c.args.bodies.now)

pub returns-else-timed : goal.returns-else-timed
returns-else-timed c = delays_waits c.args.bodies.now c.args.numbers.now c.args.code.now c.args.path.now c.args.values.now c.args.body c.args.trans c.args.transition.now (running c.args.walk) c.args.timed c.in-Some.delay.now c.high.result.now c.waits.result c.in-Some.ensures c.if-timed.false c.high.ensures c.waits.ensures
