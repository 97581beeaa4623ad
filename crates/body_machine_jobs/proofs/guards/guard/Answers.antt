use Rattle.body_state.specs.Progress.{running}
use Rattle.body_machine_jobs.proofs.GuardParts.{holds_err, holds_off, holds_on}
use Rattle.body_machine_jobs.proofs.guards.guard.Goals as goal

pub returns-then-not-holds : goal.returns-then-not-holds
returns-then-not-holds c = holds_off c.args.bodies.now c.args.numbers.now c.args.code.now c.args.path.now c.args.values.now c.args.body c.args.trans c.args.transition.now (running c.args.walk) c.args.timed c.in-Ok.asked.0 c.in-Ok.asked.1 c.if-not-holds.true c.in-Ok.ensures

pub returns-else-not-holds : goal.returns-else-not-holds
returns-else-not-holds c = holds_on c.args.bodies.now c.args.numbers.now c.args.code.now c.args.path.now c.args.values.now c.args.body c.args.trans c.args.transition.now (running c.args.walk) c.args.timed c.in-Ok.asked.0 c.in-Ok.asked.1 c.delay.result c.if-not-holds.false c.in-Ok.ensures c.delay.ensures

pub returns-in-Err : goal.returns-in-Err
returns-in-Err c = holds_err c.args.bodies.now c.args.numbers.now c.args.code.now c.args.path.now c.args.values.now c.args.body c.args.trans c.args.transition.now (running c.args.walk) c.args.timed c.in-Err.stop c.in-Err.ensures
