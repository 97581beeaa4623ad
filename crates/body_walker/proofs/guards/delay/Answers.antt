use Rattle.body_walker.proofs.GuardLemmas.{delay_none, delay_timed, delay_waits}
use Rattle.body_state.specs.Progress.{running}
use Rattle.body_walker.proofs.guards.delay.Goals as goal

pub returns-in-None : goal.returns-in-None
returns-in-None c = λ is. delay_none c.args.bodies.now c.args.transition.now c.args.path.now c.args.values.now c.args.timed c.args.transition.now.delay c.at_once.result (running c.args.walk.now) c.in-None.ensures (c.at_once.ensures c.args.bodies.now)

pub returns-then-timed : goal.returns-then-timed
returns-then-timed c = λ is. delay_timed c.args.bodies.now c.args.transition.now c.args.path.now c.args.values.now c.args.timed c.args.transition.now.delay c.in-Some.delay.now c.at_once-then-timed.result (running c.args.walk.now) c.in-Some.ensures c.if-timed.true (c.at_once-then-timed.ensures c.args.bodies.now)

pub returns-else-timed : goal.returns-else-timed
returns-else-timed c = λ is. delay_waits c.args.bodies.now c.args.transition.now c.args.path.now c.args.values.now c.args.timed c.args.transition.now.delay c.in-Some.delay.now c.waits.result (running c.args.walk.now) (running c.waits.new.walk) c.in-Some.ensures c.if-timed.false (c.waits.ensures is)
