use Rattle.body_walker.proofs.GuardLemmas.{guard_true, guard_false, guard_err}
use Rattle.body_state.specs.Progress.{running}
use Rattle.body_walker.proofs.guards.guard.Goals as goal

pub returns-else-not-holds : goal.returns-else-not-holds
returns-else-not-holds c = λ is. guard_true c.args.bodies.now c.args.transition.now c.args.path.now c.args.values.now c.args.timed c.in-Ok.holds c.delay.result (running c.args.walk.now) (running c.provided.new.walk) (running c.delay.new.walk) c.if-not-holds.false (c.in-Ok.ensures is) (c.delay.ensures is)

pub returns-then-not-holds : goal.returns-then-not-holds
returns-then-not-holds c = λ is. guard_false c.args.bodies.now c.args.transition.now c.args.path.now c.args.values.now c.args.timed c.in-Ok.holds (running c.args.walk.now) (running c.provided.new.walk) c.if-not-holds.true (c.in-Ok.ensures is)

pub returns-in-Err : goal.returns-in-Err
returns-in-Err c = λ is. guard_err c.args.bodies.now c.args.transition.now c.args.path.now c.args.values.now c.args.timed c.in-Err.stop (running c.args.walk.now) (running c.provided.new.walk) (c.in-Err.ensures is)
