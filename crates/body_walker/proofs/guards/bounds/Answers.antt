use Rattle.body_walker.proofs.GuardLemmas.{bounds_ok, bounds_err}
use Rattle.body_state.specs.Progress.{running}
use Rattle.body_walker.proofs.guards.bounds.Goals as goal

pub returns-in-Ok : goal.returns-in-Ok
returns-in-Ok c = λ t is. bounds_ok c.args.bodies.now t _ is c.args.path.now c.args.delay.now c.low.result.now c.high.result.now c.in-Ok.low c.high-in-Ok.result (running c.args.walk.now) (running c.clause.new.walk) (running c.high-in-Ok.new.walk) c.low.ensures c.high.ensures c.in-Ok.ensures (c.high-in-Ok.ensures t is)

pub returns-in-Err : goal.returns-in-Err
returns-in-Err c = λ t is. bounds_err c.args.bodies.now t _ is c.args.path.now c.args.delay.now c.low.result.now c.in-Err.stop (running c.args.walk.now) (running c.clause.new.walk) c.low.ensures c.in-Err.ensures
