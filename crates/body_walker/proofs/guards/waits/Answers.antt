use Rattle.std.proofs.Common.{ap}
use Rattle.body_walker.specs.Runs.{bounds_step}
use Rattle.body_walker.proofs.GuardLemmas.{clause_ok, clause_err, clause_stops}
use Rattle.body_state.specs.Progress.{running}
use Rattle.body_walker.proofs.guards.waits.Goals as goal

pub returns-in-Ok-bounds : goal.returns-in-Ok-bounds
returns-in-Ok-bounds c = λ is. clause_ok c.args.bodies.now c.args.transition.now c.args.path.now c.args.values.now (bounds_step c.args.bodies.now c.args.path.now c.args.transition.now c.args.delay.now) c.in-Ok-bounds.guard (running c.args.walk.now) (running c.begin.new.walk) (running c.bounds.new.walk) (running c.leave_values.new.self) c.in-Ok.ensures (c.in-Ok-bounds.ensures c.args.transition.now is) (ap running c.leave_values.ensures)

pub returns-in-Err-bounds : goal.returns-in-Err-bounds
returns-in-Err-bounds c = λ is. clause_err c.args.bodies.now c.args.transition.now c.args.path.now c.args.values.now (bounds_step c.args.bodies.now c.args.path.now c.args.transition.now c.args.delay.now) c.in-Err-bounds.stop (running c.args.walk.now) (running c.begin.new.walk) (running c.bounds.new.walk) c.in-Ok.ensures (c.in-Err-bounds.ensures c.args.transition.now is)

pub returns-in-Err : goal.returns-in-Err
returns-in-Err c = λ is. clause_stops c.args.bodies.now c.args.transition.now c.args.path.now c.args.values.now (bounds_step c.args.bodies.now c.args.path.now c.args.transition.now c.args.delay.now) c.in-Err.stop (running c.args.walk.now) (running c.begin.new.walk) c.in-Err.ensures
