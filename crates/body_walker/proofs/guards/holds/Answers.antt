use Rattle.std.proofs.Common.{ap}
use Rattle.estelle_model.specs.States.{Logged, on_log}
use Rattle.estelle_model.specs.Clauses.{value_of_expr}
use Rattle.estelle_model.specs.Expressions.{bool_step}
use Rattle.body_walker.proofs.GuardLemmas.{clause_ok, clause_err, clause_stops}
use Rattle.body_state.specs.Progress.{running}
use Rattle.body_walker.proofs.guards.holds.Goals as goal

pub returns-in-Ok-truth : goal.returns-in-Ok-truth
returns-in-Ok-truth c = λ is. clause_ok c.args.bodies.now c.args.transition.now c.args.path.now c.args.values.now (bool_step (value_of_expr Logged on_log c.args.bodies.now c.args.path.now c.args.transition.now c.args.node.now)) c.in-Ok-truth.holds (running c.args.walk.now) (running c.begin.new.walk) (running c.truth.new.walk) (running c.leave_values.new.self) c.in-Ok.ensures (c.in-Ok-truth.ensures c.args.transition.now is) (ap running c.leave_values.ensures)

pub returns-in-Err-truth : goal.returns-in-Err-truth
returns-in-Err-truth c = λ is. clause_err c.args.bodies.now c.args.transition.now c.args.path.now c.args.values.now (bool_step (value_of_expr Logged on_log c.args.bodies.now c.args.path.now c.args.transition.now c.args.node.now)) c.in-Err-truth.stop (running c.args.walk.now) (running c.begin.new.walk) (running c.truth.new.walk) c.in-Ok.ensures (c.in-Err-truth.ensures c.args.transition.now is)

pub returns-in-Err : goal.returns-in-Err
returns-in-Err c = λ is. clause_stops c.args.bodies.now c.args.transition.now c.args.path.now c.args.values.now (bool_step (value_of_expr Logged on_log c.args.bodies.now c.args.path.now c.args.transition.now c.args.node.now)) c.in-Err.stop (running c.args.walk.now) (running c.begin.new.walk) c.in-Err.ensures
