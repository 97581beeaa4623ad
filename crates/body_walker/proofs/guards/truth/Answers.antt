use Rattle.body_walker.proofs.GuardLemmas.{truth_ok, truth_err}
use Rattle.body_state.specs.Progress.{running}
use Rattle.body_walker.proofs.guards.truth.Goals as goal

pub returns-in-Ok : goal.returns-in-Ok
returns-in-Ok c = λ t is. truth_ok c.args.bodies.now t _ is c.args.path.now c.args.node.now (running c.args.walk.now) (running c.clause.new.walk) c.in-Ok.value c.bool_of.result c.in-Ok.ensures c.bool_of.ensures

pub returns-in-Err : goal.returns-in-Err
returns-in-Err c = λ t is. truth_err c.args.bodies.now t _ is c.args.path.now c.args.node.now (running c.args.walk.now) (running c.clause.new.walk) c.in-Err.stop c.in-Err.ensures
