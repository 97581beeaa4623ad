use Rattle.body_walker.proofs.GuardLemmas.{high_star, high_ok, high_err}
use Rattle.body_state.specs.Progress.{running}
use Rattle.body_walker.proofs.guards.written.Goals as goal

pub returns-in-Star : goal.returns-in-Star
returns-in-Star c = λ t is. high_star c.args.bodies.now t c.args.path.now c.args.low.now c.args.high.now c.from_one.result (running c.args.walk.now) c.in-Star.is (c.from_one.ensures c.args.bodies.now)

pub returns-in-Ok : goal.returns-in-Ok
returns-in-Ok c = λ t is. high_ok c.args.bodies.now t _ is c.args.path.now c.args.low.now c.in-Ok.high c.args.high.now c.in-Expr.node c.from_both.result (running c.args.walk.now) (running c.clause.new.walk) c.in-Expr.is c.in-Ok.ensures (c.from_both.ensures c.args.bodies.now)

pub returns-in-Err : goal.returns-in-Err
returns-in-Err c = λ t is. high_err c.args.bodies.now t _ is c.args.path.now c.args.low.now c.args.high.now c.in-Expr.node c.in-Err.stop (running c.args.walk.now) (running c.clause.new.walk) c.in-Expr.is c.in-Err.ensures
