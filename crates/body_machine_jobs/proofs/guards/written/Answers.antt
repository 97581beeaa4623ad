use Rattle.body_machine_jobs.proofs.LeftValues.{onward_ok, onward_err, as_expr}
use Rattle.body_machine_jobs.proofs.guards.written.Goals as goal

pub returns-in-Ok : goal.returns-in-Ok
returns-in-Ok c = λ s u. onward_ok s c.args.stack u c.args.high.now c.in-Ok.low c.from_one.result c.in-Star.is (c.in-Ok.ensures u) (c.from_one.ensures s)

pub returns-in-Err : goal.returns-in-Err
returns-in-Err c = λ s u. onward_err s c.args.stack u c.args.high.now c.in-Err.stop c.in-Star.is (c.in-Err.ensures u)

pub returns-in-Expr : goal.returns-in-Expr
returns-in-Expr c = λ s u. as_expr s c.args.stack u c.between_left.result c.args.high.now c.in-Expr.field-0 c.in-Expr.is (c.between_left.ensures s c.in-Expr.field-0 u)
