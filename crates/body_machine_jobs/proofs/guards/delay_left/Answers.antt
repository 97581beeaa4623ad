use Rattle.body_machine_jobs.proofs.LeftValues.{just_ok, just_err, as_written}
use Rattle.body_machine_jobs.proofs.guards.delay_left.Goals as goal

pub returns-in-Ok : goal.returns-in-Ok
returns-in-Ok c = λ s u. just_ok s c.args.stack u c.args.high.now c.in-Ok.low c.from_both.result c.in-None.is (c.in-Ok.ensures u) (c.from_both.ensures s)

pub returns-in-Err : goal.returns-in-Err
returns-in-Err c = λ s u. just_err s c.args.stack u c.args.high.now c.in-Err.stop c.in-None.is (c.in-Err.ensures u)

pub returns-in-Some : goal.returns-in-Some
returns-in-Some c = λ s u. as_written s c.args.stack u c.written.result c.args.high.now _ c.in-Some.is (c.written.ensures s u)
