use Rattle.body_machine_jobs.proofs.LeftValues.{truth_err}
use Rattle.body_machine_jobs.proofs.guards.truth_left.Goals as goal

pub returns-in-Err : goal.returns-in-Err
returns-in-Err c = λ u. truth_err c.args.stack u c.in-Err.stop (c.in-Err.ensures u)
