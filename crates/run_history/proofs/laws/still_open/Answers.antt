use Rattle.run_history.proofs.OpenTickets.{stay_open, job_stays}
use Rattle.run_history.proofs.laws.still_open.Goals as goal

pub returns-clause-open : goal.returns-clause-open
returns-clause-open c = stay_open

pub returns-clause-job_carries : goal.returns-clause-job_carries
returns-clause-job_carries c = job_stays
