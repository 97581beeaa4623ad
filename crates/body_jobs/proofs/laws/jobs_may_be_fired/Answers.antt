use Rattle.body_jobs.proofs.JobLemmas.{may_be_fired}
use Rattle.body_jobs.proofs.laws.jobs_may_be_fired.Goals as goal

pub returns : goal.returns
returns c = may_be_fired
