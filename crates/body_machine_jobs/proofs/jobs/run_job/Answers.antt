use Rattle.std.proofs.Common.{refl}
use Rattle.estelle_model.specs.declared.job.Done.{Done}
use Rattle.body_machine_jobs.proofs.jobs.run_job.Goals as goal

pub returns-clause-executes : goal.returns-clause-executes
returns-clause-executes c = c.in_ok-outcome.ensures c.args.job.ticket

pub returns-clause-answers : goal.returns-clause-answers
returns-clause-answers c = λ faithful.
    let done : Done = record { ticket = c.args.job.ticket; path = c.args.job.path; trans = c.args.job.trans; outcome = c.in_ok-outcome.outcome; left = c.in_ok-outcome.left } in
    c.jobs_are_answered.ensures c.args.program.now c.args.job done refl refl refl (faithful.jobs c.args.job done.outcome done.left (c.in_ok-outcome.ensures c.args.job.ticket))
