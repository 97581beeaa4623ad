use Rattle.std.proofs.Common.{refl}
use Rattle.estelle_model.specs.declared.job.Done.{Done}
use Rattle.body_walker.proofs.plain.fire_plain.Goals as goal

pub returns-clause-answers : goal.returns-clause-answers
returns-clause-answers c =
    let done : Done = record { ticket = c.args.job.ticket; path = c.args.job.path; trans = c.args.job.trans; outcome = c.in_ok-outcome.outcome; left = c.in_ok-outcome.left } in
    c.jobs_are_answered.ensures c.args.program.now c.args.job done refl refl refl c.in_ok-outcome.ensures
