use Rattle.std.proofs.Common.{Ok}
use Rattle.estelle_model.specs.Subject.{transition}
use Rattle.body_machine_jobs.proofs.FiringRuns.{not_fired}
use Rattle.body_machine_jobs.proofs.firing.fire.Goals as goal

pub returns-in-None : goal.returns-in-None
returns-in-None c = λ ticket. not_fired c.args.program.now c.args.numbers.now c.args.code.now c.args.path.now c.args.image c.args.head c.args.budget (Ok c.nothing.result) c.args.trans ticket c.args.body (transition c.args.program.now c.args.body c.args.trans) c.nothing.result c.in-None.ensures
