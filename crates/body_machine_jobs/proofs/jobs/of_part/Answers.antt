use Rattle.std.proofs.Common.{refl, subst}
use Rattle.std.specs.Prelude.{IfOk}
use Rattle.std.specs.Option.{option_copied}
use Rattle.estelle_model.specs.declared.job.Guard.TheVariants.{Off}
use Rattle.estelle_model.specs.Jobs.{instance_of}
use Rattle.body_machine_meaning.specs.Executed.{GuardsIf}
use Rattle.body_machine_jobs.proofs.jobs.of_part.Goals as goal

pub returns-in-None : goal.returns-in-None
returns-in-None c = subst (λ o. GuardsIf c.args.program.now c.args.numbers.now c.args.code.now c.args.path.now c.args.view.now (option_copied c.args.head) c.args.timed c.args.budget c.args.trans (instance_of c.args.part.now) o Off) c.in-None.ensures refl

pub returns-in-Some : goal.returns-in-Some
returns-in-Some c = subst (λ o. IfOk c.of_transition.result (GuardsIf c.args.program.now c.args.numbers.now c.args.code.now c.args.path.now c.args.view.now (option_copied c.args.head) c.args.timed c.args.budget c.args.trans (instance_of c.args.part.now) o)) c.in-Some.ensures c.of_transition.ensures
