use Rattle.std.proofs.Common.{Some, None, Ok, refl}
use Rattle.std.specs.Option.{option_copied}
use Rattle.estelle_model.specs.declared.job.Guard.TheVariants.{Off}
use Rattle.estelle_model.specs.Jobs.{instance_of}
use Rattle.body_machine_jobs.proofs.GuardRuns.{executes_guard, faithful_guard}
use Rattle.body_machine_jobs.proofs.jobs.run_guard.Goals as goal

pub returns-in-None-clause-executes : goal.returns-in-None-clause-executes
returns-in-None-clause-executes c = executes_guard c.args.program.now c.args.numbers.now c.args.code.now c.args.path.now c.args.view.now (option_copied c.args.head) c.args.timed c.args.budget c.args.trans c.requires None (Ok Off) c.in-None.ensures refl

pub returns-in-None-clause-answers : goal.returns-in-None-clause-answers
returns-in-None-clause-answers c = λ faithful. faithful_guard c.args.program.now c.args.numbers.now c.args.code.now c.args.path.now c.args.view.now (option_copied c.args.head) c.args.timed c.args.budget c.args.trans c.requires c.guards_are_answered.ensures faithful (Ok Off)
    (executes_guard c.args.program.now c.args.numbers.now c.args.code.now c.args.path.now c.args.view.now (option_copied c.args.head) c.args.timed c.args.budget c.args.trans c.requires None (Ok Off) c.in-None.ensures refl)

pub returns-in-Some-clause-executes : goal.returns-in-Some-clause-executes
returns-in-Some-clause-executes c = executes_guard c.args.program.now c.args.numbers.now c.args.code.now c.args.path.now c.args.view.now (option_copied c.args.head) c.args.timed c.args.budget c.args.trans c.requires (Some (instance_of c.in-Some.part.now)) c.of_part.result c.in-Some.ensures c.of_part.ensures

pub returns-in-Some-clause-answers : goal.returns-in-Some-clause-answers
returns-in-Some-clause-answers c = λ faithful. faithful_guard c.args.program.now c.args.numbers.now c.args.code.now c.args.path.now c.args.view.now (option_copied c.args.head) c.args.timed c.args.budget c.args.trans c.requires c.guards_are_answered.ensures faithful c.of_part.result
    (executes_guard c.args.program.now c.args.numbers.now c.args.code.now c.args.path.now c.args.view.now (option_copied c.args.head) c.args.timed c.args.budget c.args.trans c.requires (Some (instance_of c.in-Some.part.now)) c.of_part.result c.in-Some.ensures c.of_part.ensures)
