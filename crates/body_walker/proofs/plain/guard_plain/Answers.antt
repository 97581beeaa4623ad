use Rattle.std.proofs.Common.{None}
use Rattle.std.specs.Option.{option_copied}
use Rattle.estelle_model.specs.declared.job.Guard.TheVariants.{Off}
use Rattle.estelle_model.specs.Jobs.{instance_of}
use Rattle.body_jobs.proofs.GuardAnswers.{of_image, answers_of, computed_result, answers_result}
use Rattle.body_walker.proofs.plain.guard_plain.Goals as goal

pub returns-in-None-clause-computed : goal.returns-in-None-clause-computed
returns-in-None-clause-computed c = of_image c.args.program.now c.args.path.now c.args.view.now c.args.trans (option_copied c.args.head) c.args.timed c.args.budget c.requires None c.in-None.ensures

pub returns-in-None-clause-answers : goal.returns-in-None-clause-answers
returns-in-None-clause-answers c = answers_of c.args.program.now c.args.path.now c.args.view.now c.args.trans (option_copied c.args.head) c.args.timed c.args.budget c.requires c.guards_are_answered.ensures Off
    (of_image c.args.program.now c.args.path.now c.args.view.now c.args.trans (option_copied c.args.head) c.args.timed c.args.budget c.requires None c.in-None.ensures)

pub returns-in-Some-clause-computed : goal.returns-in-Some-clause-computed
returns-in-Some-clause-computed c = computed_result c.args.program.now c.args.path.now c.args.view.now c.args.trans (option_copied c.args.head) c.args.timed c.args.budget c.requires (instance_of c.in-Some.part.now) c.in-Some.ensures c.of_part.result c.of_part.ensures

pub returns-in-Some-clause-answers : goal.returns-in-Some-clause-answers
returns-in-Some-clause-answers c = answers_result c.args.program.now c.args.path.now c.args.view.now c.args.trans (option_copied c.args.head) c.args.timed c.args.budget c.requires c.guards_are_answered.ensures c.of_part.result
    (computed_result c.args.program.now c.args.path.now c.args.view.now c.args.trans (option_copied c.args.head) c.args.timed c.args.budget c.requires (instance_of c.in-Some.part.now) c.in-Some.ensures c.of_part.result c.of_part.ensures)
