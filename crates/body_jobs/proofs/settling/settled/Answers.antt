use Rattle.std.specs.Option.{option_copied}
use Rattle.body_jobs.proofs.SettledGuards.{computed_of, answers_of}
use Rattle.body_jobs.proofs.settling.settled.Goals as goal

pub returns-clause-computed : goal.returns-clause-computed
returns-clause-computed c = computed_of c.guards_are_answered.ensures c.args.program.now c.args.part.now c.args.trans (option_copied c.args.head) c.args.timed c.settled_at.result c.settled_at.ensures

pub returns-clause-answers : goal.returns-clause-answers
returns-clause-answers c = answers_of c.guards_are_answered.ensures c.args.program.now c.args.part.now c.args.trans (option_copied c.args.head) c.args.timed c.settled_at.result c.settled_at.ensures
