use Rattle.std.proofs.Common.{ap, ◌∙◌}
use Rattle.std.specs.Option.{option_copied}
use Rattle.body_jobs.specs.Settled.{settled_on}
use Rattle.body_jobs.proofs.settling.settled_at.Goals as goal

pub returns-in-None : goal.returns-in-None
returns-in-None c = ap (settled_on c.args.program.now (option_copied c.args.head) c.args.timed c.args.part.now.state) c.in-None.ensures

pub returns-in-Some : goal.returns-in-Some
returns-in-Some c = c.settled_of.ensures c.args.program.now ∙ ap (settled_on c.args.program.now (option_copied c.args.head) c.args.timed c.args.part.now.state) c.in-Some.ensures
