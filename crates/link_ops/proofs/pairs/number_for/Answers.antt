use Rattle.std.proofs.Common.{sym, ◌∙◌}
use Rattle.link_ops.proofs.Found.{number-point}
use Rattle.link_ops.proofs.pairs.number_for.Goals as goal

pub returns-in-Some-clause-there : goal.returns-in-Some-clause-there
returns-in-Some-clause-there c = number-point c.args.points.now c.args.ip c.in-Some.number (sym c.find.ensures ∙ c.in-Some.is)
