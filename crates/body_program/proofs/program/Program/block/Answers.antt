use Rattle.std.proofs.Common.{◌∙◌}
use Rattle.estelle_model.specs.Subject.{body}
use Rattle.body_program.proofs.Holding.{block_there}
use Rattle.body_program.proofs.program.Program.block.Goals as goal

pub returns-in-Some : goal.returns-in-Some
returns-in-Some c = c.block.ensures ∙ block_there c.args.self.now (body c.args.self.now c.args.number) c.in-Some.flat.now c.args.trans c.in-Some.ensures
