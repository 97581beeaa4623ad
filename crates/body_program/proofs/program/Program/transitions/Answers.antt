use Rattle.std.proofs.Common.{◌∙◌, ap, length}
use Rattle.estelle_model.specs.Subject.{body}
use Rattle.body_program.proofs.Holding.{there}
use Rattle.body_program.proofs.program.Program.transitions.Goals as goal

pub returns-in-Some : goal.returns-in-Some
returns-in-Some c = c.len.ensures ∙ ap (λ ts. length ts) (there c.args.self.now (body c.args.self.now c.args.number) c.in-Some.flat.now c.in-Some.ensures)
