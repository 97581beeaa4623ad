use Rattle.std.proofs.Common.{◌∙◌, ap}
use Rattle.estelle_model.specs.Subject.{body, numbered_one}
use Rattle.body_program.proofs.Holding.{there}
use Rattle.body_program.proofs.program.Program.transition.Goals as goal

pub returns-in-Some : goal.returns-in-Some
returns-in-Some c = c.transition.ensures ∙ ap (λ ts. numbered_one ts c.args.trans) (there c.args.self.now (body c.args.self.now c.args.number) c.in-Some.flat.now c.in-Some.ensures)
