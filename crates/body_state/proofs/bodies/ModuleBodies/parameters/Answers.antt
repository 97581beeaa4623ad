use Rattle.std.proofs.Common.{◌∙◌, refl}
use Rattle.estelle_model.specs.Bodies.{heading}
use Rattle.estelle_model.specs.Subject.{meant}
use Rattle.body_state.proofs.BodyLemmas.{of_body, of_no_body}
use Rattle.body_state.proofs.bodies.ModuleBodies.parameters.Goals as goal

pub returns-in-Some : goal.returns-in-Some
returns-in-Some c = c.as_slice.ensures ∙ of_body c.args.self.now c.args.number c.in-Some.body.now (λ m. m.parameters) (λ b. (heading (meant c.args.self.now) b.header).parameters) (λ b. refl) c.in-Some.ensures

pub returns-in-None : goal.returns-in-None
returns-in-None c = of_no_body c.args.self.now c.args.number (λ b. (heading (meant c.args.self.now) b.header).parameters) c.in-None.ensures
