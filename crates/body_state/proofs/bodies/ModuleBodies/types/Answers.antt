use Rattle.std.proofs.Common.{◌∙◌, refl}
use Rattle.estelle_model.specs.Bodies.{variable_types}
use Rattle.estelle_model.specs.Subject.{meant}
use Rattle.body_state.proofs.BodyLemmas.{of_body, of_no_body}
use Rattle.body_state.proofs.bodies.ModuleBodies.types.Goals as goal

pub returns-in-Some : goal.returns-in-Some
returns-in-Some c = c.as_slice.ensures ∙ of_body c.args.self.now c.args.number c.in-Some.body.now (λ m. m.variables) (λ b. variable_types (meant c.args.self.now) b) (λ b. refl) c.in-Some.ensures

pub returns-in-None : goal.returns-in-None
returns-in-None c = of_no_body c.args.self.now c.args.number (λ b. variable_types (meant c.args.self.now) b) c.in-None.ensures
