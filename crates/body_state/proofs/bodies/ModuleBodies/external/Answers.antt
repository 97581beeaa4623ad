use Rattle.std.proofs.Common.{length, refl}
use Rattle.estelle_model.specs.Bodies.{heading}
use Rattle.estelle_model.specs.Subject.{meant}
use Rattle.body_state.proofs.BodyLemmas.{of_body, of_no_body}
use Rattle.body_state.proofs.bodies.ModuleBodies.external.Goals as goal

pub returns-in-Some : goal.returns-in-Some
returns-in-Some c = of_body c.args.self.now c.args.number c.in-Some.body.now (λ m. m.external) (λ b. length (heading (meant c.args.self.now) b.header).ips) (λ b. refl) c.in-Some.ensures

pub returns-in-None : goal.returns-in-None
returns-in-None c = of_no_body c.args.self.now c.args.number (λ b. length (heading (meant c.args.self.now) b.header).ips) c.in-None.ensures
