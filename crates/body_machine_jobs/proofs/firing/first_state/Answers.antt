use Rattle.std.proofs.Common.{ap, sym}
use Rattle.estelle_model.specs.Subject as model
use Rattle.body_jobs.proofs.StartLemmas.{begun_some, begun_none}
use Rattle.body_machine_jobs.proofs.firing.first_state.Goals as goal

pub returns-in-None : goal.returns-in-None
returns-in-None c = sym (ap (λ (b : model.Initialization). b.to) (begun_none c.args.bodies.now c.in-None.ensures))

pub returns-in-Some : goal.returns-in-Some
returns-in-Some c = sym (ap (λ (b : model.Initialization). b.to) (begun_some c.args.bodies.now c.in-Some.first.now c.in-Some.ensures))
