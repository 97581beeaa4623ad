use Rattle.std.proofs.Common.{◌∙◌, ap}
use Rattle.std.specs.Prelude.{option_map}
use Rattle.estelle_model.specs.Subject.{Subject, initialization}
use Rattle.body_state.specs.Bodies.{initialization_of}
use Rattle.body_jobs.proofs.StartLemmas.{begun_some}
use Rattle.body_walker.proofs.FiringLemmas.{started}
use Rattle.body_walker.proofs.firing.start.Goals as goal

pub returns-in-Some : goal.returns-in-Some
returns-in-Some c =
    let s : Subject = c.args.program.now in
    started s (record { to = c.in-Some.first.now.to; block = c.in-Some.first.now.block }) c.args.budget c.begin.result
    (begun_some s c.in-Some.first.now (c.in-Some.ensures ∙ ap (λ (x : Subject). option_map initialization_of (initialization x 0)) c.bodies.ensures)) c.begin.ensures
