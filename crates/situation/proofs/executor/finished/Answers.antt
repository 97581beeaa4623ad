use Rattle.std.proofs.Common.{ap, ◌∙◌, arith}
use Rattle.std.specs.Prelude.{IfOk}
use Rattle.estelle_model.specs.Delays.{has_delays}
use Rattle.situation.specs.Runs.{IsStopped}
use Rattle.situation.proofs.Planned.{steps_reach}
use Rattle.situation.proofs.Finished.{carried}
use Rattle.situation.proofs.executor.finished.Goals as goal

pub returns-in-Ok-Ended-clause-stopped : goal.returns-in-Ok-Ended-clause-stopped
returns-in-Ok-Ended-clause-stopped g c =
    let draw = g.H.Chooser.draw in
    let known = c.loop-world.invariant in
    carried draw g.C.Clock.moment c.args.world c.loop-world.world c.step.new.self c.in-Ok-Ended.field-0 c.in-Ok-Ended.ensures.stepped known.subject known.limits known.reached
    (λ clock first s limits. IfOk c.told.result.0 (λ r. IsStopped draw first clock s limits.budget limits.turns r.0.events r.1)) c.told.ensures.stopped

pub loop-world-preserved : goal.loop-world-preserved
loop-world-preserved g c =
    let known = c.loop-world.invariant in
    let step = c.in-Ok.ensures.stepped in
    record {
      subject = step.subject ∙ known.subject;
      limits = step.limits ∙ known.limits;
      first = step.first ∙ known.first;
      reached = λ clock chooser begun. steps_reach g.H.Chooser.draw g.C.Clock.moment clock chooser c.loop-world.world c.step.new.self c.in-Ok.field-0 (known.reached clock chooser begun) step;
      none = c.step.ensures.settled;
      later = omega (arith, known.later, c.step.ensures.later);
      unasked = λ undelayed. c.step.ensures.unasked (ap has_delays known.subject ∙ undelayed) ∙ known.unasked undelayed;
    }
