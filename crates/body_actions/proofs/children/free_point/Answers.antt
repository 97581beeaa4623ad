use Rattle.std.proofs.Common.{◌∙◌, ap}
use Rattle.estelle_model.specs.States.{Logged, on_log}
use Rattle.estelle_model.specs.Steps.{StepResult, and_then}
use Rattle.estelle_model.specs.Actions.{disconnect_if, detach_if}
use Rattle.estelle_model.proofs.Carried.{carry_then}
use Rattle.body_state.specs.Progress.{running}
use Rattle.body_state.specs.Follows.{carried}
use Rattle.body_actions.proofs.children.free_point.Goals as goal

pub returns : goal.returns
returns c = λ s. carry_then Logged on_log (disconnect_if s c.args.a.now) (λ cut. detach_if s c.args.a.now) (running c.args.walk.now)
    ∙ ap (λ (o : StepResult Logged (Unit {0})). and_then o (λ cut. carried (detach_if s c.args.a.now))) (c.in_ok-disconnect_if.ensures s) ∙ c.in_ok-detach_if.ensures s
