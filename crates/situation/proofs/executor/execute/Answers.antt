use Rattle.std.proofs.Common.{subst, IfOk, ◌∙◌}
use Rattle.estelle_model.specs.Subject.{Subject}
use Rattle.situation.specs.Runs.{IsStopped}
use Rattle.situation.proofs.executor.execute.Goals as goal

pub returns-clause-stopped : goal.returns-clause-stopped
returns-clause-stopped g c =
    subst (λ (s : Subject). IfOk c.run.result.0 (λ r. IsStopped g.H.Chooser.draw c.args.chooser (g.C.Clock.moment c.args.clock) s c.args.limits.budget c.args.limits.turns r.0.events r.1)) (c.in-Ok-new.ensures ∙ c.in-Ok.ensures) c.run.ensures.stopped
