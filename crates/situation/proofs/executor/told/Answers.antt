use Rattle.std.proofs.Common.{List, sym, subst}
use Rattle.estelle_model.specs.declared.event.Event.{Event}
use Rattle.situation.specs.Runs.{IsStopped}
use Rattle.situation.proofs.executor.told.Goals as goal

pub returns-in-Ok-clause-stopped : goal.returns-in-Ok-clause-stopped
returns-in-Ok-clause-stopped g c clock first reached =
    let w = c.args.world in
    subst (λ (events : List Event). IsStopped g.H.Chooser.draw first clock w.subject w.limits.budget w.limits.turns events c.finish-history.result.1) (sym c.in-Ok.ensures)
    (c.finish-history.ensures.stopped clock first reached)
