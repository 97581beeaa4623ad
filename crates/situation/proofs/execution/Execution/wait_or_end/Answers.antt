use Rattle.std.proofs.Common.{◌≡◌, None, sym, subst, rules}
use Rattle.estelle_tree.specs.Timers.{next_due}
use Rattle.estelle_model.specs.declared.event.End.TheVariants.{Dead}
use Rattle.situation.specs.declared.limits.Advanced.TheVariants as did
use Rattle.situation.specs.Steps.{HasAdvanced}
use Rattle.situation.proofs.Ended.{dead_step}
use Rattle.situation.proofs.execution.Execution.wait_or_end.Goals as goal

pub returns-in-None-clause-stepped : goal.returns-in-None-clause-stepped
returns-in-None-clause-stepped g c =
    let old = c.args.self.now in
    let m = g.C.Clock.moment c.args.clock.now in
    let none : next_due old.state.timers ≡ None = search rules in
    subst (HasAdvanced g.H.Chooser.draw m m old c.ended.new.self) (sym c.ended.ensures.says)
    (subst (λ x. HasAdvanced g.H.Chooser.draw m m old x (did.Ended Dead)) (sym c.ended.ensures.rest) (dead_step g.H.Chooser.draw m old c.ended.new.self 2 c.requires.open c.requires.idle none c.ended.ensures.noted))
