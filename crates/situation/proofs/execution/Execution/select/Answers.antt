use Rattle.std.proofs.Common.{◌≡◌, true, sym, subst, inl, rules}
use Rattle.outside.specs.Counts.{Rose}
use Rattle.estelle_model.specs.declared.event.End.TheVariants.{Clock}
use Rattle.situation.specs.declared.limits.Advanced.TheVariants as did
use Rattle.situation.specs.Steps.{HasAdvanced, MayBeNow}
use Rattle.situation_state.proofs.At.{on_err}
use Rattle.situation.proofs.Ended.{clock_step}
use Rattle.situation.proofs.Answering.{stepped_at, no_cause}
use Rattle.situation.proofs.execution.Execution.select.Goals as goal

pub returns-in-Ok-clause-stepped : goal.returns-in-Ok-clause-stepped
returns-in-Ok-clause-stepped g c =
    let old = c.args.self.now in
    let told = g.C.Clock.moment c.args.clock.now in
    let may : MayBeNow told c.in-Ok.now old = search rules in
    stepped_at g.H.Chooser.draw c.select_at.result told (g.C.Clock.moment c.moment.new.clock) old c.select_at.new.self c.in-Ok.now c.moment.ensures.told may c.select_at.ensures.stepped

pub returns-in-Ok-clause-told : goal.returns-in-Ok-clause-told
returns-in-Ok-clause-told g c = on_err c.select_at.result _ c.moment.ensures.told

pub returns-in-Ok-clause-cause : goal.returns-in-Ok-clause-cause
returns-in-Ok-clause-cause g c = no_cause c.select_at.result c.args.self.now.end (g.C.Clock.faults c.args.clock.now) (g.C.Clock.faults c.moment.new.clock) c.select_at.ensures.unclocked

pub returns-in-Err-clause-stepped : goal.returns-in-Err-clause-stepped
returns-in-Err-clause-stepped g c =
    let old = c.args.self.now in
    let told = g.C.Clock.moment c.args.clock.now in
    let after = g.C.Clock.moment c.moment.new.clock in
    let asked : old.delays ≡ true = search rules in
    subst (λ m. HasAdvanced g.H.Chooser.draw told m old c.ended.new.self c.ended.result) (sym c.moment.ensures.told)
    (subst (HasAdvanced g.H.Chooser.draw told told old c.ended.new.self) (sym c.ended.ensures.says)
    (subst (λ x. HasAdvanced g.H.Chooser.draw told told old x (did.Ended Clock)) (sym c.ended.ensures.rest)
    (clock_step g.H.Chooser.draw told old c.ended.new.self c.args.at 2 c.requires.open c.requires.due asked c.ended.ensures.noted)))

pub returns-in-Err-clause-cause : goal.returns-in-Err-clause-cause
returns-in-Err-clause-cause g c said =
    let rose : Rose (g.C.Clock.faults c.args.clock.now) (g.C.Clock.faults c.moment.new.clock) = search rules in
    inl rose
