use Rattle.std.proofs.Common.{◌≡◌, ◌≤◌, max, Some, true, false, sym, subst, ◌∙◌, rules}
use Rattle.std.specs.Prelude.{IfSome}
use Rattle.estelle_model.specs.declared.event.End.TheVariants.{Clock}
use Rattle.situation.specs.declared.limits.Advanced.TheVariants as did
use Rattle.situation.specs.Steps.{HasAdvanced}
use Rattle.situation.proofs.Ended.{wait_fails}
use Rattle.situation.proofs.Waited.{waited_step, waits_delayed}
use Rattle.situation.proofs.execution.Execution.wait.Goals as goal

pub returns-in-Ok-clause-stepped : goal.returns-in-Ok-clause-stepped
returns-in-Ok-clause-stepped g c =
    let old = c.args.self.now in
    let told = g.C.Clock.moment c.args.clock.now in
    let after = g.C.Clock.moment c.wait.new.self in
    let moment = c.in-Ok.now in
    let until : max c.args.due old.time.known ≤ moment = search rules in
    let is : IfSome told (λ m. moment ≡ max m (max c.args.due old.time.known)) = search rules in
    let moved : IfSome told (λ m. after ≡ Some moment) = search rules in
    subst (λ x. HasAdvanced g.H.Chooser.draw told after old x did.Waited) (sym c.put_wait.ensures.rest)
    (waited_step g.H.Chooser.draw told after old c.put_wait.new.self c.args.due moment c.requires.open c.requires.may until is moved c.put_wait.ensures.systems)

pub returns-in-Ok-clause-unasked : goal.returns-in-Ok-clause-unasked
returns-in-Ok-clause-unasked g c undelayed =
    let delayed = waits_delayed c.args.self.now c.args.due c.requires.open.is_open c.requires.may in
    let wrong : false ≡ true = sym undelayed ∙ delayed in
    absurd (cc)

pub returns-in-Err-clause-stepped : goal.returns-in-Err-clause-stepped
returns-in-Err-clause-stepped g c =
    let old = c.args.self.now in
    let told = g.C.Clock.moment c.args.clock.now in
    let after = g.C.Clock.moment c.wait.new.self in
    let same : after ≡ told = search rules in
    subst (λ m. HasAdvanced g.H.Chooser.draw told m old c.ended.new.self c.ended.result) (sym same)
    (subst (HasAdvanced g.H.Chooser.draw told told old c.ended.new.self) (sym c.ended.ensures.says)
    (subst (λ x. HasAdvanced g.H.Chooser.draw told told old x (did.Ended Clock)) (sym c.ended.ensures.rest)
    (wait_fails g.H.Chooser.draw told old c.ended.new.self c.args.due 2 c.requires.open c.requires.may c.ended.ensures.noted)))

pub returns-in-Err-clause-unasked : goal.returns-in-Err-clause-unasked
returns-in-Err-clause-unasked g c undelayed =
    let delayed = waits_delayed c.args.self.now c.args.due c.requires.open.is_open c.requires.may in
    let wrong : false ≡ true = sym undelayed ∙ delayed in
    absurd (cc)
