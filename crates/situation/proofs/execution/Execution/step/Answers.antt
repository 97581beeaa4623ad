use Rattle.std.proofs.Common.{subst}
use Rattle.situation.specs.declared.limits.Stepped.TheVariants as did
use Rattle.situation.specs.Steps.{HasAdvanced}
use Rattle.situation.proofs.MoreRoom.{ready_then, stepped_still, unchanged_still}
use Rattle.situation.proofs.Fired.{stepped_settles, no_cause}
use Rattle.situation.proofs.execution.Execution.step.Goals as goal

pub fire-requires-clause-open : goal.fire-requires-clause-open
fire-requires-clause-open g c =
    let h = subst (HasAdvanced g.H.Chooser.draw (g.C.Clock.moment c.args.clock.now) (g.C.Clock.moment c.advance.new.clock) c.args.self.now c.advance.new.self) c.in-Ready.is c.in_ok-advance.ensures.advanced in
    (ready_then c.args.self.now c.advance.new.self c.requires.keeps h.0 h.1 h.2).0

pub fire-requires-clause-ready : goal.fire-requires-clause-ready
fire-requires-clause-ready g c =
    let h = subst (HasAdvanced g.H.Chooser.draw (g.C.Clock.moment c.args.clock.now) (g.C.Clock.moment c.advance.new.clock) c.args.self.now c.advance.new.self) c.in-Ready.is c.in_ok-advance.ensures.advanced in
    (ready_then c.args.self.now c.advance.new.self c.requires.keeps h.0 h.1 h.2).1

pub returns-in-Ready-clause-stepped : goal.returns-in-Ready-clause-stepped
returns-in-Ready-clause-stepped g c =
    let h = subst (HasAdvanced g.H.Chooser.draw (g.C.Clock.moment c.args.clock.now) (g.C.Clock.moment c.advance.new.clock) c.args.self.now c.advance.new.self) c.in-Ready.is c.in_ok-advance.ensures.advanced in
    stepped_still g.H.Chooser.draw (g.C.Clock.moment c.args.clock.now) (g.C.Clock.moment c.advance.new.clock) c.fire.result c.args.self.now c.advance.new.self c.fire.new.self h.0 h.3 c.fire.ensures.stepped

pub returns-in-Ready-clause-refused : goal.returns-in-Ready-clause-refused
returns-in-Ready-clause-refused g c =
    let h = subst (HasAdvanced g.H.Chooser.draw (g.C.Clock.moment c.args.clock.now) (g.C.Clock.moment c.advance.new.clock) c.args.self.now c.advance.new.self) c.in-Ready.is c.in_ok-advance.ensures.advanced in
    unchanged_still c.fire.result c.args.self.now c.advance.new.self c.fire.new.self h.0 c.fire.ensures.refused

pub returns-in-Ready-clause-cause : goal.returns-in-Ready-clause-cause
returns-in-Ready-clause-cause g c = no_cause c.fire.result c.args.self.now.end (g.C.Clock.faults c.args.clock.now) (g.C.Clock.faults c.advance.new.clock) c.fire.ensures.unclocked

pub returns-in-Ended-clause-settled : goal.returns-in-Ended-clause-settled
returns-in-Ended-clause-settled g c =
    let draw = g.H.Chooser.draw in
    let told = g.C.Clock.moment c.args.clock.now in
    let after = g.C.Clock.moment c.advance.new.clock in
    let h = subst (HasAdvanced draw told after c.args.self.now c.advance.new.self) c.in-Ended.is c.in_ok-advance.ensures.advanced in
    stepped_settles draw told after c.args.self.now c.advance.new.self (did.Ended c.in-Ended.end) (λ is. cc) (λ is. cc) c.requires.none h
