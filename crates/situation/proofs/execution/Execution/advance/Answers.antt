use Rattle.std.proofs.Common.{◌≡◌, ◌≤◌, None, sym, subst, rules, tests}
use Rattle.estelle_model.specs.declared.event.End.TheVariants.{Turns}
use Rattle.run_history.specs.Histories.{fires}
use Rattle.situation.specs.declared.limits.Advanced.TheVariants as did
use Rattle.situation.specs.Steps.{HasAdvanced}
use Rattle.situation.proofs.Ended.{turns_step}
use Rattle.situation_state.proofs.At.{on_err}
use Rattle.situation.proofs.MoreRoom.{same_end, with_history, refused_so, goes_on_so, advanced_so}
use Rattle.situation.proofs.Answering.{stepped_more}
use Rattle.situation.proofs.execution.Execution.advance.Goals as goal

pub returns-in_err-reserve-clause-refused : goal.returns-in_err-reserve-clause-refused
returns-in_err-reserve-clause-refused g c = on_err c.from_residual.result _ (refused_so c.args.self.now c.reserve.new.self c.reserve.ensures.kept c.requires.keeps)

pub returns-in-Some-clause-advanced : goal.returns-in-Some-clause-advanced
returns-in-Some-clause-advanced g c = same_end g.H.Chooser.draw (g.C.Clock.moment c.args.clock.now) c.args.self.now c.in-Some.end c.requires.keeps c.in-Some.is

pub returns-then-count_fires-from-clause-advanced : goal.returns-then-count_fires-from-clause-advanced
returns-then-count_fires-from-clause-advanced g c =
    let old = c.args.self.now in
    let h = c.reserve.new.self in
    let m = g.C.Clock.moment c.args.clock.now in
    let none : old.end ≡ None = search (rules, tests) in
    let room : 2 ≤ h.spare = search (rules, tests) in
    let opened = goes_on_so old h 2 c.reserve.ensures.kept room none c.requires.keeps in
    let full : fires h.entries ≡ old.turns = search (rules, tests) in
    advanced_so g.H.Chooser.draw m m old c.ended.new.self h c.ended.result c.reserve.ensures.kept
    (subst (HasAdvanced g.H.Chooser.draw m m (with_history old h) c.ended.new.self) (sym c.ended.ensures.says)
    (subst (λ x. HasAdvanced g.H.Chooser.draw m m (with_history old h) x (did.Ended Turns)) (sym c.ended.ensures.rest)
    (turns_step g.H.Chooser.draw m (with_history old h) c.ended.new.self 2 opened full c.ended.ensures.noted)))

pub returns-clause-advanced : goal.returns-clause-advanced
returns-clause-advanced g c =
    stepped_more g.H.Chooser.draw c.go_on.result (g.C.Clock.moment c.args.clock.now) (g.C.Clock.moment c.go_on.new.clock) c.args.self.now c.go_on.new.self c.reserve.new.self c.reserve.ensures.kept c.go_on.ensures.advanced
