use Rattle.std.proofs.Common.{rules, ◌≤◌, ◌<◌, ◌^◌, sym, subst, ◌∙◌, arith}
use Rattle.estelle_model.specs.Attributes.{IsSystem}
use Rattle.estelle_model.specs.Delays.{renew}
use Rattle.estelle_model.specs.Runs.{IsIdle}
use Rattle.transition_select.specs.Countings.{AreCountings}
use Rattle.situation_offers.specs.Asked.{IsOffering}
use Rattle.trace_check.specs.JudgedParts.{now}
use Rattle.trace_check.proofs.Deciding.{is_so, not_so, idle_of, selectable, tree_then, in_order_then}
use Rattle.trace_check.proofs.Offered.{faults_not}
use Rattle.trace_check.proofs.judged_part.JudgedPart.selectable.Goals as goal

pub returns-in-Faults : goal.returns-in-Faults
returns-in-Faults c may =
    let r = c.args.self.now in
    let o = c.requires in
    let s = r.state.program.now in
    let b = r.state.budget in
    let g = now r in
    let m = c.args.system.now in
    let systems : IsSystem s g m = sym (c.is_system.ensures g o.at.stands o.going.legal) ∙ c.if-not-is_system.false in
    faults_not s b g m c.args.moment _ _ _ _ c.in-Faults.is (c.in_ok-offering.ensures g g.pending o.at o.going.legal systems) may.sound

pub returns-then-may_select : goal.returns-then-may_select
returns-then-may_select c =
    let r = c.args.self.now in
    let o = c.requires in
    let s = r.state.program.now in
    let b = r.state.budget in
    let g = now r in
    let m = c.args.system.now in
    let moment = c.args.moment in
    let later : r.state.moment ≤ moment = omega arith in
    let within : moment < 2 ^ 64 = search rules in
    let systems : IsSystem s g m = sym (c.is_system.ensures g o.at.stands o.going.legal) ∙ c.if-not-is_system.false in
    let idle : IsIdle g m = idle_of s b g m r.state.untaken.items o.at.left (is_so c.is_idle.result c.is_idle.ensures c.if-not-is_idle.false) in
    let k = subst (λ a. IsOffering s b g m moment a) c.in-Counts.is (c.in_ok-offering.ensures g g.pending o.at o.going.legal systems) in
    let counts : AreCountings s b (renew s b g m moment) m c.deref.result.now = subst (AreCountings s b (renew s b g m moment) m) (sym c.deref.ensures.value) k.0 in
    let selects = is_so c.may_select.result (c.may_select.ensures s b (renew s b g m moment) m (tree_then s b g m moment c.args.takes.now o.going.legal) (in_order_then s b g m moment c.args.takes.now o.going.legal) counts) c.if-may_select.true in
    selectable s b g m moment c.args.takes.now r.state.moment o.at.moment later within systems idle k.1 selects c.in-Counts.wanted.items k.2 k.3

pub returns : goal.returns
returns c may =
    let r = c.args.self.now in
    let o = c.requires in
    let s = r.state.program.now in
    let b = r.state.budget in
    let g = now r in
    let m = c.args.system.now in
    let moment = c.args.moment in
    let systems : IsSystem s g m = sym (c.is_system.ensures g o.at.stands o.going.legal) ∙ c.if-not-is_system.false in
    let k = subst (λ a. IsOffering s b g m moment a) c.in-Counts.is (c.in_ok-offering.ensures g g.pending o.at o.going.legal systems) in
    let counts : AreCountings s b (renew s b g m moment) m c.deref.result.now = subst (AreCountings s b (renew s b g m moment) m) (sym c.deref.ensures.value) k.0 in
    not_so c.may_select.result (c.may_select.ensures s b (renew s b g m moment) m (tree_then s b g m moment c.args.takes.now o.going.legal) (in_order_then s b g m moment c.args.takes.now o.going.legal) counts) c.if-may_select.false may.selects
