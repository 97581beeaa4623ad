use Rattle.std.proofs.Common.{sym, subst, ◌∙◌}
use Rattle.estelle_model.specs.Attributes.{IsSystem}
use Rattle.estelle_model.specs.Runs.{IsFirstFault, IsIdle}
use Rattle.situation_offers.specs.Asked.{IsOffering}
use Rattle.trace_check.specs.JudgedParts.{now}
use Rattle.trace_check.proofs.Deciding.{is_so, as_well, idle_of, this_fault, none_faults, never}
use Rattle.trace_check.proofs.Offered.{DoesCount, counts_none}
use Rattle.trace_check.proofs.Faulting.{one_first}
use Rattle.trace_check.proofs.judged_part.JudgedPart.is_fault_of.Goals as goal

pub returns-in-Counts : goal.returns-in-Counts
returns-in-Counts c =
    let r = c.args.self.now in
    let o = c.requires in
    let s = r.state.program.now in
    let b = r.state.budget in
    let g = now r in
    let m = c.args.system.now in
    let systems : IsSystem s g m = sym (c.is_system.ensures g o.at.stands o.going.legal) ∙ c.if-not-is_system.false in
    never (none_faults s b g m c.args.path.now c.args.trans c.args.kind (counts_none s b g m r.state.moment _ (subst DoesCount (sym c.in-Counts.is) tt) (c.in_ok-offering.ensures g g.pending o.at o.going.legal systems)))

pub returns : goal.returns
returns c =
    let r = c.args.self.now in
    let o = c.requires in
    let s = r.state.program.now in
    let b = r.state.budget in
    let g = now r in
    let m = c.args.system.now in
    let systems : IsSystem s g m = sym (c.is_system.ensures g o.at.stands o.going.legal) ∙ c.if-not-is_system.false in
    let idle : IsIdle g m = idle_of s b g m r.state.untaken.items o.at.left (is_so c.is_idle.result c.is_idle.ensures c.if-not-is_idle.false) in
    let f : IsFirstFault s b g m c.in-Faults.own c.in-Faults.number c.in-Faults.fault = subst (λ a. IsOffering s b g m r.state.moment a) c.in-Faults.is (c.in_ok-offering.ensures g g.pending o.at o.going.legal systems) in
    as_well c.same_fault.result c.same_fault.ensures
    (λ same. this_fault s b g m c.args.path.now c.in-Faults.own c.args.trans c.in-Faults.number c.args.kind c.in-Faults.fault systems idle f same.0 same.1 same.2)
    (λ own. let x = one_first s b g m c.in-Faults.own c.args.path.now c.in-Faults.number c.args.trans c.in-Faults.fault c.args.kind f own.first in (x.path, x.trans, x.kind))
