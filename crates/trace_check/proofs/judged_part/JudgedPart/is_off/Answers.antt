use Rattle.std.proofs.Common.{rules, ◌≡◌, [], sym, subst, ◌∙◌}
use Rattle.estelle_model.specs.Delays.{renew}
use Rattle.transition_select.specs.Countings.{AreCountings}
use Rattle.situation_offers.specs.Asked.{IsOffering}
use Rattle.trace_check.specs.JudgedParts.{now}
use Rattle.trace_check.proofs.Counted.{vec_empty, none_of_all, all_of_none}
use Rattle.trace_check.proofs.Deciding.{never, as_well}
use Rattle.trace_check.proofs.Off.{all_off, none_wanted, none_counted}
use Rattle.trace_check.proofs.judged_part.JudgedPart.is_off.Goals as goal

pub returns-then-not-is_empty : goal.returns-then-not-is_empty
returns-then-not-is_empty c =
    let r = c.args.self.now in
    let o = c.requires.open in
    let g = now r in
    let k = subst (λ a. IsOffering r.state.program.now r.state.budget g c.args.system.now r.state.moment a) c.in-Counts.is (c.in_ok-offering.ensures g g.pending o.at o.going.legal c.requires.is_system) in
    let some : c.in-Counts.wanted.items ≡ [] → ⊥ = search rules in
    never (λ off. some (k.2 ∙ none_wanted r.state.program.now r.state.budget g c.args.system.now r.state.moment off))

pub returns : goal.returns
returns c =
    let r = c.args.self.now in
    let o = c.requires.open in
    let s = r.state.program.now in
    let b = r.state.budget in
    let g = now r in
    let m = c.args.system.now in
    let k = subst (λ a. IsOffering s b g m r.state.moment a) c.in-Counts.is (c.in_ok-offering.ensures g g.pending o.at o.going.legal c.requires.is_system) in
    let v = c.in-Counts.wanted in
    let none : v.items ≡ [] = vec_empty v.items v.len c.is_empty.result c.is_empty.ensures c.if-not-is_empty.false v.ok.0 in
    let counts : AreCountings s b (renew s b g m r.state.moment) m c.deref.result.now = subst (AreCountings s b (renew s b g m r.state.moment) m) (sym c.deref.ensures.value) k.0 in
    as_well c.none_counted.result c.none_counted.ensures
    (λ all. all_off s b g m r.state.moment k.1 (none_of_all s b g m r.state.moment c.deref.result.now counts all) (sym k.2 ∙ none))
    (λ off. all_of_none s b g m r.state.moment c.deref.result.now counts (none_counted s b g m r.state.moment off))
