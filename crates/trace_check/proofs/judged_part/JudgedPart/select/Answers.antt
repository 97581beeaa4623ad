use Rattle.std.proofs.Common.{◌≡◌, ◌+◌, List, sym, ap, subst}
use Rattle.std.specs.Prelude.{MatchOption}
use Rattle.estelle_tree.specs.declared.transition.Wanted.{Wanted}
use Rattle.estelle_model.specs.declared.event.Event.TheVariants.{Select}
use Rattle.estelle_model.specs.Runs.{MaySelect}
use Rattle.situation_state.specs.declared.state.State.{State}
use Rattle.trace_check.specs.declared.judged_part.JudgedPart.{JudgedPart}
use Rattle.trace_check.specs.Going.{IsSelectable}
use Rattle.trace_check.specs.JudgedParts.{now, HasGoneOn}
use Rattle.trace_check.proofs.JudgingOn.{wrong, counted, selected_on}
use Rattle.trace_check.proofs.judged_part.JudgedPart.select.Goals as goal

pub returns-in-None : goal.returns-in-None
returns-in-None c =
    let r = c.args.self.now in
    let none = subst (λ x. MatchOption x (MaySelect r.state.program.now r.state.budget (now r) c.args.system.now c.args.moment c.args.takes.now → ⊥) (λ ws. IsSelectable r.state.program.now r.state.budget (now r) c.args.system.now c.args.moment c.args.takes.now ws.items))
    c.in-None.is c.in_ok-selected.ensures in
    wrong r c.requires.open (Select c.args.system.now c.args.moment c.args.takes.now) c.requires.next none

pub count_one-requires : goal.count_one-requires
count_one-requires c = counted c.args.self.now c.requires.open (Select c.args.system.now c.args.moment c.args.takes.now) c.requires.next

pub returns-in_ok-select-in-Some : goal.returns-in_ok-select-in-Some
returns-in_ok-select-in-Some c =
    let r = c.args.self.now in
    let o = c.requires.open in
    let x = c.select.new.self in
    let may = subst (λ x. MatchOption x (MaySelect r.state.program.now r.state.budget (now r) c.args.system.now c.args.moment c.args.takes.now → ⊥) (λ ws. IsSelectable r.state.program.now r.state.budget (now r) c.args.system.now c.args.moment c.args.takes.now ws.items))
    c.in-Some.is c.in_ok-selected.ensures in
    let its = subst (λ (ws : List Wanted). IsSelectable r.state.program.now r.state.budget (now r) c.args.system.now c.args.moment c.args.takes.now ws) (sym c.deref.ensures.value) may in
    let there = c.in_ok-select-in-Some.ensures.at (now r) (now r).pending o.at its.wanted in
    subst (HasGoneOn r) (sym c.count_one.ensures)
    (selected_on r o x c.args.system.now c.args.moment c.args.takes.now c.requires.next its.may (ap (λ (y : State). y.program) c.select.ensures.rest) (ap (λ (y : State). y.budget) c.select.ensures.rest) there)
