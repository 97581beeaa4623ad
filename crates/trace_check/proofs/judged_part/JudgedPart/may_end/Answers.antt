use Rattle.std.proofs.Common.{◌↔◌, sym, subst}
use Rattle.std.specs.Prelude.{IsTrue, IfOk}
use Rattle.estelle_model.specs.declared.event.End.{End}
use Rattle.estelle_model.specs.declared.event.End.TheVariants as end
use Rattle.estelle_model.specs.Ends.{IsDead, Closes}
use Rattle.trace_check.specs.JudgedParts.{IsOpen, IsKept, now}
use Rattle.trace_check.specs.Going.{IsFaulted}
use Rattle.trace_check.proofs.Closing.{closes_dead, dead_closes, closes_faulted, faulted_closes}
use Rattle.trace_check.proofs.Counted.{if_ok}
use Rattle.trace_check.proofs.Deciding.{as_well}
use Rattle.trace_check.proofs.judged_part.JudgedPart.may_end.Goals as goal

pub returns-in-Dead : goal.returns-in-Dead
returns-in-Dead c =
    let r = c.args.self.now in
    let s = r.state.program.now in
    let b = r.state.budget in
    let es = r.events.now in
    let o : IsOpen r = subst (IsKept r) c.in-None.is c.requires.keeps in
    subst (λ (e : End). IfOk c.is_dead.result (λ d. IsTrue d ↔ Closes s b es e)) (sym c.in-Dead.is)
    (if_ok c.is_dead.result (λ d. IsTrue d ↔ IsDead s b (now r)) (λ d. IsTrue d ↔ Closes s b es end.Dead)
    (λ d h. as_well d h (closes_dead s b es r.count c.requires.all o.going) (dead_closes s b es r.count c.requires.all o.going)) c.is_dead.ensures)

pub returns-in-Faulted-end : goal.returns-in-Faulted-end
returns-in-Faulted-end c =
    let r = c.args.self.now in
    let s = r.state.program.now in
    let b = r.state.budget in
    let es = r.events.now in
    let f : IsFaulted s b es r.count c.in-Some.own = subst (IsKept r) c.in-Some.is c.requires.keeps in
    subst (λ (e : End). IsTrue c.same_kind.result ↔ Closes s b es e) (sym c.in-Faulted-end.is)
    (as_well c.same_kind.result c.same_kind.ensures (closes_faulted s b es r.count c.requires.all c.in-Some.own f c.in-Faulted-end.kind) (faulted_closes s b es r.count c.requires.all c.in-Some.own f c.in-Faulted-end.kind))
