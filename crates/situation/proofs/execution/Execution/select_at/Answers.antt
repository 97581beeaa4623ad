use Rattle.std.proofs.Common.{◌≡◌, sym, subst, ◌∙◌, refl}
use Rattle.std.proofs.lemmas.Option.{get_or_from_slice_get}
use Rattle.std.proofs.lemmas.Result.{IfOk-weaker, on_err_weaker}
use Rattle.estelle_model.specs.declared.event.End.TheVariants.{Clock, Faulted}
use Rattle.estelle_model.specs.Attributes.{IsSystem}
use Rattle.delay_timers.specs.Moments.{AreDifferent}
use Rattle.situation_offers.specs.declared.selection.SelectFault.{SelectFault}
use Rattle.situation_offers.specs.Selections.{IsSelection, IsRefusal, LeavesChooser}
use Rattle.situation_steps.specs.declared.systems.System.{System}
use Rattle.situation.specs.declared.limits.Advanced.TheVariants as did
use Rattle.situation.specs.Worlds.{now, left_in}
use Rattle.situation.specs.Steps.{HasAdvanced}
use Rattle.situation.proofs.Listed.{system_here}
use Rattle.situation.proofs.Kept.{unchanged}
use Rattle.situation.proofs.Selected.{unchanged_before}
use Rattle.situation.proofs.execution.Execution.select_at.Goals as goal

pub put_selected-requires-clause-different : goal.put_selected-requires-clause-different
put_selected-requires-clause-different g c =
    let old = c.args.self.now in
    let o = c.requires.open.is_open in
    let x = c.requires.due.first.0 in
    let there = c.requires.due.first.1.there in
    let is : c.index.result.now ≡ x = c.index.ensures ∙ get_or_from_slice_get old.systems.items c.args.at x _ there in
    let system = subst (λ (y : System). IsSystem old.state.program.now (now old) y.path) (sym is) (system_here old.state.program.now (now old) old.systems.items o.going.under_way.all c.args.at x there) in
    subst AreDifferent (sym c.deref.ensures.value) (c.in-Ok.ensures.selected (now old) (left_in old) o.at o.going.under_way.legal system).different

pub returns-in-Ok-clause-stepped : goal.returns-in-Ok-clause-stepped
returns-in-Ok-clause-stepped g c =
    let old = c.args.self.now in
    let o = c.requires.open.is_open in
    let s = old.state.program.now in
    let b = old.state.budget in
    let draw = g.H.Chooser.draw in
    let after = c.choose.new.chooser in
    IfOk-weaker c.put_selected.result _ _
    (λ done h moment may. h old.chooser moment (record { no_earlier = may.no_earlier; last = may.last; undelayed = may.undelayed; told = may.told })
    (λ x there.
    let is : c.index.result.now ≡ x = c.index.ensures ∙ get_or_from_slice_get old.systems.items c.args.at x _ there in
    let system = subst (λ (y : System). IsSystem s (now old) y.path) (sym is) (system_here s (now old) old.systems.items o.going.under_way.all c.args.at x there) in
    let it = c.in-Ok.ensures.selected (now old) (left_in old) o.at o.going.under_way.legal system in
    subst (λ ws. IsSelection draw s b (now old) x.path c.args.now old.chooser after c.in-Ok.field-0.takes.items ws) (sym c.deref.ensures.value)
    (subst (λ (y : System). IsSelection draw s b (now old) y.path c.args.now old.chooser after c.in-Ok.field-0.takes.items c.in-Ok.field-0.wanted.items) is it)))
    c.put_selected.ensures.stepped

pub returns-in-Ok-clause-refused : goal.returns-in-Ok-clause-refused
returns-in-Ok-clause-refused g c =
    on_err_weaker c.put_selected.result (unchanged_before c.args.self.now c.choose.new.chooser c.put_selected.new.self) c.put_selected.ensures.refused

pub fault-requires-clause-first : goal.fault-requires-clause-first
fault-requires-clause-first g c x there =
    let old = c.args.self.now in
    let o = c.requires.open.is_open in
    let s = old.state.program.now in
    let b = old.state.budget in
    let is : c.index.result.now ≡ x = c.index.ensures ∙ get_or_from_slice_get old.systems.items c.args.at x _ there in
    let system = subst (λ (y : System). IsSystem s (now old) y.path) (sym is) (system_here s (now old) old.systems.items o.going.under_way.all c.args.at x there) in
    let first = c.in-Err-Guard.ensures.faults (now old) (left_in old) o.at o.going.under_way.legal system in
    rw c.in-Err-Guard.field-0-is (subst (λ (e : SelectFault). IsRefusal s b (now old) x.path e) c.in-Err-Guard.field-0-is
    (subst (λ (y : System). IsRefusal s b (now old) y.path c.in-Err-Guard.field-0) is first))

pub returns-in-Err-Guard-clause-stepped : goal.returns-in-Err-Guard-clause-stepped
returns-in-Err-Guard-clause-stepped g c moment may =
    let old = c.args.self.now in
    let same = subst (λ (e : SelectFault). LeavesChooser old.chooser c.choose.new.chooser e) c.in-Err-Guard.field-0-is c.in-Err-Guard.ensures.leaves in
    subst (λ h. HasAdvanced g.H.Chooser.draw moment moment (record old { chooser = h }) c.fault.new.self c.fault.result) same (c.fault.ensures.stepped moment)

pub returns-in-Err-Guard-clause-unclocked : goal.returns-in-Err-Guard-clause-unclocked
returns-in-Err-Guard-clause-unclocked g c is =
    let wrong : did.Ended (Faulted _) ≡ did.Ended Clock = sym c.fault.ensures.says ∙ is in
    absurd (cc)

pub returns-in-Err-Memory-clause-refused : goal.returns-in-Err-Memory-clause-refused
returns-in-Err-Memory-clause-refused g c =
    let old = c.args.self.now in
    unchanged old c.choose.new.chooser old.state 2 c.requires.open refl refl c.requires.open.is_open.at
