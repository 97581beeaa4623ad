use Rattle.std.proofs.Common.{◌≡◌, ℕ, ◌++◌, ◌∷◌, [], List, length, refl, sym, ap, subst, ◌∙◌, rules}
use Rattle.std.proofs.lemmas.Option.{get_or_from_slice_get}
use Rattle.estelle_tree.specs.declared.transition.Pair.{Pair}
use Rattle.estelle_tree.specs.Paths.{Path}
use Rattle.estelle_model.specs.declared.event.Event.TheVariants as events
use Rattle.estelle_model.specs.Delays.{wanted}
use Rattle.estelle_model.specs.Runs.{selected as selected_to}
use Rattle.situation_state.specs.declared.state.State.{State}
use Rattle.situation_state.specs.At.{IsAt}
use Rattle.situation_steps.specs.declared.systems.System.{System}
use Rattle.situation_steps.specs.Systems.{after_selection}
use Rattle.situation.specs.declared.execution.Execution.{Execution}
use Rattle.situation.specs.declared.limits.Advanced.TheVariants as did
use Rattle.situation.specs.Runs.{noted}
use Rattle.situation.specs.Worlds.{now, left_in}
use Rattle.situation.specs.Steps.{HasAdvanced}
use Rattle.situation.proofs.Selected.{selected_by}
use Rattle.situation.proofs.Kept.{unchanged}
use Rattle.situation_state.proofs.At.{on_err}
use Rattle.situation.proofs.execution.Execution.put_selected.Goals as goal

pub returns-in_err-system-clause-refused : goal.returns-in_err-system-clause-refused
returns-in_err-system-clause-refused g c =
    let old = c.args.self.now in
    on_err c.from_residual.result _ (unchanged old old.chooser old.state 2 c.requires.open refl refl c.requires.open.is_open.at)

pub returns-in_err-select-clause-refused : goal.returns-in_err-select-clause-refused
returns-in_err-select-clause-refused g c =
    let old = c.args.self.now in
    on_err c.from_residual-in_err-select.result _
    (unchanged old old.chooser c.select.new.self 2 c.requires.open (ap (λ (x : State). x.program) c.select.ensures.rest) (ap (λ (x : State). x.budget) c.select.ensures.rest)
    (c.in_err-select.ensures.refused (now old) (left_in old) c.requires.open.is_open.at))

pub returns-clause-stepped : goal.returns-clause-stepped
returns-clause-stepped g c first moment may chosen =
    let old = c.args.self.now in
    let due = c.requires.due in
    let x = due.first.0 in
    let takes = c.args.takes.items in
    let p = c.note_selected.new.self in
    let n = c.note_selection.new.self in
    let y = c.select.new.self in
    let s = old.state.program.now in
    let b = old.state.budget in
    let it = chosen x due.first.1.there in
    let m : Execution g.row.H.Denot = record old { systems = p.systems; history = n.history } in
    let path_is : c.in_ok-system.system ≡ x.path = c.in_ok-system.ensures ∙ ap (λ (y : System). y.path) (c.index.ensures ∙ get_or_from_slice_get old.systems.items c.args.at x _ due.first.1.there) in
    let wants_are : c.args.wanted.now ≡ wanted s b (now old) c.in_ok-system.system = it.wanted ∙ ap (wanted s b (now old)) (sym path_is) in
    let there_in = c.in_ok-select.ensures.at (now old) (left_in old) c.requires.open.is_open.at wants_are in
    let there : IsAt (selected_to s b (now old) x.path c.args.now takes) (left_in old ++ takes) y =
    subst (λ (q : Path). IsAt (selected_to s b (now old) q c.args.now takes) (left_in old ++ takes) y) path_is
    (subst (λ (ts : List Pair). IsAt (selected_to s b (now old) c.in_ok-system.system c.args.now ts) (left_in old ++ ts) y) c.deref.ensures.value there_in) in
    let program = ap (λ (x : State). x.program) c.select.ensures.rest in
    let budget = ap (λ (x : State). x.budget) c.select.ensures.rest in
    let count : c.len.result ≡ length takes = search rules in
    let systems_are : p.systems.items ≡ after_selection c.args.at x (length takes) old.systems.items = c.note_selected.ensures.systems x due.first.1.there ∙ ap (λ (k : ℕ). after_selection c.args.at x k old.systems.items) count in
    let history_is : p.history.entries ≡ old.history.entries = ap (λ (y : Execution g.row.H.Denot). y.history.entries) c.note_selected.ensures.rest in
    let writer_is : p.writer ≡ old.writer = ap (λ (y : Execution g.row.H.Denot). y.writer) c.note_selected.ensures.rest in
    let takes_are : c.from_vec.result ≡ takes = search rules in
    let entries_are : n.history.entries ≡ old.history.entries ++ noted old.writer (events.Select x.path c.args.now takes) ∷ [] =
    c.note_selection.ensures.noted ∙ (λ i. history_is i ++ noted (writer_is i) (events.Select (path_is i) c.args.now (takes_are i)) ∷ []) in
    let all = c.note_selection.ensures.rest ∙ ap (λ (y : Execution g.row.H.Denot). record y { history = n.history }) c.note_selected.ensures.rest in
    subst (λ (y : Execution g.row.H.Denot). HasAdvanced g.H.Chooser.draw moment moment (record old { chooser = first }) y did.Selected) (sym all)
    (selected_by g.H.Chooser.draw moment first old m refl c.args.at c.args.now takes c.args.wanted.now c.requires.open due may it y program budget there systems_are entries_are)
