use Rattle.std.proofs.Common.{◌≡◌, ◌<◌, ◌≤◌, ◌+◌, ◌^◌, length, refl, ap, ◌∙◌, rules, arith}
use Rattle.std.specs.Prelude.{slice_get, Some}
use Rattle.std.proofs.lemmas.Option.{slice_get_read}
use Rattle.estelle_model.specs.Choosers.{pick}
use Rattle.situation_state.proofs.At.{on_err}
use Rattle.situation.specs.Worlds.{now, left_in}
use Rattle.situation.proofs.Kept.{unchanged_memory}
use Rattle.situation.proofs.Chosen.{pending_there, chosen_so}
use Rattle.situation.proofs.execution.Execution.choose.Goals as goal

pub returns-in_err-reserve-clause-refused : goal.returns-in_err-reserve-clause-refused
returns-in_err-reserve-clause-refused g c =
    let old = c.args.self.now in
    on_err c.from_residual.result _ (unchanged_memory old (record old { history = c.reserve.new.self }) c.requires.open.is_open c.requires.open.unended c.reserve.ensures.kept refl)

pub returns-clause-chosen : goal.returns-clause-chosen
returns-clause-chosen g c =
    let old = c.args.self.now in
    let o = c.requires.open.is_open in
    let items = old.state.untaken.items in
    let at = c.pick-at.result in
    let r = c.index.result.now in
    let count : c.len.result ≡ length items = omega arith in
    let within : at < length items = omega arith in
    let here : slice_get items at ≡ Some r = slice_get_read items (length items) at r refl within c.index.ensures in
    let drawn : (at, c.pick-at.new.chooser) ≡ pick g.H.Chooser.draw old.chooser (length items) = c.pick-at.ensures.drawn ∙ ap (pick g.H.Chooser.draw old.chooser) count in
    let job_is = c.in_ok-job.ensures.job (now old) (left_in old) r o.at o.going.under_way.legal here (pending_there old o c.requires.below at r here) in
    let in_order = c.in_ok-job.ensures.in_order (now old) (left_in old) o.at o.going.under_way.legal in
    let number : old.tickets + 1 < 2 ^ 64 = first_of (omega arith, search rules) in
    let spare : 1 ≤ c.reserve.new.self.spare = c.in_ok-reserve.ensures.room in
    let room = c.in_ok-reserve-2.ensures.ok in
    chosen_so g.H.Chooser.draw old (record old { history = c.reserve.new.self; flying = c.reserve-2.new.self; chooser = c.pick-at.new.chooser }) o c.requires.below
    (record { at = at; path = c.in_ok-path.path; job = c.in_ok-job.job }) r here c.in_ok-path.ensures job_is in_order drawn number c.reserve.ensures.kept spare c.reserve-2.ensures.items (omega (arith, room)) refl
