use Rattle.std.proofs.Common.{◌≡◌, ◌++◌, refl, ◌∙◌, rules}
use Rattle.estelle_tree.specs.Timers.{renewed}
use Rattle.situation_state.proofs.At.{on_err, at_before, at_selected}
use Rattle.situation_state.proofs.state.State.select.Goals as goal

pub returns-in_err-copies-clause-refused : goal.returns-in_err-copies-clause-refused
returns-in_err-copies-clause-refused c = on_err c.from_residual.result _ (λ g ps h. h)

pub returns-in_err-reserve-clause-refused : goal.returns-in_err-reserve-clause-refused
returns-in_err-reserve-clause-refused c =
    let old = c.args.self.now in
    on_err c.from_residual-in_err-reserve.result _ (λ g ps h. at_before g ps old (record old { untaken = c.reserve.new.self }) refl c.reserve.ensures.items refl h)

pub returns-in_err-renew-clause-refused : goal.returns-in_err-renew-clause-refused
returns-in_err-renew-clause-refused c =
    let old = c.args.self.now in
    let same : c.renew.new.self ≡ old.timers = search rules in
    on_err c.from_residual-in_err-renew.result _ (λ g ps h. at_before g ps old (record old { untaken = c.reserve.new.self; timers = c.renew.new.self }) same c.reserve.ensures.items refl h)

pub returns-clause-at : goal.returns-clause-at
returns-clause-at c g ps at wants =
    let old = c.args.self.now in
    let timers : c.renew.new.self ≡ renewed c.args.system.now c.args.moment c.args.wanted.now old.timers = search rules in
    let untaken : c.append.new.pending.items ≡ old.untaken.items ++ c.args.takes.now = c.append.ensures ∙ (λ i. c.reserve.ensures.items i ++ c.in_ok-copies.ensures i) in
    at_selected g ps old (record old { timers = c.renew.new.self; untaken = c.append.new.pending; moment = c.args.moment }) c.args.system.now c.args.moment c.args.takes.now c.args.wanted.now at wants timers untaken refl
