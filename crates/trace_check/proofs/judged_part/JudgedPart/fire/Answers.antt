use Rattle.std.proofs.Common.{◌≡◌, ◌<◌, ◌+◌, ◌^◌, length, ℕ, List, ap, sym, subst, ◌∙◌}
use Rattle.estelle_tree.specs.declared.transition.Pair.{Pair}
use Rattle.estelle_tree.specs.Timers.{pair}
use Rattle.estelle_model.specs.declared.event.Event.TheVariants.{Fire}
use Rattle.effect_log.specs.Rooms.{HasRoomFor}
use Rattle.situation_state.specs.declared.state.State.{State}
use Rattle.situation_state.proofs.Ran.{faulted_if, ran_unless}
use Rattle.trace_check.specs.declared.judged_part.JudgedPart.{JudgedPart}
use Rattle.trace_check.specs.JudgedParts.{now, HasGoneOn}
use Rattle.trace_check.proofs.Deciding.{not_so, is_so}
use Rattle.trace_check.proofs.JudgingOn.{wrong, within, counted, place_within, not_fired}
use Rattle.trace_check.proofs.Settling.{not_pending, fire_may_put, fire_refused, fire_made}
use Rattle.trace_check.proofs.judged_part.JudgedPart.fire.Goals as goal

pub returns-in_default : goal.returns-in_default
returns-in_default c = not_pending c.args.self.now c.requires.open c.args.path.now c.args.trans c.args.outs.now c.args.drops.now c.requires.next c.in_default.ensures

pub compute-requires-clause-below : goal.compute-requires-clause-below
compute-requires-clause-below c = within c.args.self.now c.requires.open (Fire c.args.path.now c.args.trans c.args.outs.now c.args.drops.now) c.requires.next

pub compute-requires-clause-there : goal.compute-requires-clause-there
compute-requires-clause-there c = place_within c.args.self.now c.requires.open c.args.path.now c.args.trans c.in-Some.at c.in-Some.ensures

pub returns-then-has_faulted : goal.returns-then-has_faulted
returns-then-has_faulted c =
    let r = c.args.self.now in
    let o = c.requires.open in
    let m = c.args.path.now in
    let n = c.args.trans in
    let place = c.in-Some.ensures in
    let answers = (c.in_ok-done.ensures (pair m n) place.there).0 in
    let f = faulted_if c.in_ok-done.done.outcome c.has_faulted.result c.has_faulted.ensures c.if-has_faulted.true in
    wrong r o (Fire m n c.args.outs.now c.args.drops.now) c.requires.next (not_fired r o m n c.in-Some.at place c.in_ok-done.done answers f.0 f.1 c.args.outs.now c.args.drops.now)

pub take-requires : goal.take-requires
take-requires c =
    let r = c.args.self.now in
    let same : c.reserve.new.self.untaken.items ≡ r.state.untaken.items = ap (λ (x : State). x.untaken.items) c.reserve.ensures.rest in
    subst (λ (ps : List Pair). c.in-Some.at < length ps) (sym same) (place_within r c.requires.open c.args.path.now c.args.trans c.in-Some.at c.in-Some.ensures)

pub put-requires : goal.put-requires
put-requires c =
    let r = c.args.self.now in
    let o = c.requires.open in
    let m = c.args.path.now in
    let n = c.args.trans in
    let place = c.in-Some.ensures in
    let answers = (c.in_ok-done.ensures (pair m n) place.there).0 in
    let ran = ran_unless c.in_ok-done.done.outcome c.has_faulted.result c.has_faulted.ensures c.if-has_faulted.false in
    let t = c.take.new.self in
    let program : t.program ≡ r.state.program = ap (λ (x : State). x.program) c.take.ensures.rest ∙ ap (λ (x : State). x.program) c.reserve.ensures.rest in
    let budget : t.budget ≡ r.state.budget = ap (λ (x : State). x.budget) c.take.ensures.rest ∙ ap (λ (x : State). x.budget) c.reserve.ensures.rest in
    let there = c.take.ensures.at (now r) (now r).pending (c.reserve.ensures.at (now r) (now r).pending o.at) in
    let room = subst (λ (x : State). HasRoomFor c.in_ok-done.done.outcome x.shared x.notes) (sym c.take.ensures.rest) c.in_ok-reserve.ensures.room in
    fire_may_put r o m n c.in-Some.at place c.in_ok-done.done answers ran c.args.outs.now c.args.drops.now c.requires.next t program budget there room

pub returns-then-not-has_noted : goal.returns-then-not-has_noted
returns-then-not-has_noted c =
    let r = c.args.self.now in
    let o = c.requires.open in
    let m = c.args.path.now in
    let n = c.args.trans in
    let place = c.in-Some.ensures in
    let answers = (c.in_ok-done.ensures (pair m n) place.there).0 in
    let ran = ran_unless c.in_ok-done.done.outcome c.has_faulted.result c.has_faulted.ensures c.if-has_faulted.false in
    let t = c.take.new.self in
    let program : t.program ≡ r.state.program = ap (λ (x : State). x.program) c.take.ensures.rest ∙ ap (λ (x : State). x.program) c.reserve.ensures.rest in
    let budget : t.budget ≡ r.state.budget = ap (λ (x : State). x.budget) c.take.ensures.rest ∙ ap (λ (x : State). x.budget) c.reserve.ensures.rest in
    let there = c.take.ensures.at (now r) (now r).pending (c.reserve.ensures.at (now r) (now r).pending o.at) in
    let room = subst (λ (x : State). HasRoomFor c.in_ok-done.done.outcome x.shared x.notes) (sym c.take.ensures.rest) c.in_ok-reserve.ensures.room in
    fire_refused r o m n c.in-Some.at place c.in_ok-done.done answers ran c.args.outs.now c.args.drops.now c.requires.next t program budget there room c.put.new.self.state c.put.ensures.put
    (not_so c.has_noted.result c.has_noted.ensures c.if-not-has_noted.true)

pub count_one-requires : goal.count_one-requires
count_one-requires c =
    let r = c.args.self.now in
    let same : c.put.new.self.count ≡ r.count = ap (λ (x : JudgedPart). x.count) c.put.ensures.rest in
    subst (λ (k : ℕ). k + 1 < 2 ^ 31) (sym same) (counted r c.requires.open (Fire c.args.path.now c.args.trans c.args.outs.now c.args.drops.now) c.requires.next)

pub returns : goal.returns
returns c =
    let r = c.args.self.now in
    let o = c.requires.open in
    let m = c.args.path.now in
    let n = c.args.trans in
    let place = c.in-Some.ensures in
    let answers = (c.in_ok-done.ensures (pair m n) place.there).0 in
    let ran = ran_unless c.in_ok-done.done.outcome c.has_faulted.result c.has_faulted.ensures c.if-has_faulted.false in
    let t = c.take.new.self in
    let program : t.program ≡ r.state.program = ap (λ (x : State). x.program) c.take.ensures.rest ∙ ap (λ (x : State). x.program) c.reserve.ensures.rest in
    let budget : t.budget ≡ r.state.budget = ap (λ (x : State). x.budget) c.take.ensures.rest ∙ ap (λ (x : State). x.budget) c.reserve.ensures.rest in
    let there = c.take.ensures.at (now r) (now r).pending (c.reserve.ensures.at (now r) (now r).pending o.at) in
    let room = subst (λ (x : State). HasRoomFor c.in_ok-done.done.outcome x.shared x.notes) (sym c.take.ensures.rest) c.in_ok-reserve.ensures.room in
    let y = c.forget_told.new.self in
    let made = fire_made r o m n c.in-Some.at place c.in_ok-done.done answers ran c.args.outs.now c.args.drops.now c.requires.next t program budget there room c.put.new.self.state c.put.ensures.put
    (is_so c.has_noted.result c.has_noted.ensures c.if-not-has_noted.false) y c.forget_told.ensures.empty c.forget_told.ensures.rest in
    let all : c.count_one.new.self ≡ record r { state = y; count = r.count + 1 } = c.count_one.ensures ∙ ap (λ (x : JudgedPart). record x { state = y; count = x.count + 1 }) c.put.ensures.rest in
    subst (HasGoneOn r) (sym all) made
