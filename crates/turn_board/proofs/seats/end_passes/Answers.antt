use Rattle.std.proofs.Common.{◌∙◌, ◌∷◌, Some, ap, rules}
use Rattle.std.proofs.lemmas.List.Elements.{All-pop}
use Rattle.turn_board.specs.Steps.{ended}
use Rattle.turn_board.specs.Seats.{IsIdleAt}
use Rattle.turn_board.specs.Passes.{own}
use Rattle.turn_board.proofs.BoardSteps.{joins_as}
use Rattle.turn_board.proofs.Ready.{idle_is}
use Rattle.turn_board.proofs.Several.{gone}
use Rattle.turn_board.proofs.seats.end_passes.Goals as goal

pub join_seat-requires : goal.join_seat-requires
join_seat-requires g c = let inv = c.loop-pass.invariant in let p = c.in-Some.pass in
    let here = (All-pop (IsIdleAt c.args.top.now.table_id) _ c.pop.new.self.items (Some p) c.in-Some.ensures.items inv.2).1 in
    let is = idle_is p.number p.seat.me p.member p.ready here.1 in
    let me = ap (λ s. s.me) c.into_seat-seat.ensures ∙ is.0 in
    (search rules, ap (λ s. s.table_id) c.into_seat-seat.ensures ∙ here.0, ap (λ m. m.1) me, search rules, joins_as _ _ _ _ _ _ _ inv.1.0 _ _ (own p) (ap (λ m. m.0) inv.1.1) (ap (λ m. m.0) me) here.1)

pub loop-pass-preserved : goal.loop-pass-preserved
loop-pass-preserved g c = let inv = c.loop-pass.invariant in let p = c.in-Some.pass in
    let all = All-pop (IsIdleAt c.args.top.now.table_id) _ c.pop.new.self.items (Some p) c.in-Some.ensures.items inv.2 in
    let is = idle_is p.number p.seat.me p.member p.ready all.1.1 in
    let me = ap (λ s. s.me) c.into_seat-seat.ensures ∙ is.0 in
    (search rules, (own p ∷ inv.1.0, c.join_seat.ensures.2 ∙ (λ i. (ended (inv.1.1 i).0 (me i).0, (inv.1.1 i).1)), gone _ _ p inv.1.0 _ c.in-Some.ensures.items inv.1.2), all.0)
