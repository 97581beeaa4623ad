use Rattle.std.proofs.Common.{◌∙◌, length, sym, refl, ap, rules}
use Rattle.turn_board.specs.Passes.{own}
use Rattle.turn_board.specs.Accounts.{with_stage, in_turn, found_in}
use Rattle.turn_board.specs.declared.views.Stage.TheVariants.{Drawn, Holds}
use Rattle.turn_board.proofs.Ready.{own_is, member_is, idle_is, ready_holds}
use Rattle.turn_board.proofs.board.Board.turn.Goals as goal

pub draw-ticket-requires-clause-idle : goal.draw-ticket-requires-clause-idle
draw-ticket-requires-clause-idle g c = let p = c.args.pass.now in let x = idle_is p.number p.seat.me p.member p.ready c.requires.pass.1 in
    (own p, x.0, c.requires.pass.1)

pub take-value-requires-clause-drawn : goal.take-value-requires-clause-drawn
take-value-requires-clause-drawn g c = let p = c.args.pass.now in let x = idle_is p.number p.seat.me p.member p.ready c.requires.pass.1 in
    (with_stage (own p) (Drawn c.draw-ticket.result), c.draw-ticket.ensures.drawn (own p) x.0, refl)

pub invariant_of-pass : goal.invariant_of-pass
invariant_of-pass g c = let p = c.args.pass.now in let x = idle_is p.number p.seat.me p.member p.ready c.requires.pass.1 in
    let d = c.draw-ticket.ensures.drawn (own p) x.0 in
    let h = c.take-value.ensures.holds (with_stage (own p) (Drawn c.draw-ticket.result)) d in
    let entries = g.V.Recorded.entries c.take-value.result in
    let o = in_turn (own p) c.draw-ticket.result entries in
    record { member = member_is _ o (ap (λ m. m.0) h); ready = ready_holds p.number _ o c.draw-ticket.result entries h x.1 refl }

pub returns-clause-turn : goal.returns-clause-turn
returns-clause-turn g c = let p = c.args.pass.now in let x = idle_is p.number p.seat.me p.member p.ready c.requires.pass.1 in
    let d = c.draw-ticket.ensures.drawn (own p) x.0 in
    let h = c.take-value.ensures.holds (with_stage (own p) (Drawn c.draw-ticket.result)) d in
    let entries = g.V.Recorded.entries c.take-value.result in
    let o = in_turn (own p) c.draw-ticket.result entries in
    let is = own_is _ _ o (ap (λ m. m.0) h) in
    (search rules, ap (λ q. q.stage) is ∙ ap (λ q. Holds c.draw-ticket.result (found_in q.stage)) (sym is), ap (λ q. length (found_in q.stage)) is ∙ sym c.count-began.ensures)

pub returns-clause-own : goal.returns-clause-own
returns-clause-own g c = let p = c.args.pass.now in let x = idle_is p.number p.seat.me p.member p.ready c.requires.pass.1 in
    let d = c.draw-ticket.ensures.drawn (own p) x.0 in
    let h = c.take-value.ensures.holds (with_stage (own p) (Drawn c.draw-ticket.result)) d in
    own_is _ _ (in_turn (own p) c.draw-ticket.result (g.V.Recorded.entries c.take-value.result)) (ap (λ m. m.0) h)

pub returns-clause-found : goal.returns-clause-found
returns-clause-found g c = let p = c.args.pass.now in let x = idle_is p.number p.seat.me p.member p.ready c.requires.pass.1 in
    let d = c.draw-ticket.ensures.drawn (own p) x.0 in
    let a = (c.take-value.ensures.found (with_stage (own p) (Drawn c.draw-ticket.result)) d).0 in
    record { base_is = a.base_is; begins = a.begins; own_places = a.own_places; own_seen = a.own_seen }

pub returns-clause-unchanged : goal.returns-clause-unchanged
returns-clause-unchanged g c = let p = c.args.pass.now in let x = idle_is p.number p.seat.me p.member p.ready c.requires.pass.1 in
    let d = c.draw-ticket.ensures.drawn (own p) x.0 in
    (c.take-value.ensures.found (with_stage (own p) (Drawn c.draw-ticket.result)) d).1
