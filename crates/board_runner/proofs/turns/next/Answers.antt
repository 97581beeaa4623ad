use Rattle.std.proofs.Common.{subst}
use Rattle.turn_board.specs.Passes.{own}
use Rattle.situation.specs.Known.{Known}
use Rattle.board_runner.specs.Going.{HasGoneOn, HasGiven}
use Rattle.board_runner.proofs.WholeTurns.{own_added, given}
use Rattle.board_runner.proofs.turns.next.Goals as goal

pub end-requires-clause-added : goal.end-requires-clause-added
end-requires-clause-added g c =
    let turn = c.turn-turn in
    let w = turn.result.value in
    let did = c.go_on_as-work in
    own_added (own c.args.pass.now) (own turn.new.pass) turn.result.ticket w turn.ensures.own turn.ensures.found c.number.result c.number.ensures did.new.world did.ensures.added
    (subst (λ (x : Known g.row.C.Denot g.row.H.Denot). HasGoneOn c.number.result x did.new.world did.ensures.added) c.value_mut.ensures.value did.ensures.gone)

pub returns-clause-turn : goal.returns-clause-turn
returns-clause-turn g c =
    let turn = c.turn-turn in
    let w = turn.result.value in
    let did = c.go_on_as-work in
    given (own c.args.pass.now) (own turn.new.pass) turn.result.ticket w turn.ensures.own turn.ensures.found c.number.result c.number.ensures did.result did.new.world (own c.end.new.pass) c.end.ensures.own
    (subst (λ (x : Known g.row.C.Denot g.row.H.Denot). HasGiven c.number.result x did.new.world did.result) c.value_mut.ensures.value did.ensures)
