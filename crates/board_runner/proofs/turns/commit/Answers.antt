use Rattle.std.proofs.Common.{sym, subst}
use Rattle.turn_board.specs.Passes.{own}
use Rattle.situation.specs.Known.{Known}
use Rattle.board_runner.specs.Going.{HasGoneOn, MayCommit, HasSettled}
use Rattle.board_runner.proofs.WholeTurns.{may_commit, own_added, settled}
use Rattle.board_runner.proofs.turns.commit.Goals as goal

pub settle_as-committed-requires : goal.settle_as-committed-requires
settle_as-committed-requires g c =
    let turn = c.turn-turn in
    let w = turn.result.value in
    subst (λ (x : Known g.row.C.Denot g.row.H.Denot). MayCommit c.number.result x c.args.done) (sym c.value_mut.ensures.value)
    (may_commit (own c.args.pass.now) (own turn.new.pass) turn.result.ticket w turn.ensures.own turn.ensures.found c.number.result c.number.ensures c.args.done c.requires.its)

pub end-requires-clause-added : goal.end-requires-clause-added
end-requires-clause-added g c =
    let turn = c.turn-turn in
    let w = turn.result.value in
    let did = c.settle_as-committed in
    own_added (own c.args.pass.now) (own turn.new.pass) turn.result.ticket w turn.ensures.own turn.ensures.found c.number.result c.number.ensures did.new.world did.ensures.added
    (subst (λ (x : Known g.row.C.Denot g.row.H.Denot). HasGoneOn c.number.result x did.new.world did.ensures.added) c.value_mut.ensures.value did.ensures.gone)

pub returns-clause-turn : goal.returns-clause-turn
returns-clause-turn g c =
    let turn = c.turn-turn in
    let w = turn.result.value in
    let did = c.settle_as-committed in
    settled (own c.args.pass.now) (own turn.new.pass) turn.result.ticket w turn.ensures.own turn.ensures.found c.number.result c.number.ensures did.result did.new.world (own c.end.new.pass) c.args.done c.end.ensures.own
    (subst (λ (x : Known g.row.C.Denot g.row.H.Denot). HasSettled c.number.result x did.new.world c.args.done did.result) c.value_mut.ensures.value did.ensures)
