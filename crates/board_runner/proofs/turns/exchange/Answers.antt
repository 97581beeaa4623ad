use Rattle.std.proofs.Common.{◌++◌, sym, subst}
use Rattle.turn_board.specs.Passes.{own}
use Rattle.situation.specs.Known.{Known}
use Rattle.board_runner.specs.Going.{HasGoneOn, MayCommit, HasExchanged}
use Rattle.board_runner.proofs.WholeTurns.{may_commit, kept, own_added, exchanged}
use Rattle.board_runner.proofs.turns.exchange.Goals as goal

pub exchange_as-exchanged-requires : goal.exchange_as-exchanged-requires
exchange_as-exchanged-requires g c =
    let turn = c.turn-turn in
    let w = turn.result.value in
    subst (λ (x : Known g.row.C.Denot g.row.H.Denot). MayCommit c.number.result x c.args.done) (sym c.value_mut.ensures.value)
    (may_commit (own c.args.pass.now) (own turn.new.pass) turn.result.ticket w turn.ensures.own turn.ensures.found c.number.result c.number.ensures c.args.done c.requires.its)

pub end-requires-clause-kept : goal.end-requires-clause-kept
end-requires-clause-kept g c =
    let turn = c.turn-turn in
    let w = turn.result.value in
    let did = c.exchange_as-exchanged in
    let added = did.ensures.first ++ did.ensures.second in
    kept (own c.args.pass.now) (own turn.new.pass) turn.result.ticket w turn.ensures.own turn.ensures.found c.number.result c.number.ensures did.new.world added
    (subst (λ (x : Known g.row.C.Denot g.row.H.Denot). HasGoneOn c.number.result x did.new.world added) c.value_mut.ensures.value did.ensures.gone)

pub end-requires-clause-added : goal.end-requires-clause-added
end-requires-clause-added g c =
    let turn = c.turn-turn in
    let w = turn.result.value in
    let did = c.exchange_as-exchanged in
    let added = did.ensures.first ++ did.ensures.second in
    own_added (own c.args.pass.now) (own turn.new.pass) turn.result.ticket w turn.ensures.own turn.ensures.found c.number.result c.number.ensures did.new.world added
    (subst (λ (x : Known g.row.C.Denot g.row.H.Denot). HasGoneOn c.number.result x did.new.world added) c.value_mut.ensures.value did.ensures.gone)

pub returns-clause-turn : goal.returns-clause-turn
returns-clause-turn g c =
    let turn = c.turn-turn in
    let w = turn.result.value in
    let did = c.exchange_as-exchanged in
    exchanged (own c.args.pass.now) (own turn.new.pass) turn.result.ticket w turn.ensures.own turn.ensures.found c.number.result c.number.ensures did.result did.new.world (own c.end.new.pass) c.args.done c.end.ensures.own
    (subst (λ (x : Known g.row.C.Denot g.row.H.Denot). HasExchanged c.number.result x did.new.world c.args.done did.result) c.value_mut.ensures.value did.ensures)
