use Rattle.std.proofs.Common.{sym, subst}
use Rattle.std.specs.Prelude.{IfSome}
use Rattle.turn_board.specs.Passes.{own}
use Rattle.board_workers.specs.Jobs.{HasWork}
use Rattle.board_workers.proofs.Tasks.{if_some, exchanged}
use Rattle.board_workers.proofs.turns.hand_in.Goals as goal

pub returns-in-Ok-clause-has : goal.returns-in-Ok-clause-has
returns-in-Ok-clause-has g c =
    let now = own c.exchange.new.pass in
    let has = exchanged (own c.args.pass.now) now c.args.done (c.in-Ok.field-0-0, c.in-Ok.work) c.in-Ok.ensures.turn in
    subst (λ x. IfSome x (HasWork now)) (sym c.ok.ensures.value) (if_some c.in-Ok.work (HasWork now) has)
