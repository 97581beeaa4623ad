use Rattle.std.proofs.Common.{sym, ap, rules}
use Rattle.turn_board.proofs.BoardSteps.{starts_as}
use Rattle.turn_board.proofs.Several.{new_are_all}
use Rattle.turn_board.proofs.board.Board.set_up.Goals as goal

pub new-requires : goal.new-requires
new-requires g c = starts_as _ _ _ _ _ c.args.value _ _ (search rules) (ap g.V.Recorded.base (sym c.of.ensures)) c.count.ensures c.requires

pub returns-in-Ok-new-clause-all : goal.returns-in-Ok-new-clause-all
returns-in-Ok-new-clause-all g c = new_are_all _ _ c.args.n _ (search rules) c.make_passes.ensures.new
