-- What is asked of passes that go to workers, and said of those that come back.
use Rattle.turn_board.specs.Passes.{own, IsOf, IsIdle}
use Rattle.turn_board.specs.declared.board.Board.{Board}
use Rattle.turn_board.specs.declared.pass.PassOf.{PassOf}

module _ {V B E : Type 0} where
  -- a pass of the board that has no turn
  abbrev pub IsFree : Board V B E → PassOf V B E → Type 0
  IsFree b p = IsOf b p × IsIdle p

  -- and to whose board the labour may go, which asks this of the fixed part
  pub record MayWork (asks : B → Type 0) (b : Board V B E) (p : PassOf V B E) : Type 0 where
    pub free : IsFree b p
    pub asked : asks (own p).base
