use Rattle.turn_board.specs.Passes.{own}
use Rattle.board_workers.specs.Jobs.{IsSamePass, HasWork}
use Rattle.board_workers.proofs.crew.CrewLabourWorld.work.Given as goal

abbrev pub invariant-loop : goal.invariant-loop
invariant-loop g l = IsSamePass l.initial.pass l.pass × HasWork (own l.pass) l.told.work
