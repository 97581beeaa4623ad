use Rattle.board_workers.proofs.Starts.{nobody_wrote}
use Rattle.board_tests.proofs.run_turns.begun.Goals as goal

pub returns-in-Ok-clause-new : goal.returns-in-Ok-clause-new
returns-in-Ok-clause-new c = nobody_wrote c.in-Ok.world c.in-Ok.ensures.starts
