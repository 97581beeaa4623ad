use Rattle.board_workers.proofs.Starts.{nobody_wrote}
use Rattle.estelle_cli.proofs.by_workers.run_by.Goals as goal

pub run_workers-requires-clause-new : goal.run_workers-requires-clause-new
run_workers-requires-clause-new g c κs within = nobody_wrote c.in-Ok.world c.in-Ok.ensures.starts
