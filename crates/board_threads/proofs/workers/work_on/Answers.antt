use Rattle.board_threads.proofs.NewPasses.{new_may_work}
use Rattle.board_threads.proofs.workers.work_on.Goals as goal

pub work_all-passes-requires-clause-may : goal.work_all-passes-requires-clause-may
work_all-passes-requires-clause-may g c κs within =
    let up = c.in_ok-board.ensures in
    new_may_work (g.W.Labour.asks c.args.labour.now) c.in_ok-board.board _ c.args.n c.in_ok-board.passes.items up.passes.1 up.all c.requires.asked
