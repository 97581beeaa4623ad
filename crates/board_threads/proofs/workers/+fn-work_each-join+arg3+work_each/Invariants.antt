use Rattle.std.proofs.Common.{◌+◌, ◌*◌}
use Rattle.std.specs.Prelude.{vec_len}
use Rattle.board_threads.proofs.workers.+fn-work_each-join+arg3+work_each.Given as goal

abbrev pub decreases-join+arg3 : goal.decreases-join+arg3
decreases-join+arg3 g l = 2 * vec_len l.rest.passes + 1

abbrev pub decreases-work_each : goal.decreases-work_each
decreases-work_each g l = 2 * vec_len l.hands.passes
