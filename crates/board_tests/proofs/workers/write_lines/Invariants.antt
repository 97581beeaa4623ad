use Rattle.std.proofs.Common.{◌≡◌}
use Rattle.turn_board.specs.Passes.{board_of, number_of, IsIdle}
use Rattle.board_tests.proofs.workers.write_lines.Given as goal

abbrev pub invariant-loop-what : goal.invariant-loop-what
invariant-loop-what g l = (board_of l.pass ≡ board_of l.initial.pass) × IsIdle l.pass × (number_of l.pass ≡ number_of l.initial.pass)
