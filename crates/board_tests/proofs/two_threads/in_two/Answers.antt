use Rattle.turn_board.proofs.Several.{new_numbers}
use Rattle.board_tests.proofs.two_threads.in_two.Goals as goal

pub take_two-first-requires : goal.take_two-first-requires
take_two-first-requires g c = (c.in_ok-board.ensures.all, new_numbers _ _ 2 _ c.in_ok-board.ensures.passes.1)
