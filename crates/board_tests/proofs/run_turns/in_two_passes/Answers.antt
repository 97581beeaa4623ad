use Rattle.std.proofs.Common.{◌∙◌, sym, ap}
use Rattle.turn_board.proofs.Several.{new_numbers}
use Rattle.board_runner.specs.Histories.{subject_of}
use Rattle.board_tests.proofs.RunTurns.{new_bases}
use Rattle.board_tests.proofs.run_turns.in_two_passes.Goals as goal

pub take_two-first-requires : goal.take_two-first-requires
take_two-first-requires g c = (c.in_ok-board.ensures.all, new_numbers _ _ 2 _ c.in_ok-board.ensures.passes.1)

pub goes-is_so-requires-clause-code : goal.goes-is_so-requires-clause-code
goes-is_so-requires-clause-code g c =
    let bases = new_bases c.in_ok-board.board _ c.take_two-first.result.0 c.take_two-first.result.1 _ c.in_ok-board.ensures.passes.1 c.take_two-first.ensures.both in
    (c.requires.code ∙ sym (ap subject_of bases.0), c.requires.code ∙ sym (ap subject_of bases.1))
