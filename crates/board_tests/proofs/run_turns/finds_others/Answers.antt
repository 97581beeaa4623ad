use Rattle.turn_board.specs.Passes.{own}
use Rattle.board_tests.proofs.RunTurns.{still_has}
use Rattle.board_tests.proofs.run_turns.finds_others.Goals as goal

pub returns-in-Ok-Idle-clause-still : goal.returns-in-Ok-Idle-clause-still
returns-in-Ok-Idle-clause-still g c = λ _.
    let h = c.in-Ok-Idle.ensures.turn in
    still_has (own c.args.pass.now) (own c.next.new.pass) h.0 h.1 h.2 c.args.job.now c.requires.its h.3 (rw c.in-Ok-Idle.field-0-is at h.4).same
