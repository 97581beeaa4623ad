use Rattle.board_threads.proofs.workers.work_all.Goals as goal

pub returns : goal.returns
returns g c = let each = c.work_each.ensures in record {
  of_board = λ k d lt. (each.free k d lt).0;
  idle = λ k d lt. (each.free k d lt).1;
  all = λ number low high. rw each.numbers (c.requires.all.all number low high);
}
