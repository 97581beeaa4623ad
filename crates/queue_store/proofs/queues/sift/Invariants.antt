use Rattle.std.proofs.Common.{◌≡◌, ℕ, ◌-◌, length}
use Rattle.queue_store.specs.Rows.{sift_rows}
use Rattle.queue_store.proofs.queues.sift.Given as goal

abbrev pub invariant-loop-i : goal.invariant-loop-i
invariant-loop-i g l = record {
  rest : sift_rows (l.i-end - l.i) l.source l.target l.from l.to l.table.rows ≡ sift_rows l.i-end l.source l.target l.from l.to l.initial.table.rows;
  length : length l.table.rows ≡ length l.initial.table.rows;
  spare : l.table.spare ≡ l.initial.table.spare;
  room : l.table.room ≡ l.initial.table.room;
}
