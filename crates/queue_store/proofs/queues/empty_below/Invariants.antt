use Rattle.std.proofs.Common.{◌≡◌, ℕ, ◌+◌, ◌-◌, ◌≤◌, ◌++◌, [], length, vec_capacity}
use Rattle.queue_store.specs.Rows.{below_items, outside_rows}
use Rattle.queue_store.proofs.DropLaws.{NoneBefore}
use Rattle.queue_store.proofs.queues.empty_below.Given as goal

abbrev pub invariant-loop-row : goal.invariant-loop-row
invariant-loop-row g l = record {
  rest : outside_rows l.path l.table.rows ≡ outside_rows l.path l.initial.table.rows;
  items : l.into.items ++ below_items l.path l.table.rows ≡ l.initial.into.items ++ below_items l.path l.initial.table.rows;
  none : NoneBefore l.path l.row l.table.rows;
  spare : l.table.spare + length (below_items l.path l.table.rows) ≡ l.initial.table.spare + length (below_items l.path l.initial.table.rows);
  length : length l.table.rows ≡ length l.initial.table.rows;
  room : l.table.room ≡ l.initial.table.room;
  capacity : vec_capacity l.into ≡ vec_capacity l.initial.into;
}
