use Rattle.std.proofs.Common.{◌≡◌, ℕ, ◌+◌, ◌-◌, ◌≤◌, ◌++◌, [], length, vec_capacity}
use Rattle.queue_store.specs.Rows.{on_row, with_items, taken_of, count_of}
use Rattle.queue_store.proofs.queues.drain.Given as goal

abbrev pub invariant-loop-i : goal.invariant-loop-i
invariant-loop-i g l = record {
  rest : on_row l.row (with_items []) l.table.rows ≡ on_row l.row (with_items []) l.initial.table.rows;
  items : l.into.items ++ taken_of l.row l.table.rows ≡ l.initial.into.items ++ taken_of l.row l.initial.table.rows;
  count : count_of l.row l.table.rows + l.i ≡ l.i-end;
  spare : l.table.spare ≡ l.initial.table.spare + l.i;
  length : length l.table.rows ≡ length l.initial.table.rows;
  room : l.table.room ≡ l.initial.table.room;
  capacity : vec_capacity l.into ≡ vec_capacity l.initial.into;
}
