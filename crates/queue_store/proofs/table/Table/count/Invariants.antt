use Rattle.std.proofs.Common.{◌≡◌, ℕ, ◌+◌, ◌-◌, ◌≤◌}
use Rattle.queue_store.specs.Chains.{load_in, next_in, slots_from}
use Rattle.queue_store.proofs.RowLaws.{counted}
use Rattle.queue_store.proofs.table.Table.count.Given as goal

abbrev pub invariant-loop-i : goal.invariant-loop-i
invariant-loop-i g l = record {
  so_far :
      l.count + counted {T = g.row.T.Denot} (load_in l.self-inside.nodes) (next_in l.self-inside.nodes) l.ip (slots_from (next_in l.self-inside.nodes) (l.i-end - l.i) l.slot)
      ≡ counted {T = g.row.T.Denot} (load_in l.self-inside.nodes) (next_in l.self-inside.nodes) l.ip (slots_from (next_in l.self-inside.nodes) l.i-end l.initial.slot);
  below : l.count ≤ l.i;
}
