use Rattle.std.proofs.Common.{◌≡◌, ◌∙◌, ◌+◌, ◌-◌, ◌++◌, ◌∷◌, [], subst, ℕ, suc, sym, ap, arith, Some, None, length, slice_get, true, false, refl, append_assoc, length-append, vec_capacity}
use Rattle.std.specs.Prelude.{unwrap_or, map as each}
use Rattle.std.specs.Option.{option_map}
use Rattle.std.proofs.lemmas.List.{append-nil}
use Rattle.queue_store.specs.Rows.{Row, ip_at, on_row, with_items, first_taken, first_item, count_of, items_of, taken_of, below_items, outside_rows, sift_rows}
use Rattle.queue_store.specs.Queues.{is_declared, moved_all, dropped_below, items_below}
use Rattle.queue_store.specs.Homes.{heads, queues_of, Housed, AllFiled, AllBelow, HomeAt}
use Rattle.queue_store.proofs.MoveLaws.{length-on_row, length-sifted}
use Rattle.queue_store.proofs.MovedLaws.{has-row, guest-items, other-row, moved_rows, sifted-apart, sifted-within, moved-queues, moved-heads, moved-filed, items-row, items-within}
use Rattle.queue_store.proofs.DropLaws.{first-of-row, count-of-row, none-of-row, rest-of-row, emptied-row, taken-then-emptied, all-none, taken-length, nothing-left, drained-outside, drained-items, drained-before, passed-before, drained-length, drop-queues, drop-items, drop-kept}
use Rattle.queue_store.proofs.QueueLaws.{undeclared, home-within}
use Rattle.queue_store.proofs.queues.drain.Goals as goal

pub drain_one-requires-clause-capacity : goal.drain_one-requires-clause-capacity
drain_one-requires-clause-capacity g c = λ some.
    omega (
      arith,
      ap length c.loop-i.invariant.items,
      length-append c.loop-i.into.items (taken_of c.args.row c.loop-i.table.rows),
      length-append c.args.into.now.items (taken_of c.args.row c.args.table.now.rows),
      taken-length c.args.row c.loop-i.table.rows,
      taken-length c.args.row c.args.table.now.rows,
      c.requires.capacity,
      c.loop-i.invariant.capacity,
      some,
    )

pub loop-i-preserved : goal.loop-i-preserved
loop-i-preserved g c = record {
  rest = ap (on_row c.args.row (with_items [])) c.drain_one.ensures.rows ∙ taken-then-emptied c.args.row c.loop-i.table.rows ∙ c.loop-i.invariant.rest;
  items = c.drain_one.ensures.items ∙ c.loop-i.invariant.items;
  count = omega (arith, c.drain_one.ensures.count, c.loop-i.invariant.count, c.loop-i-test.true);
  spare = omega (arith, c.drain_one.ensures.spare (omega (arith, c.loop-i.invariant.count, c.loop-i-test.true)), c.loop-i.invariant.spare);
  length = ap length c.drain_one.ensures.rows ∙ length-on_row c.args.row first_taken c.loop-i.table.rows ∙ c.loop-i.invariant.length;
  room = c.drain_one.ensures.room ∙ c.loop-i.invariant.room;
  capacity = c.drain_one.ensures.capacity ∙ c.loop-i.invariant.capacity;
}

pub returns : goal.returns
returns g c =
    let nothing = nothing-left c.args.row c.loop-i.table.rows (omega (arith, c.loop-i.invariant.count, c.loop-i-test.false)) in
    let size : count_of c.args.row c.args.table.now.rows ≡ c.len-i-end.result = ap (λ o. unwrap_or o 0) c.len-i-end.ensures in
    record {
      rows = sym (emptied-row c.args.row c.loop-i.table.rows nothing) ∙ c.loop-i.invariant.rest;
      items = sym (ap (λ xs. c.loop-i.into.items ++ each (λ x. x.1) xs) nothing ∙ append-nil c.loop-i.into.items) ∙ c.loop-i.invariant.items;
      spare = omega (arith, c.loop-i.invariant.spare, c.loop-i.invariant.count, ap length nothing, count-of-row c.args.row c.loop-i.table.rows, size);
      room = c.loop-i.invariant.room;
      capacity = c.loop-i.invariant.capacity;
    }
