use Rattle.std.proofs.Common.{◌≡◌, ◌∙◌, ◌+◌, ◌-◌, ◌++◌, ◌∷◌, [], subst, ℕ, suc, sym, ap, arith, Some, None, length, slice_get, true, false, refl, append_assoc, length-append, vec_capacity}
use Rattle.std.specs.Prelude.{unwrap_or, map as each}
use Rattle.std.specs.Option.{option_map}
use Rattle.std.proofs.lemmas.List.{append-nil}
use Rattle.queue_store.specs.Rows.{Row, ip_at, on_row, with_items, first_taken, first_item, count_of, items_of, taken_of, below_items, outside_rows, sift_rows}
use Rattle.queue_store.specs.Queues.{is_declared, moved_all, dropped_below, items_below}
use Rattle.queue_store.specs.Homes.{heads, queues_of, Housed, AllFiled, AllBelow, HomeAt}
use Rattle.queue_store.proofs.MoveLaws.{length-on_row, length-sifted}
use Rattle.queue_store.proofs.MovedLaws.{has-row, guest-items, other-row, moved_rows, sifted-apart, sifted-within, moved-queues, moved-heads, moved-filed, items-row, items-within}
use Rattle.queue_store.proofs.DropLaws.{first-of-row, count-of-row, none-of-row, rest-of-row, emptied-row, taken-then-emptied, all-none, taken-length, nothing-left, drained-outside, drained-items, drained-before, passed-before, drained-length, drop-queues, drop-items, drop-kept}
use Rattle.queue_store.proofs.QueueLaws.{undeclared, home-within}
use Rattle.queue_store.proofs.queues.empty_below.Goals as goal
use Rattle.queue_store.proofs.queues.empty_below.Goals.{then-is_at_or_above, else-is_at_or_above}

pub drain-requires-clause-capacity : goal.drain-requires-clause-capacity
drain-requires-clause-capacity g c =
    omega (
      arith,
      drained-length c.args.path.now c.loop-row.table.rows c.loop-row.row c.addr.result.now c.addr.ensures c.is_at_or_above.result c.is_at_or_above.ensures c.if-is_at_or_above.true c.loop-row.invariant.none,
      ap length c.loop-row.invariant.items,
      length-append c.loop-row.into.items (below_items c.args.path.now c.loop-row.table.rows),
      length-append c.args.into.now.items (below_items c.args.path.now c.args.table.now.rows),
      c.requires,
      c.loop-row.invariant.capacity,
    )

pub loop-row-preserved : goal.loop-row-preserved
loop-row-preserved g c =
    elim c.if-is_at_or_above.branch [
      | then-is_at_or_above w ↦
          let inside = w.if-is_at_or_above.true in
          let emptied = on_row c.loop-row.row (with_items {T = g.row.T.Denot} []) c.loop-row.table.rows in
          let more = drained-length c.args.path.now c.loop-row.table.rows c.loop-row.row c.addr.result.now c.addr.ensures c.is_at_or_above.result c.is_at_or_above.ensures inside c.loop-row.invariant.none in
          record {
            rest = rw (w.table-is, w.drain.ensures.rows) (drained-outside c.args.path.now c.loop-row.table.rows c.loop-row.row c.addr.result.now c.addr.ensures c.is_at_or_above.result c.is_at_or_above.ensures inside ∙ c.loop-row.invariant.rest);
            items = rw (w.table-is, w.into-is, w.drain.ensures.rows, w.drain.ensures.items)
                (append_assoc c.loop-row.into.items (taken_of c.loop-row.row c.loop-row.table.rows) (below_items c.args.path.now emptied)
                ∙ ap (λ l. c.loop-row.into.items ++ l) (sym (drained-items c.args.path.now c.loop-row.table.rows c.loop-row.row c.addr.result.now c.addr.ensures c.is_at_or_above.result c.is_at_or_above.ensures inside c.loop-row.invariant.none)) ∙ c.loop-row.invariant.items);
            none = rw (w.table-is, w.drain.ensures.rows) (drained-before c.args.path.now c.loop-row.table.rows c.loop-row.row c.addr.result.now c.addr.ensures c.is_at_or_above.result c.is_at_or_above.ensures inside c.loop-row.invariant.none);
            spare = rw (w.table-is, w.drain.ensures.rows) (omega (arith, w.drain.ensures.spare, more, c.loop-row.invariant.spare));
            length = rw (w.table-is, w.drain.ensures.rows) (length-on_row c.loop-row.row (with_items []) c.loop-row.table.rows ∙ c.loop-row.invariant.length);
            room = rw w.table-is (w.drain.ensures.room ∙ c.loop-row.invariant.room);
            capacity = rw w.into-is (w.drain.ensures.capacity ∙ c.loop-row.invariant.capacity);
          }
      | else-is_at_or_above w ↦
          record {
            rest = rw w.table-is c.loop-row.invariant.rest;
            items = rw (w.table-is, w.into-is) c.loop-row.invariant.items;
            none = rw w.table-is (passed-before c.args.path.now c.loop-row.table.rows c.loop-row.row c.addr.result.now c.addr.ensures c.is_at_or_above.result c.is_at_or_above.ensures w.if-is_at_or_above.false c.loop-row.invariant.none);
            spare = rw w.table-is c.loop-row.invariant.spare;
            length = rw w.table-is c.loop-row.invariant.length;
            room = rw w.table-is c.loop-row.invariant.room;
            capacity = rw w.into-is c.loop-row.invariant.capacity;
          }
    ]

pub returns : goal.returns
returns g c =
    let all = all-none c.args.path.now c.loop-row.table.rows c.loop-row.row (omega (arith, c.loop-row-test.false, c.rows-row-end.ensures, c.loop-row.invariant.length)) c.loop-row.invariant.none in
    record {
      rows = c.loop-row.invariant.rest;
      none = all.1;
      items = sym (ap (λ xs. c.loop-row.into.items ++ xs) all.0 ∙ append-nil c.loop-row.into.items) ∙ c.loop-row.invariant.items;
      spare = omega (arith, c.loop-row.invariant.spare, ap length all.0);
      room = c.loop-row.invariant.room;
      capacity = c.loop-row.invariant.capacity;
    }
