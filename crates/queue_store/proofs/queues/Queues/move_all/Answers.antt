use Rattle.std.proofs.Common.{◌≡◌, ◌∙◌, ◌+◌, ◌-◌, ◌++◌, ◌∷◌, [], subst, ℕ, suc, sym, ap, arith, Some, None, length, slice_get, true, false, refl, append_assoc, length-append, vec_capacity}
use Rattle.std.specs.Prelude.{unwrap_or, map as each}
use Rattle.std.specs.Option.{option_map}
use Rattle.std.proofs.lemmas.List.{append-nil}
use Rattle.queue_store.specs.Rows.{Row, ip_at, on_row, with_items, first_taken, first_item, count_of, items_of, taken_of, below_items, outside_rows, sift_rows}
use Rattle.queue_store.specs.Queues.{is_declared, moved_all, dropped_below, items_below}
use Rattle.queue_store.specs.Homes.{heads, queues_of, Housed, AllFiled, AllBelow, HomeAt}
use Rattle.queue_store.proofs.MoveLaws.{length-on_row, length-sifted}
use Rattle.queue_store.proofs.MovedLaws.{has-row, guest-items, other-row, moved_rows, sifted-apart, sifted-within, moved-queues, moved-heads, moved-filed, items-row, items-within}
use Rattle.queue_store.proofs.DropLaws.{first-of-row, count-of-row, none-of-row, rest-of-row, emptied-row, taken-then-emptied, all-none, taken-length, nothing-left, drained-outside, drained-items, drained-before, passed-before, drained-length, drop-queues, drop-items, drop-kept}
use Rattle.queue_store.proofs.QueueLaws.{undeclared, home-within}
use Rattle.queue_store.proofs.queues.Queues.move_all.Goals as goal

pub unreachable-requires : goal.unreachable-requires
unreachable-requires g c =
    let missing = undeclared {T = g.row.T.Denot} c.self.inside.table.rows c.args.to.now c.in-None-home_of.ensures in
    let there = rw (← c.self.view_is) at c.requires.to in
    cc

pub unreachable-requires-in-None : goal.unreachable-requires-in-None
unreachable-requires-in-None g c =
    let missing = undeclared {T = g.row.T.Denot} c.self.inside.table.rows c.args.from.now c.in-None.ensures in
    let there = rw (← c.self.view_is) at c.requires.from in
    cc

pub returns : goal.returns
returns g c = record {
  queues = rw (← c.self.view_is) c.move_between.ensures.queues;
  spare = rw (← c.self.view_is) c.move_between.ensures.spare;
  room = rw (← c.self.view_is) c.move_between.ensures.room;
}

pub invariant_of-self : goal.invariant_of-self
invariant_of-self g c = (
  subst Housed (sym c.move_between.ensures.heads) c.self.invariant.0,
  c.move_between.ensures.filed,
  subst (AllBelow c.self.inside.numbers) (sym c.move_between.ensures.heads) c.self.invariant.2,
  c.self.invariant.3,
)
