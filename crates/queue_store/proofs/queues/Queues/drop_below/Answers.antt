use Rattle.std.proofs.Common.{◌≡◌, ◌∙◌, ◌+◌, ◌-◌, ◌++◌, ◌∷◌, [], subst, ℕ, suc, sym, ap, arith, Some, None, length, slice_get, true, false, refl, append_assoc, length-append, vec_capacity}
use Rattle.std.specs.Prelude.{unwrap_or, map as each}
use Rattle.std.specs.Option.{option_map}
use Rattle.std.proofs.lemmas.List.{append-nil}
use Rattle.queue_store.specs.Rows.{Row, ip_at, on_row, with_items, first_taken, first_item, count_of, items_of, taken_of, below_items, outside_rows, sift_rows}
use Rattle.queue_store.specs.Queues.{is_declared, moved_all, dropped_below, items_below}
use Rattle.queue_store.specs.Homes.{heads, queues_of, Housed, AllFiled, AllBelow, HomeAt}
use Rattle.queue_store.proofs.MoveLaws.{length-on_row, length-sifted}
use Rattle.queue_store.proofs.MovedLaws.{has-row, guest-items, other-row, moved_rows, sifted-apart, sifted-within, moved-queues, moved-heads, moved-filed, items-row, items-within}
use Rattle.queue_store.proofs.DropLaws.{first-of-row, count-of-row, none-of-row, rest-of-row, emptied-row, taken-then-emptied, all-none, taken-length, nothing-left, drained-outside, drained-items, drained-before, passed-before, drained-length, drop-queues, drop-items, drop-kept}
use Rattle.queue_store.proofs.QueueLaws.{undeclared, home-within}
use Rattle.queue_store.proofs.queues.Queues.drop_below.Goals as goal

pub empty_below-requires : goal.empty_below-requires
empty_below-requires g c =
    let need = rw (← c.self.view_is) at c.requires in
    omega (arith, need, ap length (drop-items c.args.path.now c.self.inside.table.rows c.self.invariant.1))

pub invariant_of-self : goal.invariant_of-self
invariant_of-self g c =
    let e = c.keep_outside.ensures.rows ∙ c.empty_below.ensures.rows in
    let kept = drop-kept c.args.path.now c.self.inside.table.rows c.self.inside.numbers c.self.invariant.0 c.self.invariant.1 c.self.invariant.2 in
    rw e (kept.0, kept.1, kept.2, c.self.invariant.3)

pub returns : goal.returns
returns g c =
    let e = c.keep_outside.ensures.rows ∙ c.empty_below.ensures.rows in
    let same = drop-items c.args.path.now c.self.inside.table.rows c.self.invariant.1 in
    record {
      queues = rw (e, ← c.self.view_is) (drop-queues c.args.path.now c.self.inside.table.rows);
      items = rw (← c.self.view_is) (c.empty_below.ensures.items ∙ ap (λ l. c.args.into.now.items ++ l) (sym same));
      spare = rw (← c.self.view_is) (c.keep_outside.ensures.spare ∙ c.empty_below.ensures.spare ∙ ap (λ l. c.self.inside.table.spare + length l) (sym same));
      room = rw (← c.self.view_is) (omega (arith, c.keep_outside.ensures.room, c.empty_below.ensures.room));
      capacity = c.empty_below.ensures.capacity;
    }
