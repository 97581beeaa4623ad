use Rattle.std.proofs.Common.{◌≡◌, ◌∙◌, ◌+◌, ◌-◌, ◌++◌, ◌∷◌, [], subst, ℕ, suc, sym, ap, arith, Some, None, length, slice_get, true, false, refl, append_assoc, length-append, vec_capacity}
use Rattle.std.specs.Prelude.{unwrap_or, map as each}
use Rattle.std.specs.Option.{option_map}
use Rattle.std.proofs.lemmas.List.{append-nil}
use Rattle.queue_store.specs.Rows.{Row, ip_at, on_row, with_items, first_taken, first_item, count_of, items_of, taken_of, below_items, outside_rows, sift_rows}
use Rattle.queue_store.specs.Queues.{is_declared, moved_all, dropped_below, items_below}
use Rattle.queue_store.specs.Homes.{heads, queues_of, Housed, AllFiled, AllBelow, HomeAt}
use Rattle.queue_store.proofs.MoveLaws.{length-on_row, length-sifted}
use Rattle.queue_store.proofs.MovedLaws.{has-row, guest-items, other-row, moved_rows, sifted-apart, sifted-within, moved-queues, moved-heads, moved-filed, items-row, items-within}
use Rattle.queue_store.proofs.DropLaws.{first-of-row, count-of-row, none-of-row, rest-of-row, emptied-row, taken-then-emptied, all-none, taken-length, nothing-left, drained-outside, drained-items, drained-before, passed-before, drained-length, drop-queues, drop-items, drop-kept}
use Rattle.queue_store.proofs.QueueLaws.{undeclared, home-within}
use Rattle.queue_store.proofs.queues.guest_of.Goals as goal

pub unreachable-requires : goal.unreachable-requires
unreachable-requires g c = has-row c.args.table.now.rows c.args.from.now c.args.home c.requires.from c.requires.housed c.in-None.ensures.found

pub unreachable-requires-in-None-find : goal.unreachable-requires-in-None-find
unreachable-requires-in-None-find g c = has-row c.args.table.now.rows c.args.to.now c.args.home c.requires.to c.requires.housed c.in-None-find.ensures.found

pub returns-then-row-home-clause-empty : goal.returns-then-row-home-clause-empty
returns-then-row-home-clause-empty g c =
    guest-items c.args.table.now.rows c.args.from.now c.args.home c.requires.from c.requires.housed c.requires.filed c.in-Some.row c.in-Some.ensures.found c.if-row-home.true

pub returns : goal.returns
returns g c =
    let apart : c.in-Some-find.row ≡ c.args.home → ⊥ = λ e.
    other-row c.args.table.now.rows c.args.from.now c.args.home c.requires.from c.requires.housed c.args.to.now c.requires.differ c.in-Some.row c.in-Some-find.row
    c.in-Some.ensures.found c.in-Some-find.ensures.found (c.if-row-home.false ∙ sym e) in
    record {
      apart = apart;
      empty = guest-items c.args.table.now.rows c.args.to.now c.args.home c.requires.to c.requires.housed c.requires.filed c.in-Some-find.row c.in-Some-find.ensures.found apart;
    }
