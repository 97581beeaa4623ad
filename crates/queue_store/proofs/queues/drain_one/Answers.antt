use Rattle.std.proofs.Common.{◌≡◌, ◌∙◌, ◌+◌, ◌-◌, ◌++◌, ◌∷◌, [], subst, ℕ, suc, sym, ap, arith, Some, None, length, drop, slice_get, true, false, refl, append_assoc, length-append, vec_capacity}
use Rattle.std.specs.Prelude.{unwrap_or, map as each}
use Rattle.std.specs.Option.{option_map}
use Rattle.std.proofs.lemmas.List.{append-nil}
use Rattle.queue_store.specs.Rows.{Row, ip_at, on_row, with_items, first_taken, first_item, count_of, items_of, taken_of, below_items, outside_rows, sift_rows}
use Rattle.queue_store.specs.Queues.{is_declared, moved_all, dropped_below, items_below}
use Rattle.queue_store.specs.Homes.{heads, queues_of, Housed, AllFiled, AllBelow, HomeAt}
use Rattle.queue_store.proofs.MoveLaws.{length-on_row, length-sifted}
use Rattle.queue_store.proofs.MovedLaws.{has-row, guest-items, other-row, moved_rows, sifted-apart, sifted-within, moved-queues, moved-heads, moved-filed, items-row, items-within}
use Rattle.queue_store.proofs.DropLaws.{first-of-row, count-of-row, none-of-row, rest-of-row, emptied-row, taken-then-emptied, all-none, taken-length, nothing-left, drained-outside, drained-items, drained-before, passed-before, drained-length, drop-queues, drop-items, drop-kept}
use Rattle.queue_store.proofs.QueueLaws.{undeclared, home-within}
use Rattle.queue_store.proofs.queues.drain_one.Goals as goal

pub returns-in-Some-clause-items : goal.returns-in-Some-clause-items
returns-in-Some-clause-items g c =
    let first : first_item c.args.row c.args.table.now.rows ≡ Some (c.in-Some.field-0-0, c.in-Some.item) = sym c.pop.ensures.item ∙ c.in-Some.is in
    let split = first-of-row c.args.row c.args.table.now.rows (c.in-Some.field-0-0, c.in-Some.item) first in
    let rest = on_row c.args.row (first_taken {T = g.row.T.Denot}) c.args.table.now.rows in
    rw (c.push_reserved.ensures.items, c.pop.ensures.rows)
    (append_assoc c.args.into.now.items (c.in-Some.item ∷ []) (taken_of c.args.row rest) ∙ ap (λ xs. c.args.into.now.items ++ each (λ x. x.1) xs) (sym split))

pub returns-in-Some-clause-count : goal.returns-in-Some-clause-count
returns-in-Some-clause-count g c =
    let first : first_item c.args.row c.args.table.now.rows ≡ Some (c.in-Some.field-0-0, c.in-Some.item) = sym c.pop.ensures.item ∙ c.in-Some.is in
    let split = first-of-row c.args.row c.args.table.now.rows (c.in-Some.field-0-0, c.in-Some.item) first in
    let rest = on_row c.args.row (first_taken {T = g.row.T.Denot}) c.args.table.now.rows in
    rw c.pop.ensures.rows (omega (arith, count-of-row c.args.row c.args.table.now.rows, count-of-row c.args.row rest, ap length split))

pub returns-in-None-clause-items : goal.returns-in-None-clause-items
returns-in-None-clause-items g c =
    let first : first_item c.args.row c.args.table.now.rows ≡ None = sym c.pop.ensures.item ∙ c.in-None.is in
    let nothing = none-of-row c.args.row c.args.table.now.rows first in
    let rest = rest-of-row c.args.row c.args.table.now.rows ∙ ap (drop 1) nothing in
    let after = on_row c.args.row (first_taken {T = g.row.T.Denot}) c.args.table.now.rows in
    rw c.pop.ensures.rows (ap (λ xs. c.args.into.now.items ++ each (λ x. x.1) xs) (rest ∙ sym nothing))

pub returns-in-None-clause-count : goal.returns-in-None-clause-count
returns-in-None-clause-count g c =
    let first : first_item c.args.row c.args.table.now.rows ≡ None = sym c.pop.ensures.item ∙ c.in-None.is in
    let nothing = none-of-row c.args.row c.args.table.now.rows first in
    let rest = rest-of-row c.args.row c.args.table.now.rows ∙ ap (drop 1) nothing in
    let after = on_row c.args.row (first_taken {T = g.row.T.Denot}) c.args.table.now.rows in
    rw c.pop.ensures.rows (omega (arith, count-of-row c.args.row c.args.table.now.rows, count-of-row c.args.row after, ap length nothing, ap length rest))

pub returns-in-None-clause-spare : goal.returns-in-None-clause-spare
returns-in-None-clause-spare g c = λ some.
    let first : first_item c.args.row c.args.table.now.rows ≡ None = sym c.pop.ensures.item ∙ c.in-None.is in
    let nothing = none-of-row c.args.row c.args.table.now.rows first in
    absurd (omega (arith, some, count-of-row c.args.row c.args.table.now.rows, ap length nothing))
