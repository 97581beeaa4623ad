use Rattle.std.proofs.Common.{◌≡◌, ◌∙◌, ◌+◌, ◌-◌, ◌++◌, ◌∷◌, [], subst, ℕ, suc, sym, ap, arith, Some, None, length, slice_get, true, false, refl, append_assoc, length-append, vec_capacity}
use Rattle.std.specs.Prelude.{unwrap_or, map as each}
use Rattle.std.specs.Option.{option_map}
use Rattle.std.proofs.lemmas.List.{append-nil}
use Rattle.queue_store.specs.Rows.{Row, ip_at, on_row, with_items, first_taken, first_item, count_of, items_of, taken_of, below_items, outside_rows, sift_rows}
use Rattle.queue_store.specs.Queues.{is_declared, moved_all, dropped_below, items_below}
use Rattle.queue_store.specs.Homes.{heads, queues_of, Housed, AllFiled, AllBelow, HomeAt}
use Rattle.queue_store.proofs.MoveLaws.{length-on_row, length-sifted}
use Rattle.queue_store.proofs.MovedLaws.{has-row, guest-items, other-row, moved_rows, sifted-apart, sifted-within, moved-queues, moved-heads, moved-filed, items-row, items-within}
use Rattle.queue_store.proofs.DropLaws.{first-of-row, count-of-row, none-of-row, rest-of-row, emptied-row, taken-then-emptied, all-none, taken-length, nothing-left, drained-outside, drained-items, drained-before, passed-before, drained-length, drop-queues, drop-items, drop-kept}
use Rattle.queue_store.proofs.QueueLaws.{undeclared, home-within}
use Rattle.queue_store.proofs.queues.move_between.Goals as goal

pub returns-then-source-target-clause-queues : goal.returns-then-source-target-clause-queues
returns-then-source-target-clause-queues g c =
    let e = c.sift.ensures.rows ∙ sifted-apart c.args.table.now.rows c.args.from.now c.args.to.now c.args.source c.args.target c.requires.source c.requires.target c.if-source-target.true in
    rw e (moved-queues c.args.table.now.rows c.args.from.now c.args.to.now c.args.source c.args.target c.requires.source c.requires.target)

pub returns-then-source-target-clause-heads : goal.returns-then-source-target-clause-heads
returns-then-source-target-clause-heads g c =
    let e = c.sift.ensures.rows ∙ sifted-apart c.args.table.now.rows c.args.from.now c.args.to.now c.args.source c.args.target c.requires.source c.requires.target c.if-source-target.true in
    rw e (moved-heads c.args.table.now.rows c.args.from.now c.args.to.now c.args.source c.args.target c.requires.source c.requires.target)

pub returns-then-source-target-clause-filed : goal.returns-then-source-target-clause-filed
returns-then-source-target-clause-filed g c =
    let e = c.sift.ensures.rows ∙ sifted-apart c.args.table.now.rows c.args.from.now c.args.to.now c.args.source c.args.target c.requires.source c.requires.target c.if-source-target.true in
    rw e (moved-filed c.args.table.now.rows c.args.from.now c.args.to.now c.args.source c.args.target c.requires.source c.requires.target c.requires.filed)

pub sift-requires-2-clause-target : goal.sift-requires-2-clause-target
sift-requires-2-clause-target g c = items-within c.args.table.now.rows c.guest_of-guest.result c.guest_of-guest.ensures.empty

pub sift-requires-3-clause-source : goal.sift-requires-3-clause-source
sift-requires-3-clause-source g c =
    let within = items-within c.args.table.now.rows c.guest_of-guest.result c.guest_of-guest.ensures.empty in
    let same = length-sifted (count_of c.args.source c.args.table.now.rows) c.args.source c.guest_of-guest.result c.args.from.now.ip c.args.to.now.ip c.args.table.now.rows in
    rw (c.sift-2.ensures.rows, same) within

pub sift-requires-3-clause-target : goal.sift-requires-3-clause-target
sift-requires-3-clause-target g c =
    let within = home-within c.args.table.now.rows c.args.from.now c.args.source c.requires.source in
    let same = length-sifted (count_of c.args.source c.args.table.now.rows) c.args.source c.guest_of-guest.result c.args.from.now.ip c.args.to.now.ip c.args.table.now.rows in
    rw (c.sift-2.ensures.rows, same) within

pub returns : goal.returns
returns g c =
    let B : HomeAt {T = g.row.T.Denot} c.args.table.now.rows c.args.to.now c.args.source = subst (HomeAt {T = g.row.T.Denot} c.args.table.now.rows c.args.to.now) (sym c.if-source-target.false) c.requires.target in
    let guest = items-row (slice_get c.args.table.now.rows c.guest_of-guest.result) c.guest_of-guest.ensures.empty in
    let apart : c.args.source ≡ c.guest_of-guest.result → ⊥ = λ h. c.guest_of-guest.ensures.apart (sym h) in
    let within = sifted-within c.args.table.now.rows c.args.from.now c.args.to.now c.args.source c.requires.source B c.guest_of-guest.result apart guest.0 guest.1 guest.2 in
    let last = rw c.sift-2.ensures.rows at c.sift-3.ensures.rows in
    let e = last ∙ within in
    record {
      queues = rw e (moved-queues c.args.table.now.rows c.args.from.now c.args.to.now c.args.source c.args.source c.requires.source B);
      heads = rw e (moved-heads c.args.table.now.rows c.args.from.now c.args.to.now c.args.source c.args.source c.requires.source B);
      filed = rw e (moved-filed c.args.table.now.rows c.args.from.now c.args.to.now c.args.source c.args.source c.requires.source B c.requires.filed);
      spare = c.sift-3.ensures.spare ∙ c.sift-2.ensures.spare;
      room = c.sift-3.ensures.room ∙ c.sift-2.ensures.room;
    }
