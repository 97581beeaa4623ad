use Rattle.std.proofs.Common.{◌≡◌, ◌∙◌, ◌+◌, ◌++◌, ◌∷◌, [], subst, ℕ, sym, ap, arith, Some, None, length, rules, slice_get, true, false, is_some, refl, drop}
use Rattle.std.specs.Prelude.{option_and_then}
use Rattle.std.specs.Option.{option_map}
use Rattle.estelle_tree.specs.Queues.{waiting}
use Rattle.queue_store.specs.Rows.{Row, ip_at, put_last, first_taken}
use Rattle.queue_store.specs.Queues.{is_declared, queue_of, waiting_at, with_items}
use Rattle.queue_store.specs.Homes.{heads, queues_of, waits_in, Housed, AllFiled, AllBelow, HomeAt}
use Rattle.queue_store.proofs.HomeLaws.{home-at, home-items, home-declared, home-changed, home-heads, home-queues, home-filed, home-kept, among-none, count-heads, row-of, counted-at, get-heads}
use Rattle.queue_store.proofs.QueueLaws.{undeclared, no-items, total-queues, known-first, counted-waiting, home-get, home-within, put-queue, put-filed, taken-queue, taken-filed, first-of, first-item, first-declared, first-waits, counted-here, addr-of, item-of}
use Rattle.queue_store.proofs.queues.Queues.head.Goals as goal

pub unreachable-requires-in-None : goal.unreachable-requires-in-None
unreachable-requires-in-None g c =
    let missing = undeclared {T = g.row.T.Denot} c.self.inside.table.rows c.args.ip.now c.in-None.ensures in
    let there = rw (← c.self.view_is) at c.requires in
    cc

pub unreachable-requires : goal.unreachable-requires
unreachable-requires g c =
    let home : HomeAt {T = g.row.T.Denot} c.self.inside.table.rows c.args.ip.now c.in-Some.row = c.in-Some.ensures in
    let told : option_and_then (λ d. slice_get d.items 0) (slice_get c.self.inside.table.rows c.in-Some.row) ≡ Some (c.in-Some-first.number, c.in-Some-first.item.now) =
    sym c.first.ensures ∙ ap (option_map (λ p. (p.0, p.1.now))) c.in-Some-first.is in
    first-declared c.self.inside.table.rows c.args.ip.now c.in-Some.row home (c.in-Some-first.number, c.in-Some-first.item.now) told (home-filed c.self.inside.table.rows c.args.ip.now c.in-Some.row home c.self.invariant.1) c.in-None-find.ensures.found

pub returns-in-Some-find : goal.returns-in-Some-find
returns-in-Some-find g c =
    let home : HomeAt {T = g.row.T.Denot} c.self.inside.table.rows c.args.ip.now c.in-Some.row = c.in-Some.ensures in
    let told : option_and_then (λ d. slice_get d.items 0) (slice_get c.self.inside.table.rows c.in-Some.row) ≡ Some (c.in-Some-first.number, c.in-Some-first.item.now) =
    sym c.first.ensures ∙ ap (option_map (λ p. (p.0, p.1.now))) c.in-Some-first.is in
    let first = first-of c.self.inside.table.rows c.args.ip.now c.in-Some.row home (queue_of c.args.ip.now (queues_of (heads c.self.inside.table.rows) c.self.inside.table.rows)) (home-items c.self.inside.table.rows c.args.ip.now c.in-Some.row home) in
    let addr = addr-of (slice_get c.self.inside.table.rows c.in-Some-find.at) (ip_at c.args.ip.now.path c.in-Some-first.number) c.addr.result.now c.in-Some-find.ensures.found c.addr.ensures in
    let waits = first-waits c.self.inside.table.rows c.args.ip.now c.in-Some.row home (c.in-Some-first.number, c.in-Some-first.item.now) in
    rw (← c.self.view_is, addr)
    (sym (first ∙ ap (option_map (waits_in home.row.at.path)) told ∙ ap Some waits))

pub returns-in-None-first : goal.returns-in-None-first
returns-in-None-first g c =
    let home : HomeAt {T = g.row.T.Denot} c.self.inside.table.rows c.args.ip.now c.in-Some.row = c.in-Some.ensures in
    let first = first-of c.self.inside.table.rows c.args.ip.now c.in-Some.row home (queue_of c.args.ip.now (queues_of (heads c.self.inside.table.rows) c.self.inside.table.rows)) (home-items c.self.inside.table.rows c.args.ip.now c.in-Some.row home) in
    let none : option_and_then (λ d. slice_get d.items 0) (slice_get c.self.inside.table.rows c.in-Some.row) ≡ None = sym c.first.ensures ∙ ap (option_map (λ p. (p.0, p.1.now))) c.in-None-first.is in
    rw (← c.self.view_is) (sym (first ∙ ap (option_map (waits_in home.row.at.path)) none))
