use Rattle.std.proofs.Common.{◌≡◌, ◌∙◌, ◌+◌, ◌++◌, ◌∷◌, [], subst, ℕ, sym, ap, arith, Some, None, length, rules, slice_get, true, false, is_some, refl, drop}
use Rattle.std.specs.Prelude.{option_and_then}
use Rattle.std.specs.Option.{option_map}
use Rattle.estelle_tree.specs.Queues.{waiting}
use Rattle.queue_store.specs.Rows.{Row, ip_at, put_last, first_taken}
use Rattle.queue_store.specs.Queues.{is_declared, queue_of, waiting_at, with_items}
use Rattle.queue_store.specs.Homes.{heads, queues_of, waits_in, Housed, AllFiled, AllBelow, HomeAt}
use Rattle.queue_store.proofs.HomeLaws.{home-at, home-items, home-declared, home-changed, home-heads, home-queues, home-filed, home-kept, among-none, count-heads, row-of, counted-at, get-heads}
use Rattle.queue_store.proofs.QueueLaws.{undeclared, no-items, total-queues, known-first, counted-waiting, home-get, home-within, put-queue, put-filed, taken-queue, taken-filed, first-of, first-item, first-declared, first-waits, counted-here, addr-of, item-of}
use Rattle.queue_store.proofs.queues.Queues.take.Goals as goal
use Rattle.queue_store.proofs.queues.Queues.take.Goals.{in-Some-pop, in-None-pop}

pub unreachable-requires : goal.unreachable-requires
unreachable-requires g c =
    let missing = undeclared {T = g.row.T.Denot} c.self.inside.table.rows c.args.ip.now c.in-None.ensures in
    let there = rw (← c.self.view_is) at c.requires in
    cc

pub invariant_of-self : goal.invariant_of-self
invariant_of-self g c =
    let home : HomeAt {T = g.row.T.Denot} c.self.inside.table.rows c.args.ip.now c.in-Some.row = c.in-Some.ensures in
    let same = home-heads c.self.inside.table.rows c.args.ip.now c.in-Some.row home (first_taken {T = g.row.T.Denot}) refl in
    rw c.pop.ensures.rows (
      subst Housed (sym same) c.self.invariant.0,
      home-kept c.self.inside.table.rows c.args.ip.now c.in-Some.row home first_taken refl c.self.invariant.1 (taken-filed c.self.inside.table.rows c.args.ip.now c.in-Some.row home (home-filed c.self.inside.table.rows c.args.ip.now c.in-Some.row home c.self.invariant.1)),
      subst (AllBelow c.self.inside.numbers) (sym same) c.self.invariant.2,
      c.self.invariant.3,
    )

pub returns-clause-queues : goal.returns-clause-queues
returns-clause-queues g c =
    let home : HomeAt {T = g.row.T.Denot} c.self.inside.table.rows c.args.ip.now c.in-Some.row = c.in-Some.ensures in
    rw (c.pop.ensures.rows, ← c.self.view_is)
    (home-queues c.self.inside.table.rows c.args.ip.now c.in-Some.row home first_taken (λ q. with_items (drop 1 q.items) q) refl (taken-queue c.self.inside.table.rows c.args.ip.now c.in-Some.row home))

pub returns-clause-item : goal.returns-clause-item
returns-clause-item g c =
    let home : HomeAt {T = g.row.T.Denot} c.self.inside.table.rows c.args.ip.now c.in-Some.row = c.in-Some.ensures in
    let first = first-of c.self.inside.table.rows c.args.ip.now c.in-Some.row home (queue_of c.args.ip.now (queues_of (heads c.self.inside.table.rows) c.self.inside.table.rows)) (home-items c.self.inside.table.rows c.args.ip.now c.in-Some.row home) in
    let whole : option_map (λ w. w.item) (slice_get (queue_of c.args.ip.now (queues_of (heads c.self.inside.table.rows) c.self.inside.table.rows)) 0) ≡ option_map (λ x. x.1) c.pop.result =
    ap (option_map (λ w. w.item)) first ∙ item-of home.row.at.path _ ∙ ap (option_map (λ x. x.1)) (sym c.pop.ensures.item) in
    rw (← c.self.view_is)
    (elim c.match-pop.branch [
      | in-Some-pop w ↦ w.result-is ∙ sym (whole ∙ ap (option_map (λ x. x.1)) w.in-Some-pop.is)
      | in-None-pop w ↦ w.result-is ∙ sym (whole ∙ ap (option_map (λ x. x.1)) w.in-None-pop.is)
    ])
