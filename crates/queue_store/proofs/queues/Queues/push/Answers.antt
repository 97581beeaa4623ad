use Rattle.std.proofs.Common.{◌≡◌, ◌∙◌, ◌+◌, ◌++◌, ◌∷◌, [], subst, ℕ, sym, ap, arith, Some, None, length, rules, slice_get, true, false, is_some, refl, drop}
use Rattle.std.specs.Prelude.{option_and_then}
use Rattle.std.specs.Option.{option_map}
use Rattle.estelle_tree.specs.Queues.{waiting}
use Rattle.queue_store.specs.Rows.{Row, ip_at, put_last, first_taken}
use Rattle.queue_store.specs.Queues.{is_declared, queue_of, waiting_at, with_items}
use Rattle.queue_store.specs.Homes.{heads, queues_of, waits_in, Housed, AllFiled, AllBelow, HomeAt}
use Rattle.queue_store.proofs.HomeLaws.{home-at, home-items, home-declared, home-changed, home-heads, home-queues, home-filed, home-kept, among-none, count-heads, row-of, counted-at, get-heads}
use Rattle.queue_store.proofs.QueueLaws.{undeclared, no-items, total-queues, known-first, counted-waiting, home-get, home-within, put-queue, put-filed, taken-queue, taken-filed, first-of, first-item, first-declared, first-waits, counted-here, addr-of, item-of}
use Rattle.queue_store.proofs.queues.Queues.push.Goals as goal

pub unreachable-requires : goal.unreachable-requires
unreachable-requires g c =
    let missing = undeclared {T = g.row.T.Denot} c.self.inside.table.rows c.args.ip.now c.in-None.ensures in
    let there = rw (← c.self.view_is) at c.requires.declared in
    cc

pub invariant_of-self : goal.invariant_of-self
invariant_of-self g c =
    let home : HomeAt {T = g.row.T.Denot} c.self.inside.table.rows c.args.ip.now c.in-Some.row = c.in-Some.ensures in
    let f = put_last {T = g.row.T.Denot} c.args.ip.now.ip c.args.item in
    let same = home-heads c.self.inside.table.rows c.args.ip.now c.in-Some.row home f refl in
    rw c.append.ensures.rows (
      subst Housed (sym same) c.self.invariant.0,
      home-kept c.self.inside.table.rows c.args.ip.now c.in-Some.row home f refl c.self.invariant.1 (put-filed c.self.inside.table.rows c.args.ip.now c.in-Some.row home c.args.item (home-filed c.self.inside.table.rows c.args.ip.now c.in-Some.row home c.self.invariant.1)),
      subst (AllBelow c.self.inside.numbers) (sym same) c.self.invariant.2,
      c.self.invariant.3,
    )

pub returns-clause-queues : goal.returns-clause-queues
returns-clause-queues g c =
    let home : HomeAt {T = g.row.T.Denot} c.self.inside.table.rows c.args.ip.now c.in-Some.row = c.in-Some.ensures in
    rw (c.append.ensures.rows, ← c.self.view_is)
    (home-queues c.self.inside.table.rows c.args.ip.now c.in-Some.row home (put_last c.args.ip.now.ip c.args.item) (λ q. with_items (q.items ++ waiting_at c.args.ip.now c.args.item ∷ []) q) refl (put-queue c.self.inside.table.rows c.args.ip.now c.in-Some.row home c.args.item))
