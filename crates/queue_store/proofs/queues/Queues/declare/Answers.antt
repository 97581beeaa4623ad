use Rattle.std.proofs.Common.{◌≡◌, ◌∙◌, ◌+◌, ◌++◌, ◌∷◌, [], subst, ℕ, sym, ap, arith, Some, None, length, rules, slice_get, true, false, is_some, refl, drop}
use Rattle.std.specs.Prelude.{option_and_then}
use Rattle.std.specs.Option.{option_map}
use Rattle.estelle_tree.specs.Queues.{waiting}
use Rattle.queue_store.specs.Rows.{Row, ip_at, put_last, first_taken}
use Rattle.queue_store.specs.Queues.{is_declared, queue_of, waiting_at, with_items}
use Rattle.queue_store.specs.Homes.{heads, queues_of, waits_in, Housed, AllFiled, AllBelow, HomeAt}
use Rattle.queue_store.proofs.HomeLaws.{home-at, home-items, home-declared, home-changed, home-heads, home-queues, home-filed, home-kept, among-none, count-heads, row-of, counted-at, get-heads}
use Rattle.queue_store.proofs.QueueLaws.{undeclared, no-items, total-queues, known-first, counted-waiting, home-get, home-within, put-queue, put-filed, taken-queue, taken-filed, first-of, first-item, first-declared, first-waits, counted-here, addr-of, item-of}
use Rattle.std.specs.Option.{unwrap_or}
use Rattle.queue_store.proofs.DeclareLaws.{fresh-of, declared-all, declared-kept}
use Rattle.queue_store.proofs.queues.Queues.declare.Goals as goal
use Rattle.queue_store.proofs.queues.Queues.declare.Goals.{then-common, else-common}

pub add-requires-clause-fresh : goal.add-requires-clause-fresh
add-requires-clause-fresh g c =
    let absent = rw (← c.self.view_is) at c.requires.fresh in
    fresh-of {T = g.row.T.Denot} c.self.inside.table.rows c.args.ip c.self.invariant.0 absent

pub invariant_of-self : goal.invariant_of-self
invariant_of-self g c =
    let fresh = fresh-of {T = g.row.T.Denot} c.self.inside.table.rows c.args.ip c.self.invariant.0 (rw (← c.self.view_is) at c.requires.fresh) in
    let all = declared-all {T = g.row.T.Denot} c.self.inside.table.rows c.args.ip c.self.invariant.0 fresh c.args.common c.if-common.home
    (elim c.if-common.branch [
      | then-common w ↦ λ h. w.home-is ∙ w.common_home-home.ensures
      | else-common w ↦ λ h. let clash : true ≡ false = sym h ∙ w.if-common.false in absurd (cc)
    ])
    (elim c.if-common.branch [
      | then-common w ↦ λ h. let clash : true ≡ false = sym w.if-common.true ∙ h in absurd (cc)
      | else-common w ↦ λ h. w.home-is
    ]) in
    let kept = declared-kept {T = g.row.T.Denot} c.self.inside.table.rows c.args.ip c.self.invariant.0 fresh c.args.common (unwrap_or c.if-common.home c.args.ip.ip) c.self.inside.numbers c.raised-self-inside.result
    all.1 c.self.invariant.1 c.self.invariant.2 c.raised-self-inside.ensures.kept c.raised-self-inside.ensures.above in
    rw (c.add.ensures.rows, c.unwrap_or.ensures)
    (kept.0, kept.1, kept.2, c.raised-self-inside.ensures.narrow)

pub returns-clause-queues : goal.returns-clause-queues
returns-clause-queues g c =
    let fresh = fresh-of {T = g.row.T.Denot} c.self.inside.table.rows c.args.ip c.self.invariant.0 (rw (← c.self.view_is) at c.requires.fresh) in
    let all = declared-all {T = g.row.T.Denot} c.self.inside.table.rows c.args.ip c.self.invariant.0 fresh c.args.common c.if-common.home
    (elim c.if-common.branch [
      | then-common w ↦ λ h. w.home-is ∙ w.common_home-home.ensures
      | else-common w ↦ λ h. let clash : true ≡ false = sym h ∙ w.if-common.false in absurd (cc)
    ])
    (elim c.if-common.branch [
      | then-common w ↦ λ h. let clash : true ≡ false = sym w.if-common.true ∙ h in absurd (cc)
      | else-common w ↦ λ h. w.home-is
    ]) in
    rw (c.add.ensures.rows, c.unwrap_or.ensures, ← c.self.view_is) all.0
