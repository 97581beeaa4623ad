use Rattle.std.proofs.Common.{◌≡◌, ◌∙◌, ◌+◌, ◌++◌, ◌∷◌, [], subst, ℕ, sym, ap, arith, Some, None, length, rules, slice_get, true, false, is_some, refl, drop}
use Rattle.std.specs.Prelude.{option_and_then}
use Rattle.std.specs.Option.{option_map}
use Rattle.estelle_tree.specs.Queues.{waiting}
use Rattle.queue_store.specs.Rows.{Row, ip_at, put_last, first_taken}
use Rattle.queue_store.specs.Queues.{is_declared, queue_of, waiting_at, with_items}
use Rattle.queue_store.specs.Homes.{heads, queues_of, waits_in, Housed, AllFiled, AllBelow, HomeAt}
use Rattle.queue_store.proofs.HomeLaws.{home-at, home-items, home-declared, home-changed, home-heads, home-queues, home-filed, home-kept, among-none, count-heads, row-of, counted-at, get-heads}
use Rattle.queue_store.proofs.QueueLaws.{undeclared, no-items, total-queues, known-first, counted-waiting, home-get, home-within, put-queue, put-filed, taken-queue, taken-filed, first-of, first-item, first-declared, first-waits, counted-here, addr-of, item-of}
use Rattle.queue_store.proofs.queues.home_of.Goals as goal

pub returns-in-Some : goal.returns-in-Some
returns-in-Some g c =
    home-at {T = g.row.T.Denot} c.args.table.now.rows c.args.ip.now c.requires c.find.ensures.unique
    c.in-Some.row c.in-Some.ensures.found c.home.result c.home.ensures c.find-in-Some.result c.find-in-Some.ensures.found
