use Rattle.std.proofs.Common.{◌≡◌, ◌∙◌, ◌+◌, ℕ, sym, ap, arith, Some, None, length, rules, slice_get, true, false, is_some, refl}
use Rattle.std.specs.Prelude.{option_and_then}
use Rattle.std.specs.Option.{option_map, option_copied}
use Rattle.std.specs.Map.Iter.{deref_pair}
use Rattle.queue_store.specs.Keys.{same_key}
use Rattle.indexmap.proofs.CallerLemmas.{insert_entry-new}
use Rattle.queue_store.proofs.TableLaws.{count-none}
use Rattle.queue_store.specs.Chains.{load_of}
use Rattle.slab.specs.Slab.{slab_len}
use Rattle.slab.specs.Slab as slab
use Rattle.indexmap.proofs.CallerLemmas.{keys-with_value_at}
use Rattle.queue_store.specs.Chains.{load_in, next_in}
use Rattle.queue_store.specs.Table.{rows_of}
use Rattle.queue_store.proofs.ChainLaws.{Links, Unlinks}
use Rattle.queue_store.proofs.RowLaws.{appended, removed, empty-row, AllKept-set, load-some, node-of, place-last, place-first, place-len, place-items, place-row, length-rows, get-rows, kept-at, not-none, kept-is, first-held, total-rows, added-sound, added-rows, on-ok, AllKept-append}
use Rattle.queue_store.proofs.table.Table.add.Goals as goal

pub invariant_of-self : goal.invariant_of-self
invariant_of-self g c =
    let room = rw (← c.self.view_is) at c.requires.room in
    let fresh = rw (← c.self.view_is) at c.requires.fresh in
    let entries = on-ok c.insert.result _ (c.insert.ensures.succeeds room) c.insert.ensures.entries in
    let absent = count-none {T = g.row.T.Denot} (load_in c.self.inside.nodes) (next_in c.self.inside.nodes) c.args.ip c.self.inside.places.entries fresh in
    let key = c.keep.ensures in
    let last = rw key at entries in
    let whole = last ∙ insert_entry-new same_key c.self.inside.places (record { at = c.args.ip; kept = true }) (record { common = c.args.common; home = c.args.home; chain = record { first = 0; last = 0; len = 0 } }) absent in (
      rw whole (added-sound {T = g.row.T.Denot} (load_in c.self.inside.nodes) (next_in c.self.inside.nodes) (slab_len c.self.inside.nodes) c.self.inside.places.entries (record { at = c.args.ip; kept = true }) (record { common = c.args.common; home = c.args.home; chain = record { first = 0; last = 0; len = 0 } }) refl c.self.invariant.0),
      rw whole (AllKept-append _ _ c.self.invariant.1 (refl, tt)),
      c.insert.ensures.unique,
    )

pub returns-clause-rows : goal.returns-clause-rows
returns-clause-rows g c =
    let room = rw (← c.self.view_is) at c.requires.room in
    let fresh = rw (← c.self.view_is) at c.requires.fresh in
    let entries = on-ok c.insert.result _ (c.insert.ensures.succeeds room) c.insert.ensures.entries in
    let absent = count-none {T = g.row.T.Denot} (load_in c.self.inside.nodes) (next_in c.self.inside.nodes) c.args.ip c.self.inside.places.entries fresh in
    let key = c.keep.ensures in
    let last = rw key at entries in
    let whole = last ∙ insert_entry-new same_key c.self.inside.places (record { at = c.args.ip; kept = true }) (record { common = c.args.common; home = c.args.home; chain = record { first = 0; last = 0; len = 0 } }) absent in
    rw (whole, ← c.self.view_is) (added-rows {T = g.row.T.Denot} (load_in c.self.inside.nodes) (next_in c.self.inside.nodes) c.self.inside.places.entries (record { at = c.args.ip; kept = true }) (record { common = c.args.common; home = c.args.home; chain = record { first = 0; last = 0; len = 0 } }) refl)
