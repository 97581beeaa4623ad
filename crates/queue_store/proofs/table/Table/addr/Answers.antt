use Rattle.std.proofs.Common.{◌≡◌, ◌∙◌, ◌+◌, ℕ, sym, ap, arith, Some, None, length, rules, slice_get, true, false, is_some, refl}
use Rattle.std.specs.Prelude.{option_and_then}
use Rattle.std.specs.Option.{option_map, option_copied}
use Rattle.std.specs.Map.Iter.{deref_pair}
use Rattle.queue_store.specs.Keys.{same_key}
use Rattle.indexmap.proofs.CallerLemmas.{insert_entry-new}
use Rattle.queue_store.proofs.TableLaws.{count-none}
use Rattle.queue_store.specs.Chains.{load_of}
use Rattle.slab.specs.Slab.{slab_len}
use Rattle.slab.specs.Slab as slab
use Rattle.indexmap.proofs.CallerLemmas.{keys-with_value_at}
use Rattle.queue_store.specs.Chains.{load_in, next_in}
use Rattle.queue_store.specs.Table.{rows_of}
use Rattle.queue_store.proofs.ChainLaws.{Links, Unlinks}
use Rattle.queue_store.proofs.RowLaws.{appended, removed, empty-row, AllKept-set, load-some, node-of, place-last, place-first, place-len, place-items, place-row, length-rows, get-rows, kept-at, not-none, kept-is, first-held, total-rows, added-sound, added-rows, on-ok, AllKept-append}
use Rattle.queue_store.proofs.table.Table.addr.Goals as goal

pub unreachable-requires : goal.unreachable-requires
unreachable-requires g c =
    let entry : slice_get c.self.inside.places.entries c.args.at ≡ Some (c.in-Some.key.now, c.in-Some.field-0-1.now) = sym c.get_index.ensures.entry ∙ ap (option_map deref_pair) c.in-Some.is in
    not-none c.kept.result c.in-Some.key.now (kept-at c.self.inside.places.entries c.args.at c.in-Some.key.now c.in-Some.field-0-1.now c.self.invariant.1 entry) c.kept.ensures c.in-None-kept.is

pub returns : goal.returns
returns g c =
    let entry : slice_get c.self.inside.places.entries c.args.at ≡ Some (c.in-Some.key.now, c.in-Some.field-0-1.now) = sym c.get_index.ensures.entry ∙ ap (option_map deref_pair) c.in-Some.is in
    let row = get-rows {T = g.row.T.Denot} (load_in c.self.inside.nodes) (next_in c.self.inside.nodes) c.self.inside.places.entries c.args.at c.in-Some.key.now c.in-Some.field-0-1.now entry in
    let same = kept-is c.kept.result c.in-Some.key.now c.in-Some-kept.ip (kept-at c.self.inside.places.entries c.args.at c.in-Some.key.now c.in-Some.field-0-1.now c.self.invariant.1 entry) c.kept.ensures c.in-Some-kept.is in
    rw (← c.self.view_is) (ap (option_map (λ d. d.at)) row ∙ ap Some same)
