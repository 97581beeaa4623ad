use Rattle.std.proofs.Common.{◌≡◌, ◌∙◌, ◌+◌, ℕ, sym, ap, arith, Some, None, length, rules, slice_get, true, false, is_some, refl}
use Rattle.std.specs.Prelude.{option_and_then}
use Rattle.std.specs.Option.{option_map, option_copied}
use Rattle.std.specs.Map.Iter.{deref_pair}
use Rattle.queue_store.specs.Keys.{same_key}
use Rattle.indexmap.proofs.CallerLemmas.{insert_entry-new}
use Rattle.queue_store.proofs.TableLaws.{count-none}
use Rattle.queue_store.specs.Chains.{load_of}
use Rattle.slab.specs.Slab.{slab_len}
use Rattle.slab.specs.Slab as slab
use Rattle.indexmap.proofs.CallerLemmas.{keys-with_value_at}
use Rattle.queue_store.specs.Chains.{load_in, next_in}
use Rattle.queue_store.specs.Table.{rows_of}
use Rattle.queue_store.proofs.ChainLaws.{Links, Unlinks}
use Rattle.queue_store.proofs.RowLaws.{appended, removed, empty-row, AllKept-set, load-some, node-of, place-last, place-first, place-len, place-items, place-row, length-rows, get-rows, kept-at, not-none, kept-is, first-held, total-rows, added-sound, added-rows, on-ok, AllKept-append}
use Rattle.queue_store.proofs.table.Table.first.Goals as goal

pub unreachable-requires : goal.unreachable-requires
unreachable-requires g c =
    let filled = place-first {T = g.row.T.Denot} (load_in c.self.inside.nodes) (next_in c.self.inside.nodes) (slab_len c.self.inside.nodes) c.place_at-place.result c.self.inside.places.entries c.args.at c.self.invariant.0 c.place_at-place.ensures (omega arith) in
    let none : slab.get c.self.inside.nodes c.place_at-place.result.chain.first ≡ None = sym c.get.ensures ∙ ap option_copied c.in-None.is in
    let vacant : is_some (load_in c.self.inside.nodes c.place_at-place.result.chain.first) ≡ false = ap (λ o. is_some (load_of o)) none in
    cc

pub returns : goal.returns
returns g c =
    let row = place-row {T = g.row.T.Denot} (load_in c.self.inside.nodes) (next_in c.self.inside.nodes) (slab_len c.self.inside.nodes) c.place_at-place.result c.self.inside.places.entries c.args.at c.place_at-place.ensures in
    let node : slab.get c.self.inside.nodes c.place_at-place.result.chain.first ≡ Some c.in-Some.node.now = sym c.get.ensures ∙ ap option_copied c.in-Some.is in
    let first = first-held (load_in c.self.inside.nodes) (next_in c.self.inside.nodes) c.place_at-place.result.chain (c.in-Some.node.now.ip, c.in-Some.node.now.item) (omega arith) (ap load_of node) in
    rw (← c.self.view_is) (sym (ap (option_and_then (λ d. slice_get d.items 0)) row.1 ∙ first))
