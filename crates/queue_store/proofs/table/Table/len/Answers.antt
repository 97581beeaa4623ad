use Rattle.std.proofs.Common.{◌≡◌, ◌∙◌, ◌+◌, ℕ, sym, ap, arith, Some, None, length, rules, slice_get, true, false, is_some, refl}
use Rattle.std.specs.Prelude.{option_and_then}
use Rattle.std.specs.Option.{option_map}
use Rattle.slab.specs.Slab.{slab_len}
use Rattle.slab.specs.Slab as slab
use Rattle.indexmap.proofs.CallerLemmas.{keys-with_value_at}
use Rattle.queue_store.specs.Chains.{load_in, next_in}
use Rattle.queue_store.specs.Table.{rows_of}
use Rattle.queue_store.proofs.ChainLaws.{Links, Unlinks}
use Rattle.queue_store.proofs.RowLaws.{appended, removed, empty-row, AllKept-set, load-some, node-of, place-last, place-first, place-len, place-items, place-row, length-rows}
use Rattle.queue_store.proofs.table.Table.len.Goals as goal

pub returns : goal.returns
returns g c =
    let row = place-row {T = g.row.T.Denot} (load_in c.self.inside.nodes) (next_in c.self.inside.nodes) (slab_len c.self.inside.nodes) c.place_at.result c.self.inside.places.entries c.args.at c.place_at.ensures in
    let items = place-items {T = g.row.T.Denot} (load_in c.self.inside.nodes) (next_in c.self.inside.nodes) (slab_len c.self.inside.nodes) c.place_at.result c.self.inside.places.entries c.args.at c.self.invariant.0 c.place_at.ensures in
    rw (← c.self.view_is) (ap (option_map (λ d. length d.items)) row.1 ∙ ap Some items)
