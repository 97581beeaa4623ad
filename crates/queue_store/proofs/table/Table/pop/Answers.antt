use Rattle.std.proofs.Common.{◌≡◌, ◌∙◌, ◌+◌, ℕ, sym, ap, arith, Some, None, length, rules, slice_get, true, false, is_some, refl}
use Rattle.std.specs.Prelude.{option_and_then}
use Rattle.std.specs.Option.{option_map}
use Rattle.slab.specs.Slab.{slab_len}
use Rattle.slab.specs.Slab as slab
use Rattle.indexmap.proofs.CallerLemmas.{keys-with_value_at}
use Rattle.queue_store.specs.Chains.{load_in, next_in}
use Rattle.queue_store.specs.Table.{rows_of}
use Rattle.queue_store.proofs.ChainLaws.{Links, Unlinks}
use Rattle.queue_store.proofs.RowLaws.{appended, removed, empty-row, AllKept-set, load-some, node-of, place-last, place-first, place-len, place-items, place-row, length-rows}
use Rattle.queue_store.proofs.table.Table.pop.Goals as goal

pub returns-then-place-eq0-clause-rows : goal.returns-then-place-eq0-clause-rows
returns-then-place-eq0-clause-rows g c =
    rw (← c.self.view_is)
    (empty-row {T = g.row.T.Denot} (load_in c.self.inside.nodes) (next_in c.self.inside.nodes) (slab_len c.self.inside.nodes) c.place_at-place.result c.if-place-eq0.true c.self.inside.places.entries c.args.at c.place_at-place.ensures)

pub unlink_first-ip-requires-clause-filled : goal.unlink_first-ip-requires-clause-filled
unlink_first-ip-requires-clause-filled g c =
    load-some {T = g.row.T.Denot} (slab.get c.self.inside.nodes c.place_at-place.result.chain.first)
    (place-first (load_in c.self.inside.nodes) (next_in c.self.inside.nodes) (slab_len c.self.inside.nodes) c.place_at-place.result c.self.inside.places.entries c.args.at c.self.invariant.0 c.place_at-place.ensures (omega arith))

pub invariant_of-self : goal.invariant_of-self
invariant_of-self g c =
    let step = removed {T = g.row.T.Denot} (load_in c.self.inside.nodes) (next_in c.self.inside.nodes) (slab_len c.self.inside.nodes) c.place_at-place.result (load_in c.unlink_first-ip.new.nodes) (next_in c.unlink_first-ip.new.nodes) c.unlink_first-ip.result.0 (c.unlink_first-ip.result.1, c.unlink_first-ip.result.2)
    (slab_len c.unlink_first-ip.new.nodes) c.unlink_first-ip.ensures.len
    (record {
      had = c.unlink_first-ip.ensures.load;
      vacant = c.unlink_first-ip.ensures.vacant;
      loads = c.unlink_first-ip.ensures.loads;
      links = c.unlink_first-ip.ensures.links;
      first = c.unlink_first-ip.ensures.first;
      last = c.unlink_first-ip.ensures.last;
      one_less = c.unlink_first-ip.ensures.one_less;
    })
    c.self.inside.places.entries c.args.at c.place_at-place.ensures c.self.invariant.0 in
    rw c.put_place.ensures
    (step.0, AllKept-set _ _ _ c.self.invariant.1, rw keys-with_value_at c.self.invariant.2)

pub returns-clause-rows : goal.returns-clause-rows
returns-clause-rows g c =
    let step = removed {T = g.row.T.Denot} (load_in c.self.inside.nodes) (next_in c.self.inside.nodes) (slab_len c.self.inside.nodes) c.place_at-place.result (load_in c.unlink_first-ip.new.nodes) (next_in c.unlink_first-ip.new.nodes) c.unlink_first-ip.result.0 (c.unlink_first-ip.result.1, c.unlink_first-ip.result.2)
    (slab_len c.unlink_first-ip.new.nodes) c.unlink_first-ip.ensures.len
    (record {
      had = c.unlink_first-ip.ensures.load;
      vacant = c.unlink_first-ip.ensures.vacant;
      loads = c.unlink_first-ip.ensures.loads;
      links = c.unlink_first-ip.ensures.links;
      first = c.unlink_first-ip.ensures.first;
      last = c.unlink_first-ip.ensures.last;
      one_less = c.unlink_first-ip.ensures.one_less;
    })
    c.self.inside.places.entries c.args.at c.place_at-place.ensures c.self.invariant.0 in
    rw (c.put_place.ensures, ← c.self.view_is) step.1

pub returns-clause-item : goal.returns-clause-item
returns-clause-item g c =
    let step = removed {T = g.row.T.Denot} (load_in c.self.inside.nodes) (next_in c.self.inside.nodes) (slab_len c.self.inside.nodes) c.place_at-place.result (load_in c.unlink_first-ip.new.nodes) (next_in c.unlink_first-ip.new.nodes) c.unlink_first-ip.result.0 (c.unlink_first-ip.result.1, c.unlink_first-ip.result.2)
    (slab_len c.unlink_first-ip.new.nodes) c.unlink_first-ip.ensures.len
    (record {
      had = c.unlink_first-ip.ensures.load;
      vacant = c.unlink_first-ip.ensures.vacant;
      loads = c.unlink_first-ip.ensures.loads;
      links = c.unlink_first-ip.ensures.links;
      first = c.unlink_first-ip.ensures.first;
      last = c.unlink_first-ip.ensures.last;
      one_less = c.unlink_first-ip.ensures.one_less;
    })
    c.self.inside.places.entries c.args.at c.place_at-place.ensures c.self.invariant.0 in
    rw (← c.self.view_is) (sym step.2)
