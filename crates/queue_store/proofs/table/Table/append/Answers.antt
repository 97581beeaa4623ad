use Rattle.std.proofs.Common.{◌≡◌, ◌∙◌, ◌+◌, ℕ, sym, ap, arith, Some, None, length, rules, slice_get, true, false, is_some, refl}
use Rattle.std.specs.Prelude.{option_and_then}
use Rattle.std.specs.Option.{option_map}
use Rattle.slab.specs.Slab.{slab_len}
use Rattle.slab.specs.Slab as slab
use Rattle.indexmap.proofs.CallerLemmas.{keys-with_value_at}
use Rattle.queue_store.specs.Chains.{load_in, next_in}
use Rattle.queue_store.specs.Table.{rows_of}
use Rattle.queue_store.proofs.ChainLaws.{Links, Unlinks}
use Rattle.queue_store.proofs.RowLaws.{appended, removed, empty-row, AllKept-set, load-some, node-of, place-last, place-first, place-len, place-items, place-row, length-rows}
use Rattle.queue_store.proofs.table.Table.append.Goals as goal

pub link_last-chain-requires-clause-filled : goal.link_last-chain-requires-clause-filled
link_last-chain-requires-clause-filled g c = λ some.
    load-some {T = g.row.T.Denot} (slab.get c.self.inside.nodes c.place_at-place.result.chain.last)
    (place-last (load_in c.self.inside.nodes) (next_in c.self.inside.nodes) (slab_len c.self.inside.nodes) c.place_at-place.result c.self.inside.places.entries c.args.at c.self.invariant.0 c.place_at-place.ensures some)

pub link_last-chain-requires-clause-len : goal.link_last-chain-requires-clause-len
link_last-chain-requires-clause-len g c = place-len {T = g.row.T.Denot} (load_in c.self.inside.nodes) (next_in c.self.inside.nodes) (slab_len c.self.inside.nodes) c.place_at-place.result c.self.inside.places.entries c.args.at c.self.invariant.0 c.place_at-place.ensures

pub invariant_of-self : goal.invariant_of-self
invariant_of-self g c =
    let step = appended {T = g.row.T.Denot} (load_in c.self.inside.nodes) (next_in c.self.inside.nodes) (slab_len c.self.inside.nodes) c.place_at-place.result (load_in c.link_last-chain.new.nodes) (next_in c.link_last-chain.new.nodes) c.link_last-chain.result (c.args.ip, c.args.item)
    (record {
      vacant = c.link_last-chain.ensures.vacant;
      put = c.link_last-chain.ensures.load;
      loads = c.link_last-chain.ensures.loads;
      link = c.link_last-chain.ensures.link;
      links = c.link_last-chain.ensures.links;
      one_more = c.link_last-chain.ensures.one_more;
      first = c.link_last-chain.ensures.first;
    })
    c.self.inside.places.entries c.args.at c.place_at-place.ensures c.self.invariant.0 in
    rw (c.put_place.ensures, c.link_last-chain.ensures.len)
    (step.0, AllKept-set _ _ _ c.self.invariant.1, rw keys-with_value_at c.self.invariant.2)

pub returns-clause-rows : goal.returns-clause-rows
returns-clause-rows g c =
    let step = appended {T = g.row.T.Denot} (load_in c.self.inside.nodes) (next_in c.self.inside.nodes) (slab_len c.self.inside.nodes) c.place_at-place.result (load_in c.link_last-chain.new.nodes) (next_in c.link_last-chain.new.nodes) c.link_last-chain.result (c.args.ip, c.args.item)
    (record {
      vacant = c.link_last-chain.ensures.vacant;
      put = c.link_last-chain.ensures.load;
      loads = c.link_last-chain.ensures.loads;
      link = c.link_last-chain.ensures.link;
      links = c.link_last-chain.ensures.links;
      one_more = c.link_last-chain.ensures.one_more;
      first = c.link_last-chain.ensures.first;
    })
    c.self.inside.places.entries c.args.at c.place_at-place.ensures c.self.invariant.0 in
    rw (c.put_place.ensures, ← c.self.view_is) step.1
