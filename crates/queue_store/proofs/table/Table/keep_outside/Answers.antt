use Rattle.std.proofs.Common.{◌≡◌, rules, filter}
use Rattle.slab.specs.Slab.{slab_len}
use Rattle.indexmap.proofs.CallerLemmas.{filter-RetainsPairs}
use Rattle.queue_store.specs.Chains.{load_in, next_in}
use Rattle.queue_store.proofs.RowLaws.{outside, outside-rows, outside-kept, outside-sound}
use Rattle.queue_store.proofs.table.Table.keep_outside.Goals as goal

pub invariant_of-self : goal.invariant_of-self
invariant_of-self g c =
    let load = load_in c.self.inside.nodes in
    let next = next_in c.self.inside.nodes in
    let es = c.self.inside.places.entries in
    let kept : c.retain.new.self.entries ≡ filter (outside {T = g.row.T.Denot} load next c.args.path.now) es =
    filter-RetainsPairs _ _ _ (λ k v b w f call. search rules) _ _ c.retain.ensures.filtered in
    let none = rw (← c.self.view_is) at c.requires in (
      rw kept (outside-sound {T = g.row.T.Denot} load next c.args.path.now (slab_len c.self.inside.nodes) es c.self.invariant.0 none),
      rw kept (outside-kept {T = g.row.T.Denot} load next c.args.path.now es c.self.invariant.1),
      c.retain.ensures.unique,
    )

pub returns-clause-rows : goal.returns-clause-rows
returns-clause-rows g c =
    let load = load_in c.self.inside.nodes in
    let next = next_in c.self.inside.nodes in
    let es = c.self.inside.places.entries in
    let kept : c.retain.new.self.entries ≡ filter (outside {T = g.row.T.Denot} load next c.args.path.now) es =
    filter-RetainsPairs _ _ _ (λ k v b w f call. search rules) _ _ c.retain.ensures.filtered in
    rw (kept, ← c.self.view_is) (outside-rows {T = g.row.T.Denot} load next c.args.path.now es)
