use Rattle.std.proofs.Common.{◌≡◌, ◌∙◌, ◌-◌, ℕ, sym, ap, arith, Some, count_by, nat_eq}
use Rattle.std.specs.Option.{option_map}
use Rattle.slab.specs.Slab.{slab_len}
use Rattle.queue_store.specs.Chains.{load_in, next_in, loaded_at}
use Rattle.queue_store.proofs.TableLaws.{bit}
use Rattle.queue_store.proofs.RowLaws.{counted, count-step, place-row}
use Rattle.queue_store.proofs.table.Table.count.Goals as goal
use Rattle.queue_store.proofs.table.Table.count.Goals.{then-found, else-found}

pub loop-i-preserved : goal.loop-i-preserved
loop-i-preserved g c =
    let load = load_in c.self.inside.nodes in
    let next = next_in c.self.inside.nodes in
    let split = count-step {T = g.row.T.Denot} load next c.args.ip c.place_at.result.chain.len c.loop-i.i c.loop-i.slot c.loop-i-test.true in
    elim c.if-found.branch [
      | then-found w ↦
          let one : bit (loaded_at c.args.ip (load c.loop-i.slot)) ≡ 1 = ap bit (sym c.step_at-found.ensures.found ∙ w.if-found.true) in
          record {
            so_far = rw c.step_at-found.ensures.next (omega (arith, split, one, w.count-is, c.loop-i.invariant.so_far));
            below = omega (arith, w.count-is, c.loop-i.invariant.below);
          }
      | else-found w ↦
          let none : bit (loaded_at c.args.ip (load c.loop-i.slot)) ≡ 0 = ap bit (sym c.step_at-found.ensures.found ∙ w.if-found.false) in
          record {
            so_far = rw c.step_at-found.ensures.next (omega (arith, split, none, w.count-is, c.loop-i.invariant.so_far));
            below = omega (arith, w.count-is, c.loop-i.invariant.below);
          }
    ]

pub returns : goal.returns
returns g c =
    let over : c.place_at.result.chain.len - c.loop-i.i ≡ 0 = omega (arith, c.loop-i-test.false) in
    let whole = rw over at c.loop-i.invariant.so_far in
    let row = place-row {T = g.row.T.Denot} (load_in c.self.inside.nodes) (next_in c.self.inside.nodes) (slab_len c.self.inside.nodes) c.place_at.result c.self.inside.places.entries c.args.at c.place_at.ensures in
    rw (← c.self.view_is) (ap (option_map (λ d. count_by (λ x. nat_eq x.0 c.args.ip) d.items)) row.1 ∙ ap Some (omega (arith, whole)))
