use Rattle.std.proofs.Common.{◌≡◌, ◌≤◌, length, arith, sym, ◌∙◌, ap}
use Rattle.slab.specs.Slab.{get}
use Rattle.link_ops.specs.Points.{below}
use Rattle.link_ops.proofs.Rooms.{chained-same, all_below}
use Rattle.link_ops.proofs.points.relink.Goals as goal

pub returns-clause-chained : goal.returns-clause-chained
returns-clause-chained c =
    let n = c.loop-number.number in
    let inv = c.loop-number.invariant in
    let last = c.capacity-points.ensures in
    let e : n ≡ c.capacity-points.result = omega (arith, inv.capacity, last.value, c.capacity-slots.ensures.value) in
    rw (← e) (chained-same (below n c.loop-number.points) (get c.loop-number.points.nodes) c.loop-number.points.heads.items n (all_below c.loop-number.points n (omega (arith, last.slots, e))) inv.chained)
