use Rattle.std.proofs.Common.{◌≡◌, ◌-◌, Some, None}
use Rattle.slab.specs.Slab.{get}
use Rattle.link_ops.specs.Points as spec
use Rattle.link_ops.proofs.points.find.Given as goal

abbrev pub invariant-loop-step : goal.invariant-loop-step
invariant-loop-step l =
    spec.seek (get l.points.nodes) (l.points.steps - l.step) l.at l.ip
    ≡ spec.seek (get l.points.nodes) l.points.steps (spec.head l.points.heads.items l.ip) l.ip
