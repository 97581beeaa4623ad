use Rattle.std.proofs.Common.{◌≡◌, ◌-◌}
use Rattle.link_ops.specs.Pairs as spec
use Rattle.link_ops.proofs.pairs.walk.Given as goal

abbrev pub invariant-loop-taken : goal.invariant-loop-taken
invariant-loop-taken l =
    spec.walked (spec.next_of l.points l.pairs l.role) (l.steps - l.taken) l.at
    ≡ spec.walked (spec.next_of l.points l.pairs l.role) l.steps l.number
