use Rattle.std.proofs.Common.{◌≡◌, ◌+◌, ◌-◌, ◌≤◌, None, vec_capacity, replicate}
use Rattle.link_ops.proofs.points.clear.Given as goal

abbrev pub invariant-loop-bucket : goal.invariant-loop-bucket
invariant-loop-bucket l = (l.heads.items ≡ replicate l.bucket None) × (vec_capacity l.heads ≡ vec_capacity l.initial.heads)
