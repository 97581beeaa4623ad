use Rattle.std.proofs.Common.{◌≡◌, ℕ, ◌+◌, ◌<◌, ◌≤◌, List, length, Option, None, vec_capacity}
use Rattle.link_ops.specs.declared.pairs.Pairing.{Pairing}
use Rattle.link_ops.specs.declared.points.Points.{Points}
use Rattle.link_ops.specs.Pairs.{Tied, slot}
use Rattle.link_ops.specs.Pairs as spec
use Rattle.link_ops.proofs.pairs.pack.Given as goal

-- the places before this one have been packed
pub record Packing (p q : Points) (old new : List (Option Pairing)) (at end : ℕ) : Type 0 where
  pub tied : Tied q new
  pub room : q.room ≡ p.room
  pub len : length new ≡ length old
  pub links : spec.seen q new ≡ spec.seen p old
  pub gaps : (k : ℕ) → end ≤ k → k < at → slot new k ≡ None
  pub before : end ≤ at

abbrev pub invariant-loop-at : goal.invariant-loop-at
invariant-loop-at l = Packing l.initial.points l.points l.initial.pairs.items l.pairs.items l.at l.end × (vec_capacity l.pairs ≡ vec_capacity l.initial.pairs)
