use Rattle.std.proofs.Common.{◌≡◌, ◌+◌, ℕ, length, ◌≤◌}
use Rattle.slab.specs.Slab.{get, slab_len}
use Rattle.link_ops.specs.declared.points.Role.{Role}
use Rattle.link_ops.specs.declared.points.Points.{Points}
use Rattle.link_ops.specs.Points.{AreChained, AreApart, below, point, link_at}
use Rattle.link_ops.proofs.points.relink.Given as goal

pub record Linking (initial now : Points) (number : ℕ) : Type 0 where
  pub chained : AreChained (below number now) now.heads.items number
  pub apart : AreApart now
  pub points : (k : ℕ) → point now k ≡ point initial k
  pub links : (k : ℕ) (r : Role) → link_at now k r ≡ link_at initial k r
  pub heads : length now.heads.items ≡ length initial.heads.items
  pub len : slab_len now.nodes ≡ slab_len initial.nodes
  pub capacity : now.nodes.capacity ≡ initial.nodes.capacity
  pub room : now.room ≡ initial.room

abbrev pub invariant-loop-number : goal.invariant-loop-number
invariant-loop-number l = Linking l.initial.points l.points l.number
