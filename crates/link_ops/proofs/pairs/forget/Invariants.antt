use Rattle.std.proofs.Common.{◌≡◌, ℕ, ◌+◌, ◌<◌, ◌≤◌, Bool, true, List, length, Option, Some, vec_capacity, not}
use Rattle.std.specs.List.{filter}
use Rattle.estelle_tree.specs.declared.link.Link.{Link}
use Rattle.estelle_tree.specs.Links.{touches}
use Rattle.estelle_tree.specs.Paths.{Path}
use Rattle.link_ops.specs.declared.pairs.Pairing.{Pairing}
use Rattle.link_ops.specs.declared.points.Points.{Points}
use Rattle.link_ops.specs.Pairs.{Tied, seen, slot, link_of}
use Rattle.link_ops.proofs.pairs.forget.Given as goal

abbrev pub stays : Path → Link → Bool
stays p l = not (touches p l)

-- the links before this place have been judged
pub record Forgetting (path : Path) (p q : Points) (old new : List (Option Pairing)) (at gone : ℕ) : Type 0 where
  pub tied : Tied q new
  pub room : q.room ≡ p.room
  pub len : length new ≡ length old
  pub links : filter (stays path) (seen q new) ≡ filter (stays path) (seen p old)
  pub judged : (j : ℕ) (y : Pairing) → j < at → slot new j ≡ Some y → stays path (link_of q y) ≡ true
  pub removed : length (seen q new) + gone ≡ length (seen p old)
  pub few : gone ≤ at

abbrev pub invariant-loop-at : goal.invariant-loop-at
invariant-loop-at l = Forgetting l.path l.initial.points l.points l.initial.pairs.items l.pairs.items l.at l.removed × (vec_capacity l.pairs ≡ vec_capacity l.initial.pairs)
