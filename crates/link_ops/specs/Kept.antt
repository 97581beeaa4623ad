-- What the links are kept as.
use Rattle.std.specs.Prelude.{◌≡◌, ℕ, ◌+◌, ◌*◌, ◌≤◌, length, vec_capacity}
use Rattle.link_ops.specs.declared.links.Links.TheInside.{Inside}
use Rattle.link_ops.specs.Linked.{LinkList}
use Rattle.link_ops.specs.Pairs.{Tied, seen}

abbrev pub seen_as : Inside → LinkList
seen_as l = record { links = seen l.points l.pairs.items; spare = l.spare }

pub record Kept (l : Inside) : Type 0 where
  pub tied : Tied l.points l.pairs.items
  pub room : 2 * l.spare ≤ l.points.room
  pub memory : length l.pairs.items + l.spare ≤ vec_capacity l.pairs
  pub count : l.count ≡ length (seen l.points l.pairs.items)
