-- What the links of interaction points are to one another (ISO/IEC 9074).
use Rattle.std.specs.Prelude.{◌≡◌, ◌≢◌, ℕ, ◌≤◌, Bool, false, ◌||◌, is_some, List, Option, None, count_by}
use Rattle.std.specs.List.{All}
use Rattle.estelle_tree.specs.declared.link.IpAddr.{IpAddr}
use Rattle.estelle_tree.specs.declared.link.Link.{Link}
use Rattle.estelle_tree.specs.Paths.{Path, child}
use Rattle.estelle_tree.specs.Links.{joins, is_upper_of, is_lower_of, is_connection, peer, above}

-- links in order, and for how many more there is memory
pub record LinkList : Type 0 where
  pub links : List Link
  pub spare : ℕ

-- the interaction point is in a connection, or the lower end of an attachment
abbrev pub is_bound : List Link → IpAddr → Bool
is_bound links a = is_some (peer links a) || is_some (above links a)

abbrev pub IsChild : Path → Path → Type 0
IsChild p q = (k : ℕ) × (q ≡ child p k)

-- an attachment goes from an instance to its child
abbrev pub GoesDown : Link → Type 0
GoesDown l = is_connection l.kind ≡ false → IsChild l.first.path l.second.path

-- attachments go down, and an interaction point is in at most one connection or the lower end of at most one
-- attachment, not both, and is the upper end of at most one
pub record AreProper (links : List Link) : Type 0 where
  pub down : All GoesDown links
  pub bound_once : (a : IpAddr) → count_by (λ l. joins a l || is_lower_of a l) links ≤ 1
  pub upper_once : (a : IpAddr) → count_by (is_upper_of a) links ≤ 1
