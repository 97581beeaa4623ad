-- Which links may stand together (ISO/IEC 9074: connect, attach).
use Rattle.std.specs.Prelude.{◌≡◌, ◌≤◌, ℕ, ◌||◌, IsTrue, List, count_by, Contains}
use Rattle.estelle_tree.specs.declared.link.IpAddr.{IpAddr}
use Rattle.estelle_tree.specs.declared.link.LinkKind.{LinkKind}
use Rattle.estelle_tree.specs.declared.link.LinkKind.TheVariants.{Connection, Attachment}
use Rattle.estelle_tree.specs.declared.link.Link.{Link}
use Rattle.estelle_tree.specs.Paths.{Path, child}
use Rattle.estelle_tree.specs.Links.{joins, is_upper_of, is_lower_of}
use Rattle.estelle_model.specs.Core.{Instances}
use Rattle.estelle_model.specs.Subject.{Subject}
use Rattle.estelle_model.specs.InteractionPoints.{may_connect, may_attach}
use Rattle.estelle_model.specs.Jobs.{IsOwnOrChild}

-- some instance may connect its ends, each of which is its own or a child's; or they are external points of an instance and of its child
abbrev pub MayLinkAs : Subject → Instances → LinkKind → IpAddr → IpAddr → Type 0
MayLinkAs s instances Connection a b = (m : Path) × IsOwnOrChild m a.path × IsOwnOrChild m b.path × IsTrue (may_connect s instances m a b)
MayLinkAs s instances Attachment a b = (k : ℕ) × (b.path ≡ child a.path k) × IsTrue (may_attach s instances a b)

-- each link has ends that are there and may be linked so; a point is in at most one connection or the lower end of at most one attachment, and the upper end of at most one
pub record MayBeLinked (s : Subject) (instances : Instances) (links : List Link) : Type 0 where
  pub each : (l : Link) → Contains links l → MayLinkAs s instances l.kind l.first l.second
  pub bound_once : (a : IpAddr) → count_by (λ l. joins a l || is_lower_of a l) links ≤ 1
  pub upper_once : (a : IpAddr) → count_by (is_upper_of a) links ≤ 1
