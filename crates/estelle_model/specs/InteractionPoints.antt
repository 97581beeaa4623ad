-- Which interaction points may be linked, and what each may send and receive (ISO/IEC 9074: channels, connect, attach).
use Rattle.std.specs.Prelude.{ℕ, Bool, true, false, not, ◌&&◌, ◌||◌, nat_eq, if◌then◌else◌, slice_get, Option, Some, None}
use Rattle.std.specs.FinMap as map
use Rattle.std.specs.Str.{bytes_eq}
use Rattle.estelle_tree.specs.declared.link.IpAddr.{IpAddr}
use Rattle.estelle_tree.specs.Paths.{Path}
use Rattle.estelle_model.specs.declared.meaning.Role.{Role}
use Rattle.estelle_model.specs.declared.meaning.Role.TheVariants.{First, Second}
use Rattle.estelle_model.specs.declared.meaning.Senders.{Senders}
use Rattle.estelle_model.specs.declared.meaning.InteractionKind.{InteractionKind}
use Rattle.estelle_model.specs.declared.meaning.InteractionPoint.{InteractionPoint}
use Rattle.estelle_model.specs.Definitions.{opposite}
use Rattle.estelle_model.specs.Core.{Instance, Instances}
use Rattle.estelle_model.specs.Subject.{Subject, ips_of}

-- ---- interaction points of instances

abbrev pub point_of : Subject → Option Instance → ℕ → Option InteractionPoint
point_of s None k = None
point_of s (Some i) k = slice_get (ips_of s i.body) k

-- an interaction point as it is declared, if it is there
abbrev pub point : Subject → Instances → IpAddr → Option InteractionPoint
point s instances a = point_of s (map.get instances a.path) a.ip

-- ---- sending and receiving

abbrev pub may_send : Role → Senders → Bool
may_send First by = by.first
may_send Second by = by.second

-- its role may send the interaction
abbrev pub sends : InteractionPoint → InteractionKind → Bool
sends p m = nat_eq p.channel m.channel && may_send p.role m.senders

-- the other role may send it
abbrev pub receives : InteractionPoint → InteractionKind → Bool
receives p m = nat_eq p.channel m.channel && may_send (opposite p.role) m.senders

abbrev pub sent_at : Option InteractionPoint → InteractionKind → Bool
sent_at None m = false
sent_at (Some p) m = sends p m

-- ---- links

abbrev pub same_role : Role → Role → Bool
same_role First First = true
same_role Second Second = true
same_role _ _ = false

-- an instance connects its own internal interaction points and the external ones of its children
abbrev pub is_connectable : Path → IpAddr → InteractionPoint → Bool
is_connectable m a p = if bytes_eq a.path m then not p.external else p.external

abbrev pub connectable_at : Path → IpAddr → Option InteractionPoint → Bool
connectable_at m a None = false
connectable_at m a (Some p) = is_connectable m a p

-- a connection joins two points of one channel and of opposite roles, not both internal
abbrev pub may_join : Option InteractionPoint → Option InteractionPoint → Bool
may_join (Some p) (Some q) = nat_eq p.channel q.channel && (not (same_role p.role q.role) && (p.external || q.external))
may_join _ _ = false

-- the instance may connect them
abbrev pub may_connect : Subject → Instances → Path → IpAddr → IpAddr → Bool
may_connect s instances m a b =
    may_join (point s instances a) (point s instances b)
    && (connectable_at m a (point s instances a) && connectable_at m b (point s instances b))

-- an attachment joins an external point of an instance and one of its child, of one channel and role
abbrev pub may_attach_points : Option InteractionPoint → Option InteractionPoint → Bool
may_attach_points (Some p) (Some q) = nat_eq p.channel q.channel && (same_role p.role q.role && (p.external && q.external))
may_attach_points _ _ = false

abbrev pub may_attach : Subject → Instances → IpAddr → IpAddr → Bool
may_attach s instances upper lower = may_attach_points (point s instances upper) (point s instances lower)

abbrev pub external_at : Option InteractionPoint → Bool
external_at None = false
external_at (Some p) = p.external

abbrev pub internal_at : Option InteractionPoint → Bool
internal_at None = false
internal_at (Some p) = not p.external
