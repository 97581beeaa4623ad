-- Links of interaction points, and the way of an output over them (ISO/IEC 9074).
use Rattle.std.specs.Prelude.{ℕ, zero, suc, Bool, true, false, not, ◌&&◌, ◌||◌, nat_eq, if◌then◌else◌, List, length, Option}
use Rattle.std.specs.List.{find}
use Rattle.std.specs.Option.{option_map, unwrap_or}
use Rattle.std.specs.Str.{bytes_eq}
use Rattle.estelle_tree.specs.declared.link.IpAddr.{IpAddr}
use Rattle.estelle_tree.specs.declared.link.LinkKind.{LinkKind}
use Rattle.estelle_tree.specs.declared.link.LinkKind.TheVariants as kind
use Rattle.estelle_tree.specs.declared.link.Link.{Link}
use Rattle.estelle_tree.specs.Paths.{Path, is_inside}

abbrev pub same_ip : IpAddr → IpAddr → Bool
same_ip a b = bytes_eq a.path b.path && nat_eq a.ip b.ip

abbrev pub is_connection : LinkKind → Bool
is_connection kind.Connection = true
is_connection kind.Attachment = false

-- the link is a connection of this interaction point
abbrev pub joins : IpAddr → Link → Bool
joins a l = is_connection l.kind && (same_ip a l.first || same_ip a l.second)

-- the link is an attachment of which this is the upper end
abbrev pub is_upper_of : IpAddr → Link → Bool
is_upper_of a l = not (is_connection l.kind) && same_ip a l.first

-- the link is an attachment of which this is the lower end
abbrev pub is_lower_of : IpAddr → Link → Bool
is_lower_of a l = not (is_connection l.kind) && same_ip a l.second

-- an end of the link lies at the instance or below it
abbrev pub touches : Path → Link → Bool
touches p l = is_inside p l.first.path || is_inside p l.second.path

abbrev pub connection : IpAddr → IpAddr → Link
connection a b = record { kind = kind.Connection; first = a; second = b }

abbrev pub attachment : IpAddr → IpAddr → Link
attachment upper lower = record { kind = kind.Attachment; first = upper; second = lower }

-- ---- ways

abbrev pub other_end : IpAddr → Link → IpAddr
other_end a l = if same_ip a l.first then l.second else l.first

-- the interaction point to which this one is connected
abbrev pub peer : List Link → IpAddr → Option IpAddr
peer links a = option_map (other_end a) (find (joins a) links)

-- the upper end of the attachment of which this is the lower end
abbrev pub above : List Link → IpAddr → Option IpAddr
above links a = option_map (λ l. l.first) (find (is_lower_of a) links)

-- the lower end of the attachment of which this is the upper end
abbrev pub below : List Link → IpAddr → Option IpAddr
below links a = option_map (λ l. l.second) (find (is_upper_of a) links)

-- so many steps from a point on, as far as they lead
abbrev pub steps_from : (IpAddr → Option IpAddr) → ℕ → IpAddr → IpAddr
steps_from step zero a = a
steps_from step (suc n) a = steps_from step n (unwrap_or (step a) a)

-- the last point of the way up. An attachment goes from an instance to its child, so that no way is longer than there are links
abbrev pub top : List Link → IpAddr → IpAddr
top links a = steps_from (above links) (length links) a

-- the last point of the way down
abbrev pub bottom : List Link → IpAddr → IpAddr
bottom links a = steps_from (below links) (length links) a

-- where an output comes to: up the attachments, over the connection, and down the attachments; none where the point at the top is in no connection
abbrev pub route : List Link → IpAddr → Option IpAddr
route links a = option_map (bottom links) (peer links (top links a))
