-- Links as pairs of numbers of points, each known at both of its ends.
use Rattle.std.specs.Prelude.{◌≡◌, ◌≢◌, ◌⊎◌, ℕ, zero, suc, Bool, List, [], slice_index_or, nat_eq, if◌then◌else◌, Option, Some, None}
use Rattle.std.specs.Option.{option_map, option_and_then, unwrap_or}
use Rattle.std.specs.List.{filter_map}
use Rattle.estelle_tree.specs.declared.link.IpAddr.{IpAddr}
use Rattle.estelle_tree.specs.declared.link.Link.{Link}
use Rattle.estelle_tree.specs.declared.link.LinkKind.{LinkKind}
use Rattle.estelle_tree.specs.declared.link.LinkKind.TheVariants as kind
use Rattle.estelle_tree.specs.Links.{joins, is_upper_of, is_lower_of, peer, above, below, other_end}
use Rattle.link_ops.specs.declared.points.Role.{Role}
use Rattle.link_ops.specs.declared.points.Role.TheVariants as role
use Rattle.link_ops.specs.declared.points.Points.{Points}
use Rattle.link_ops.specs.declared.pairs.Pairing.{Pairing}
use Rattle.link_ops.specs.Points.{Sound, point, link_at, number_of}
use Rattle.link_ops.specs.Linked.{IsChild}

-- ---- what the pairs are seen as

abbrev pub nowhere : IpAddr
nowhere = record { path = []; ip = 0 }

abbrev pub ip_at : Points → ℕ → IpAddr
ip_at p k = unwrap_or (point p k) nowhere

abbrev pub link_of : Points → Pairing → Link
link_of p x = record { kind = x.kind; first = ip_at p x.first; second = ip_at p x.second }

-- in order, without the gaps
abbrev pub seen : Points → List (Option Pairing) → List Link
seen p pairs = filter_map (option_map (link_of p)) pairs

-- ---- roles

abbrev pub first_role : LinkKind → Role
first_role kind.Connection = role.Joined
first_role kind.Attachment = role.Upper

abbrev pub second_role : LinkKind → Role
second_role kind.Connection = role.Joined
second_role kind.Attachment = role.Lower

-- the point has this role in the link
abbrev pub has_role : Role → IpAddr → Link → Bool
has_role role.Joined = joins
has_role role.Upper = is_upper_of
has_role role.Lower = is_lower_of

-- the other end of the link in which the point has this role
abbrev pub way : Role → List Link → IpAddr → Option IpAddr
way role.Joined = peer
way role.Upper = below
way role.Lower = above

-- ---- numbers

abbrev pub slot : List (Option Pairing) → ℕ → Option Pairing
slot pairs i = slice_index_or pairs i None

abbrev pub far_end : ℕ → Pairing → ℕ
far_end k x = if nat_eq x.first k then x.second else x.first

-- the number at the other end
abbrev pub next_of : Points → List (Option Pairing) → Role → ℕ → Option ℕ
next_of p pairs r k = option_and_then (λ i. option_map (far_end k) (slot pairs i)) (link_at p k r)

-- so many steps from a number on, as far as they lead
abbrev pub walked : (ℕ → Option ℕ) → ℕ → ℕ → ℕ
walked next zero k = k
walked next (suc n) k = walked next n (unwrap_or (next k) k)

-- ---- ways of points

abbrev pub far_point : Points → List (Option Pairing) → Role → IpAddr → Option IpAddr
far_point p pairs r a = option_and_then (point p) (option_and_then (next_of p pairs r) (number_of p a))

abbrev pub last_point : Points → List (Option Pairing) → Role → ℕ → IpAddr → IpAddr
last_point p pairs r n a = unwrap_or (option_and_then (λ k. point p (walked (next_of p pairs r) n k)) (number_of p a)) a

-- from the point at the top
abbrev pub down_from : Points → List (Option Pairing) → ℕ → ℕ → Option IpAddr
down_from p pairs n k = option_and_then (λ m. point p (walked (next_of p pairs role.Upper) n m)) (next_of p pairs role.Joined k)

abbrev pub route_point : Points → List (Option Pairing) → ℕ → IpAddr → Option IpAddr
route_point p pairs n a = option_and_then (λ k. down_from p pairs n (walked (next_of p pairs role.Lower) n k)) (number_of p a)

-- the number is that of an end of the pair, which has this role there
abbrev pub IsEnd : Pairing → ℕ → Role → Type 0
IsEnd x k r = ((x.first ≡ k) × (first_role x.kind ≡ r)) ⊎ ((x.second ≡ k) × (second_role x.kind ≡ r))

-- the link in which a point has a role, with its place
abbrev pub entry : Points → List (Option Pairing) → Role → IpAddr → Option (ℕ × Pairing)
entry p pairs r a = option_and_then (λ i. option_map (λ x. (i, x)) (slot pairs i)) (option_and_then (λ k. link_at p k r) (number_of p a))

-- ---- what holds

pub record Tied (p : Points) (pairs : List (Option Pairing)) : Type 0 where
  pub sound : Sound p
  -- what a point knows is a pair of which it is that end, and what it is an end of it knows
  pub known : (k : ℕ) (r : Role) (i : ℕ) → link_at p k r ≡ Some i → (x : Pairing) × (slot pairs i ≡ Some x) × IsEnd x k r
  pub ends : (i : ℕ) (x : Pairing) (k : ℕ) (r : Role) → slot pairs i ≡ Some x → IsEnd x k r → link_at p k r ≡ Some i
  pub apart : (i : ℕ) (x : Pairing) → slot pairs i ≡ Some x → x.first ≢ x.second
  pub bound : (k i : ℕ) → link_at p k role.Joined ≡ Some i → link_at p k role.Lower ≡ None
  pub down : (i : ℕ) (x : Pairing) → slot pairs i ≡ Some x → x.kind ≡ kind.Attachment → IsChild (ip_at p x.first).path (ip_at p x.second).path

-- two points may be linked
pub record MayTie (p : Points) (k : LinkKind) (first second : ℕ) : Type 0 where
  pub apart : first ≢ second
  pub first_free : link_at p first (first_role k) ≡ None
  pub second_free : link_at p second (second_role k) ≡ None
  pub connection : k ≡ kind.Connection → (link_at p first role.Lower ≡ None) × (link_at p second role.Lower ≡ None)
  pub attachment : k ≡ kind.Attachment → (link_at p second role.Joined ≡ None) × IsChild (ip_at p first).path (ip_at p second).path

-- two interaction points may be linked
pub record MayLink (links : List Link) (k : LinkKind) (a b : IpAddr) : Type 0 where
  pub apart : a ≢ b
  pub first_free : way (first_role k) links a ≡ None
  pub second_free : way (second_role k) links b ≡ None
  pub connection : k ≡ kind.Connection → (above links a ≡ None) × (above links b ≡ None)
  pub attachment : k ≡ kind.Attachment → (peer links b ≡ None) × IsChild a.path b.path
