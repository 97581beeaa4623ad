-- Interaction points by number, in chains by which they are found again.
use Rattle.std.specs.Prelude.{◌≡◌, ℕ, zero, suc, ◌+◌, ◌*◌, ◌%◌, ◌^◌, ◌<◌, Bool, List, length, fold, slice_index_or, nat_eq, nat_lt, if◌then◌else◌, Option, Some, None}
use Rattle.std.specs.Option.{option_map}
use Rattle.slab.specs.Slab.{Slab, get, HasRoomFor}
use Rattle.estelle_tree.specs.declared.link.IpAddr.{IpAddr}
use Rattle.estelle_tree.specs.Links.{same_ip}
use Rattle.link_ops.specs.declared.points.Ends.{Ends}
use Rattle.link_ops.specs.declared.points.Role.{Role}
use Rattle.link_ops.specs.declared.points.Role.TheVariants as role
use Rattle.link_ops.specs.declared.points.Node.{Node}
use Rattle.link_ops.specs.declared.points.Points.{Points}

-- ---- chains

unfoldable pub hash_of : IpAddr → ℕ
hash_of a = fold (λ h n. (h * 0x9E3779B97F4A7C15 % 2 ^ 64 + n) % 2 ^ 64) a.ip a.path

abbrev pub bucket : ℕ → IpAddr → ℕ
bucket n a = hash_of a % n

-- where the chain of a point begins
abbrev pub head : List (Option ℕ) → IpAddr → Option ℕ
head heads a = slice_index_or heads (bucket (length heads) a) None

abbrev pub seek_at : Option Node → ℕ → IpAddr → (Option ℕ → Option ℕ) → Option ℕ
seek_at None k a on = None
seek_at (Some n) k a on = if same_ip a n.ip then Some k else on n.next

-- the number of a point, in so many steps along a chain
abbrev pub seek : (ℕ → Option Node) → ℕ → Option ℕ → IpAddr → Option ℕ
seek nodes zero at a = None
seek nodes (suc n) None a = None
seek nodes (suc n) (Some k) a = seek_at (nodes k) k a (λ next. seek nodes n next a)

abbrev pub number_of : Points → IpAddr → Option ℕ
number_of p a = seek (get p.nodes) p.steps (head p.heads.items a) a

-- each point is found by its chain
abbrev pub AreChained : (ℕ → Option Node) → List (Option ℕ) → ℕ → Type 0
AreChained nodes heads steps = (k : ℕ) (n : Node) → nodes k ≡ Some n → seek nodes steps (head heads n.ip) n.ip ≡ Some k

-- there is room for more points, and no chain is too long to be followed
pub record Sound (p : Points) : Type 0 where
  pub chained : AreChained (get p.nodes) p.heads.items p.steps
  pub memory : HasRoomFor p.nodes p.room
  pub steps : p.steps + p.room < 2 ^ 64
  pub heads : 0 < p.room → 0 < length p.heads.items

-- ---- what stands under a number

abbrev pub point : Points → ℕ → Option IpAddr
point p k = option_map (λ (n : Node). n.ip) (get p.nodes k)

-- the number of the link in which a point has a role
abbrev pub in_role : Role → Ends → Option ℕ
in_role role.Joined e = e.joined
in_role role.Upper e = e.upper
in_role role.Lower e = e.lower

abbrev pub link_of : Role → Option Node → Option ℕ
link_of r None = None
link_of r (Some n) = in_role r n.ends

abbrev pub link_at : Points → ℕ → Role → Option ℕ
link_at p k r = link_of r (get p.nodes k)

abbrev pub with_role : Role → Option ℕ → Ends → Ends
with_role role.Joined l e = record e { joined = l }
with_role role.Upper l e = record e { upper = l }
with_role role.Lower l e = record e { lower = l }

-- what stands under number `k`, once the link is written under `number`
abbrev pub with_link : ℕ → Role → Option ℕ → ℕ → Option Node → Option Node
with_link number r l k node = if nat_eq k number then option_map (λ (n : Node). record n { ends = with_role r l n.ends }) node else node

-- the points under a number, once this one is put there
abbrev pub with_point : ℕ → IpAddr → ℕ → Option IpAddr → Option IpAddr
with_point number a k old = if nat_eq k number then Some a else old

-- the points under lesser numbers
abbrev pub below : ℕ → Points → ℕ → Option Node
below n p k = if nat_lt k n then get p.nodes k else None

-- no two numbers have the same point
abbrev pub AreApart : Points → Type 0
AreApart p = (i j : ℕ) (a : IpAddr) → point p i ≡ Some a → point p j ≡ Some a → i ≡ j
