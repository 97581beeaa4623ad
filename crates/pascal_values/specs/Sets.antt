-- Sets of ordinals from 0 to 255, each as the rising list of its members.
use Rattle.std.specs.Prelude.{◌≡◌, ℕ, ◌+◌, ◌≤◌, nat_lt, Bool, not, ◌&&◌, ◌||◌, List, [], ◌∷◌, filter, nat_le, ◌==◌}
use Rattle.std.specs.List.{list_any, list_all, range_with_len}

-- the ordinals rise, from low on, and end below high
abbrev pub IsRising : ℕ → List ℕ → ℕ → Type 0
IsRising low [] high = low ≤ high
IsRising low (n ∷ ns) high = (low ≤ n) × IsRising (n + 1) ns high

-- the ordinals are those of a set
abbrev pub IsSet : List ℕ → Type 0
IsSet ns = IsRising 0 ns 256

-- whether an ordinal is in a set
abbrev pub is_member : ℕ → List ℕ → Bool
is_member n ns = list_any (λ m. m == n) ns

-- the set of the ordinals for which p holds
unfoldable pub set_of : (ℕ → Bool) → List ℕ
set_of p = filter p (range_with_len 0 256)

-- the members of a and those of b
unfoldable pub union : List ℕ → List ℕ → List ℕ
union a b = set_of (λ n. is_member n a || is_member n b)

-- the members that a and b share
unfoldable pub intersection : List ℕ → List ℕ → List ℕ
intersection a b = set_of (λ n. is_member n a && is_member n b)

-- the members of a that are not in b
unfoldable pub difference : List ℕ → List ℕ → List ℕ
difference a b = set_of (λ n. is_member n a && not (is_member n b))

-- the ordinals from low to high
unfoldable pub interval : ℕ → ℕ → List ℕ
interval low high = set_of (λ n. nat_le low n && nat_le n high)

-- each member of a is in b
abbrev pub is_subset : List ℕ → List ℕ → Bool
is_subset a b = list_all (λ n. is_member n b) a

-- the members of a set that is chosen are the ordinals up to 255 for which p holds
abbrev pub ChoosesMembers : Type 0
ChoosesMembers = (p : ℕ → Bool) → IsSet (set_of p) × ((n : ℕ) → is_member n (set_of p) ≡ (nat_lt n 256 && p n))

-- two sets with the same members are equal
abbrev pub IsToldByMembers : Type 0
IsToldByMembers = (a b : List ℕ) → IsSet a → IsSet b → ((n : ℕ) → is_member n a ≡ is_member n b) → a ≡ b
