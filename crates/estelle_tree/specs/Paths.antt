-- Instances by the birth numbers on the way from the root.
use Rattle.std.specs.Prelude.{ℕ, Bool, ◌&&◌, nat_eq, nat_lt, List, [], ◌∷◌, ◌++◌, length}
use Rattle.std.specs.List.{starts_with}
use Rattle.std.specs.Ordering.{nat_cmp}
use Rattle.std.specs.Cmp.Lexicographic.{slice_cmp}
use Rattle.std.specs.declared.cmp.Ordering.{Ordering}

abbrev pub Path : Type 0
Path = List ℕ

-- a parent before its descendants, and siblings by their birth numbers
abbrev pub path_cmp : Path → Path → Ordering
path_cmp = slice_cmp nat_cmp

abbrev pub child : Path → ℕ → Path
child p k = p ++ k ∷ []

-- the instance above; the root's is the root
abbrev pub parent_of : Path → Path
parent_of [] = []
parent_of (k ∷ []) = []
parent_of (k ∷ (n ∷ p)) = k ∷ parent_of (n ∷ p)

-- the birth number of an instance
abbrev pub last_of : Path → ℕ
last_of [] = 0
last_of (k ∷ []) = k
last_of (k ∷ (n ∷ p)) = last_of (n ∷ p)

-- the second instance is the first one, or one of its descendants
abbrev pub is_inside : Path → Path → Bool
is_inside m q = starts_with nat_eq q m

-- the second instance is a descendant of the first: its path is longer, and begins with the first one's
abbrev pub is_above : Path → Path → Bool
is_above m q = nat_lt (length m) (length q) && is_inside m q
