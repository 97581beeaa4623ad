-- How a tree keeps its instances. No public clause cites this module.
use Rattle.std.specs.Prelude.{◌≡◌, ◌<◌, ◌≤◌, ℕ, zero, suc, ◌-◌, Bool, cond, List, [], length, map, filter, Option, IsSome, is_some}
use Rattle.std.specs.Option.{option_map, option_map_or}
use Rattle.std.specs.List.{range_with_len}
use Rattle.std.specs.FinMap as maps
use Rattle.std.specs.Global.{Vec}
use Rattle.std.specs.Vec.{vec_capacity}
use Rattle.std.specs.Map.{lookup}
use Rattle.std.specs.Str.{bytes_eq}
use Rattle.indexmap.specs.IndexMap.{IndexMap, spare, index_map_len}
use Rattle.estelle_tree.specs.Paths.{Path, child}
use Rattle.module_tree.specs.Trees.{Instance, Instances}
use Rattle.module_tree.specs.declared.nodes.Node.{Node}

abbrev pub same : Path → Path → Bool
same = bytes_eq

-- the greatest number from 1 to n that passes the test, or 0
abbrev pub latest : (ℕ → Bool) → ℕ → ℕ
latest P zero = 0
latest P (suc n) = cond (P (suc n)) (suc n) (latest P n)

-- what is kept of an instance's place: how many children it has had, and the birth numbers of its last child and
-- of its next siblings that are there. 0 is none.
pub record Links : Type 0 where
  pub births : ℕ
  pub last : ℕ
  pub previous : ℕ
  pub next : ℕ

-- a number that is kept of a place; where there is none it is 0
abbrev pub number_at : (Links → ℕ) → (Path → Option Links) → Path → ℕ
number_at field f q = option_map_or field (f q) 0

-- which children are there
abbrev pub has_child : (Path → Option Links) → Path → ℕ → Bool
has_child f p k = is_some (f (child p k))

-- the birth numbers of the children that are there
abbrev pub child_numbers : (Path → Option Links) → Path → List ℕ
child_numbers f p = filter (has_child f p) (range_with_len 1 (number_at (λ n. n.births) f p))

-- the next sibling names this one as the one before; the last child is its parent's last
abbrev pub LinksOn : (Path → Option Links) → Path → ℕ → ℕ → Type 0
LinksOn f p k zero = number_at (λ n. n.last) f p ≡ k
LinksOn f p k (suc z) = IsSome (f (child p (suc z))) × (number_at (λ n. n.previous) f (child p (suc z)) ≡ k)

-- Each child is among its parent's births, and each place names its last child and its next siblings.
pub record Linked (f : Path → Option Links) : Type 0 where
  pub rooted : IsSome (f [])
  pub positive : (p : Path) (k : ℕ) → IsSome (f (child p k)) → 0 < k
  pub counted : (p : Path) (k : ℕ) → IsSome (f (child p k)) → k ≤ number_at (λ n. n.births) f p
  pub last : (p : Path) → number_at (λ n. n.last) f p ≡ latest (has_child f p) (number_at (λ n. n.births) f p)
  pub previous : (p : Path) (k : ℕ) → IsSome (f (child p k)) → number_at (λ n. n.previous) f (child p k) ≡ latest (has_child f p) (k - 1)
  pub next : (p : Path) (k : ℕ) → IsSome (f (child p k)) → LinksOn f p k (number_at (λ n. n.next) f (child p k))

-- an instance with a child of this number, its last
abbrev pub born : ℕ → Links → Links
born k n = record n { births = k; last = k }

-- the links of a new child after the one of this number
abbrev pub first_links : ℕ → Links
first_links previous = record { births = 0; last = 0; previous = previous; next = 0 }

-- which place names the one before a child: the next sibling, or the parent where there is none
abbrev pub backward : Path → ℕ → Path
backward p zero = p
backward p (suc z) = child p (suc z)

-- and how it names it
abbrev pub back : ℕ → ℕ → Links → Links
back zero a n = record n { last = a }
back (suc z) a n = record n { previous = a }

module _ {R : Type 0} where
  abbrev pub instance_of : Node R → Instance R
  instance_of n = record { part = n.part; births = n.births }

  abbrev pub links_of : Node R → Links
  links_of n = record { births = n.births; last = n.last; previous = n.previous; next = n.next }

  abbrev pub with_last : ℕ → Node R → Node R
  with_last k n = record n { last = k }

  abbrev pub with_previous : ℕ → Node R → Node R
  with_previous k n = record n { previous = k }

  abbrev pub with_next : ℕ → Node R → Node R
  with_next k n = record n { next = k }

  abbrev pub with_birth : ℕ → Node R → Node R
  with_birth k n = record n { births = k; last = k }

  -- how a place names the one before the next sibling, or before none
  abbrev pub node_back : ℕ → ℕ → Node R → Node R
  node_back zero a = with_last a
  node_back (suc z) a = with_previous a

  -- the instances of a table of nodes
  abbrev pub instances_of : List (Vec ℕ × Node R) → Instances R
  instances_of es = maps.from_entries (map (λ e. (e.0.items, instance_of e.1)) es)

  -- the node at a path
  abbrev pub found : List (Vec ℕ × Node R) → Path → Option (Node R)
  found es q = lookup (λ k. bytes_eq q k.items) es

  abbrev pub links : List (Vec ℕ × Node R) → Path → Option Links
  links es q = option_map links_of (found es q)

  -- the table of a tree, a bound of the lengths of its paths, and memory for one path of that length
  pub record IsSound (es : List (Vec ℕ × Node R)) (depth : ℕ) (way : Vec ℕ) : Type 0 where
    pub linked : Linked (links es)
    pub bounded : (q : Path) → IsSome (found es q) → length q ≤ depth
    pub room : depth ≤ vec_capacity way
    pub empty : way.items ≡ []

  -- the node at a path, if there is one, is changed, and no other
  pub record Changes {S : Type 0} (m n : IndexMap (Vec ℕ) (Node R) S) (key : Path) (change : Node R → Node R) : Type 0 where
    pub at : (q : Path) → found n.entries q ≡ cond (same key q) (option_map change (found m.entries q)) (found m.entries q)
    pub room : spare n ≡ spare m
    pub len : index_map_len n ≡ index_map_len m
