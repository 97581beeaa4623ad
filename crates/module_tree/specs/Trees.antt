-- What a contract sees of a tree of module instances (ISO/IEC 9074: module instances, `init`, `release`).
use Rattle.std.specs.Prelude.{ℕ, ◌+◌, not, List, [], map as each, filter, is_some, IsSome, ◌<◌, ◌≤◌, Option, refl}
use Rattle.std.specs.Option.{option_map, option_map_or}
use Rattle.std.specs.List.{range_with_len}
use Rattle.std.specs.FinMap as map
use Rattle.std.specs.Coded.{Coded, code_by, coded×, coded_ℕ, coded_list}
use Rattle.estelle_tree.specs.Paths.{Path, path_cmp, child, parent_of, is_inside}

-- what is kept of an instance, and how many children it has had
pub record Instance (R : Type 0) : Type 0 where
  pub part : R
  pub births : ℕ

abbrev pub instance_code : {R : Type 0} → Coded R → Coded (Instance R)
instance_code {R} code =
    code_by (R × ℕ) (coded× code coded_ℕ) (λ i. (i.part, i.births)) (λ p. record { part = p.0; births = p.1 }) (λ _. refl)

abbrev pub Instances : Type 0 → Type 0
Instances R = map.FinMap path_cmp (Instance R)

-- the instances by their paths, and for how many more there is memory
pub record Tree (R : Type 0) : Type 0 where
  pub instances : Instances R
  pub spare : ℕ

abbrev pub tree_code : {R : Type 0} → Coded R → Coded (Tree R)
tree_code {R} code =
    code_by (Instances R × ℕ) (coded× (map.code (coded_list coded_ℕ) (instance_code code)) coded_ℕ) (λ t. (t.instances, t.spare)) (λ p. record { instances = p.0; spare = p.1 }) (λ _. refl)

module _ {R : Type 0} where
  abbrev pub instance_at : Tree R → Path → Option (Instance R)
  instance_at t p = map.get t.instances p

  -- what is kept of the instance
  abbrev pub part_at : Tree R → Path → Option R
  part_at t p = option_map (λ i. i.part) (instance_at t p)

  -- how many children the instance has had
  abbrev pub births_at : Tree R → Path → Option ℕ
  births_at t p = option_map (λ i. i.births) (instance_at t p)

  abbrev pub births_or_zero : Tree R → Path → ℕ
  births_or_zero t p = option_map_or (λ i. i.births) (instance_at t p) 0

  -- the birth numbers of the children that are there
  abbrev pub children : Tree R → Path → List ℕ
  children t p = filter (λ k. is_some (instance_at t (child p k))) (range_with_len 1 (births_or_zero t p))

  -- the paths of the children that are there, by birth number
  abbrev pub child_paths : Tree R → Path → List Path
  child_paths t p = each (child p) (children t p)

  -- an instance that has had no child
  abbrev pub new_born : R → Instance R
  new_born part = record { part = part; births = 0 }

  -- a tree of one instance
  abbrev pub lone : R → Instances R
  lone part = map.insert map.empty [] (new_born part)

  -- with the instance at a path changed
  abbrev pub changed : Instances R → Path → (Instance R → Instance R) → Instances R
  changed m p change = option_map_or (λ i. map.insert m p (change i)) (map.get m p) m

  abbrev pub one_more_birth : Instance R → Instance R
  one_more_birth i = record i { births = i.births + 1 }

  abbrev pub with_other_part : R → Instance R → Instance R
  with_other_part part i = record i { part = part }

  -- one more instance, which its parent counts as born
  abbrev pub placed : Instances R → Path → R → Instances R
  placed m p part = map.insert (changed m (parent_of p) one_more_birth) p (new_born part)

  -- without an instance and all below it
  abbrev pub without : Instances R → Path → Instances R
  without m p = map.retain_keys m (λ q. not (is_inside p q))

  -- what is kept of an instance and of all below it, in path order
  abbrev pub parts_below : Instances R → Path → List R
  parts_below m p = each (λ e. e.1.part) (map.entries (map.retain_keys m (is_inside p)))

  -- after a write to what is kept of an instance
  abbrev pub with_part : Tree R → Path → R → Tree R
  with_part t p part = record t { instances = changed t.instances p (with_other_part part) }

  -- the root is there, and a child's parent, which has counted the child's birth
  pub record IsTree (t : Tree R) : Type 0 where
    pub rooted : IsSome (instance_at t [])
    pub positive : (p : Path) (k : ℕ) → IsSome (instance_at t (child p k)) → 0 < k
    pub counted : (p : Path) (k : ℕ) → IsSome (instance_at t (child p k)) → k ≤ births_or_zero t p
