-- A tree, seen through its table.
use Rattle.std.proofs.Common.{◌≡◌, ◌≢◌, ◌≤◌, ◌↔◌, ℕ, ◌+◌, Bool, true, false, cond, List, [], length, map as each, filter, Option, Some, None, is_some, refl, sym, ap, subst, ◌∙◌, arith, true≢false}
use Rattle.std.specs.Prelude.{IfSome}
use Rattle.std.specs.Option.{option_map, option_map_or}
use Rattle.std.specs.List.{range_with_len}
use Rattle.std.specs.Global.{Vec}
use Rattle.std.specs.Vec.{vec_capacity}
use Rattle.std.specs.FinMap as map
use Rattle.estelle_tree.specs.Paths.{Path, child, parent_of, last_of}
use Rattle.module_tree.specs.Trees.{Instance, Tree, instance_at, births_at, births_or_zero, child_paths, changed, one_more_birth, new_born, lone, placed, without, IsTree}
use Rattle.module_tree.specs.Nodes.{same, latest, Links, Linked, number_at, has_child, child_numbers, instance_of, links_of, instances_of, found, links, IsSound}
use Rattle.module_tree.specs.declared.nodes.Node.{Node}
use Rattle.module_tree.proofs.Paths.{same_is, differs, child_is, length-child}
use Rattle.module_tree.proofs.Seen.{get_instances_of, get_insert, get_changed}
use Rattle.module_tree.proofs.Removing.{links_found, found_seen, get_without}

is_none : {A : Type 0} (o : Option A) → is_some o ≡ false → o ≡ None
is_none None h = refl
is_none (Some x) h = absurd (true≢false h)

none_alike : {A B : Type 0} (o : Option A) (p : Option B) → is_some o ≡ is_some p → (o ≡ None) ↔ (p ≡ None)
none_alike o p e = (λ n. is_none p (sym e ∙ ap is_some n), λ n. is_none o (e ∙ ap is_some n))

pub some_unless : {A : Type 0} (o : Option A) → (o ≡ None → false ≡ true) → is_some o ≡ true
some_unless None h = absurd (true≢false (sym (h refl)))
some_unless (Some x) h = refl

module _ {R : Type 0} (t : Tree R) (es : List (Vec ℕ × Node R)) (seen : instances_of es ≡ t.instances) where
  pub there_is : (q : Path) → is_some (found es q) ≡ is_some (instance_at t q)
  there_is q = found_seen es q ∙ ap (λ m. is_some (map.get m q)) seen

  pub none_is : (q : Path) → (found es q ≡ None) ↔ (instance_at t q ≡ None)
  none_is q = none_alike _ _ (there_is q)

  pub not_there : (p q : Path) (b : Bool) → b ≡ is_some (found es p) → b ≡ false → p ≡ q → instance_at t q ≡ None
  not_there p q b is none e = is_none _ (sym (there_is q) ∙ ap (λ p. is_some (found es p)) (sym e) ∙ sym is ∙ none)

  pub not_none : (p q : Path) (b : Bool) → b ≡ is_some (found es p) → b ≡ true → p ≡ q → instance_at t q ≢ None
  not_none p q b is here e none = true≢false (sym here ∙ is ∙ ap (λ p. is_some (found es p)) e ∙ there_is q ∙ ap is_some none)

  births_is : (q : Path) → number_at (λ n. n.births) (links es) q ≡ births_or_zero t q
  births_is q = by (found es q) ∙ ap (λ o. option_map_or (λ i. i.births) o 0) (sym (get_instances_of es q) ∙ ap (λ m. map.get m q) seen)
    where
      by : (o : Option (Node R)) → option_map_or (λ n. n.births) (option_map links_of o) 0 ≡ option_map_or (λ i. i.births) (option_map instance_of o) 0
      by None = refl
      by (Some x) = refl

  pub tree_is : Linked (links es) → IsTree t
  tree_is l =
      record {
        rooted = sym (there_is []) ∙ sym (links_found es []) ∙ l.rooted;
        positive = λ p k h. l.positive p k (links_found es _ ∙ there_is _ ∙ h);
        counted = λ p k h. subst (λ n. k ≤ n) (births_is p) (l.counted p k (links_found es _ ∙ there_is _ ∙ h));
      }

  pub children_are : (p : Path) → each (child p) (child_numbers (links es) p) ≡ child_paths t p
  children_are p = λ i. each (child p) (filter (λ k. (links_found es (child p k) ∙ there_is (child p k)) i) (range_with_len 1 (births_is p i)))

  -- the next birth of the parent
  pub next_is : (p : Path) (k : ℕ) → IfSome (births_at t p) (λ births. k ≡ births + 1) → IfSome (found es p) (λ n. k ≡ n.births + 1)
  next_is p k h = by (found es p) (subst (λ (o : Option (Instance R)). IfSome (option_map (λ i. i.births) o) (λ births. k ≡ births + 1)) (ap (λ m. map.get m p) (sym seen) ∙ get_instances_of es p) h)
    where
      by : (o : Option (Node R)) → IfSome (option_map (λ i. i.births) (option_map instance_of o)) (λ births. k ≡ births + 1) → IfSome o (λ n. k ≡ n.births + 1)
      by None h = tt
      by (Some x) h = h

module _ {R : Type 0} where
  -- ---- one instance

  module _ (es : List (Vec ℕ × Node R)) (root : R) (lone_found : (q : Path) → found es q ≡ cond (same [] q) (Some (record { part = root; births = 0; last = 0; previous = 0; next = 0 })) None) where
    number_zero : (field : Links → ℕ) → field (record { births = 0; last = 0; previous = 0; next = 0 }) ≡ 0 → (q : Path) → number_at field (links es) q ≡ 0
    number_zero field none q = ap (λ o. option_map_or field (option_map links_of o) 0) (lone_found q) ∙ by (same [] q)
      where
        by : (b : Bool) → option_map_or field (option_map links_of (cond b (Some (record { part = root; births = 0; last = 0; previous = 0; next = 0 })) None)) 0 ≡ 0
        by true = none
        by false = refl

    no_child : (p : Path) (k : ℕ) → is_some (links es (child p k)) ≢ true
    no_child p k h =
        true≢false (sym h ∙ ap (λ o. is_some (option_map links_of o)) (lone_found (child p k) ∙ ap (λ b. cond b (Some (record { part = root; births = 0; last = 0; previous = 0; next = 0 })) None) (differs [] (child p k) (λ e. let l = ap length e in let m = length-child p k in omega arith))))

    pub lone_linked : Linked (links es)
    lone_linked =
        record {
          rooted = ap (λ o. is_some (option_map links_of o)) (lone_found []);
          positive = λ p k h. absurd (no_child p k h);
          counted = λ p k h. absurd (no_child p k h);
          last = λ p. number_zero (λ n. n.last) refl p ∙ sym (ap (latest (has_child (links es) p)) (number_zero (λ n. n.births) refl p));
          previous = λ p k h. absurd (no_child p k h);
          next = λ p k h. absurd (no_child p k h);
        }

  pub lone_bounded : (es : List (Vec ℕ × Node R)) (root : R) → instances_of es ≡ lone root → (q : Path) → is_some (found es q) ≡ true → length q ≤ 0
  lone_bounded es root seen q h = by (same [] q) refl _ (map.get-empty _ q) (sym (found_seen es q ∙ ap (λ m. is_some (map.get m q)) seen ∙ ap is_some (get_insert map.empty [] (new_born root) q)) ∙ h)
    where
      by : (b : Bool) → same [] q ≡ b → (o : Option (Instance R)) → o ≡ None → is_some (cond b (Some (new_born root)) o) ≡ true → length q ≤ 0
      by true e o n h = let l = ap length (same_is [] q e) in omega arith
      by false e o n h = absurd (true≢false (sym h ∙ ap is_some n))

  pub planted : (es fs : List (Vec ℕ × Node R)) (key q : Path) (x : Option (Node R)) → es ≡ [] → key ≡ [] → found fs q ≡ cond (same key q) x (found es q) → found fs q ≡ cond (same [] q) x None
  planted es fs key q x none root is = is ∙ ap (λ es. cond (same key q) x (found es q)) none ∙ ap (λ k. cond (same k q) x None) root

  -- ---- one more instance

  -- the parent is there, so that the path is one longer than some other
  pub one_longer : (es : List (Vec ℕ × Node R)) (p : Path) (depth : ℕ) → ((q : Path) → is_some (found es q) ≡ true → length q ≤ depth) → p ≢ [] → is_some (found es (parent_of p)) ≡ true → length p ≤ depth + 1
  one_longer es p depth bounded some here =
      let h = bounded (parent_of p) here in
      let e = ap length (child_is p some) in
      let m = length-child (parent_of p) (last_of p) in
      omega arith

  pub placed_sound : (es fs : List (Vec ℕ × Node R)) (p : Path) (part : R) (depth more : ℕ) (way : Vec ℕ) → IsSound es depth way → Linked (links fs) → instances_of fs ≡ placed (instances_of es) p part → depth ≤ more → length p ≤ more → more ≤ vec_capacity way → IsSound fs more way
  placed_sound es fs p part depth more way s linked seen grows within room =
      record {
        linked = linked;
        bounded = λ q h. by q (same p q) refl (sym (found_seen fs q ∙ ap (λ m. is_some (map.get m q)) seen ∙ ap is_some (get_insert (changed (instances_of es) (parent_of p) one_more_birth) p (new_born part) q)) ∙ h);
        room = room;
        empty = s.empty;
      }
    where
      kept : (q : Path) (b : Bool) (o : Option (Instance R)) → is_some (cond b (option_map one_more_birth o) o) ≡ true → is_some o ≡ true
      kept q true None h = h
      kept q true (Some i) h = refl
      kept q false o h = h

      by : (q : Path) (b : Bool) → same p q ≡ b → is_some (cond b (Some (new_born part)) (map.get (changed (instances_of es) (parent_of p) one_more_birth) q)) ≡ true → length q ≤ more
      by q true e h = let l = ap length (same_is p q e) in omega arith
      by q false e h =
          let was = kept q (same (parent_of p) q) (map.get (instances_of es) q) (sym (ap is_some (get_changed (instances_of es) (parent_of p) one_more_birth q)) ∙ h) in
          let old = s.bounded q (found_seen es q ∙ was) in
          omega arith

  -- ---- instances gone

  pub removed_sound : (es fs : List (Vec ℕ × Node R)) (p : Path) (depth : ℕ) (way left : Vec ℕ) → IsSound es depth way → Linked (links fs) → instances_of fs ≡ without (instances_of es) p → vec_capacity way ≤ vec_capacity left → left.items ≡ [] → IsSound fs depth left
  removed_sound es fs p depth way left s linked seen grows empty =
      record {
        linked = linked;
        bounded = λ q h. s.bounded q (found_seen es q ∙ by _ _ (sym (found_seen fs q ∙ ap (λ m. is_some (map.get m q)) seen ∙ ap is_some (get_without (instances_of es) p q)) ∙ h));
        room = let r = s.room in omega arith;
        empty = empty;
      }
    where
      by : (b : Bool) (o : Option (Instance R)) → is_some (cond b o None) ≡ true → is_some o ≡ true
      by true o h = h
      by false o h = absurd (true≢false (sym h))
