-- The tree that a list of nodes is seen as, by what is found in it.
use Rattle.std.proofs.Common.{◌≡◌, ◌⊎◌, inl, is_some, true≢false, ℕ, Bool, true, false, List, [], ◌∷◌, map as each, Option, Some, None, refl, sym, ap, subst, cond, ◌∙◌}
use Rattle.std.specs.Prelude.{min, Result, Ok, Err, OnOk, IsOk}
use Rattle.std.specs.Option.{option_map, option_map_or}
use Rattle.std.specs.Global.{Vec}
use Rattle.std.specs.Map.{KeepsOthers}
use Rattle.indexmap.specs.IndexMap.{IndexMap, spare, UpdatesBy, WritesThrough}
use Rattle.std.proofs.lemmas.Cmp.{nat_list_eq_equiv}
use Rattle.module_tree.proofs.Paths.{same_is, is_same, differs}
use Rattle.std.specs.FinMap as map
use Rattle.std.specs.FinMap.{find, nat_cmp-IsAntisymmetric, slice_cmp-IsAntisymmetric, IsAntisymmetric}
use Rattle.std.specs.Cmp.{IsTotalOrder}
use Rattle.std.specs.Cmp.Lexicographic.{nat_list_cmp_total}
use Rattle.std.specs.Str.{bytes_eq}
use Rattle.std.proofs.lemmas.Map.Text.{is_eq-slice_cmp}
use Rattle.estelle_tree.specs.Paths.{Path, path_cmp}
use Rattle.module_tree.specs.Trees.{Instance, Instances, Tree, part_at, births_at, with_part, with_other_part, changed}
use Rattle.module_tree.specs.Nodes.{same, instance_of, instances_of, found, links_of, links, Changes, Linked, IsSound}
use Rattle.module_tree.specs.declared.nodes.Node.{Node}

pub total : IsTotalOrder path_cmp
total = nat_list_cmp_total

pub apart : IsAntisymmetric path_cmp
apart = slice_cmp-IsAntisymmetric nat_cmp-IsAntisymmetric

option_map-cond : {A B : Type 0} (f : A → B) (b : Bool) (a : A) (o : Option A) → option_map f (cond b (Some a) o) ≡ cond b (Some (f a)) (option_map f o)
option_map-cond f true a o = refl
option_map-cond f false a o = refl

pub of_ok : {A E : Type 0} (r : Result A E) (P : Type 0) → OnOk r P → IsOk r → P
of_ok (Ok a) P h ok = h
of_ok (Err e) P h ok = absurd (true≢false (sym ok))

-- a loan that ends alike
pub lent_alike : {N A B C : Type 0} (name : N) (f h : A → B) → ((w : A) → f w ≡ h w) → ◌≡◌ {A = (N × (A → B)) ⊎ C} (inl (name, f)) (inl (name, h))
lent_alike name f h is = λ i. inl (name, λ w. is w i)

module _ {R : Type 0} where
  pub get_instances_of : (es : List (Vec ℕ × Node R)) (q : Path) → map.get (instances_of es) q ≡ option_map instance_of (found es q)
  get_instances_of es q = map.get-from_entries total (each (λ e. (e.0.items, instance_of e.1)) es) q ∙ by es
    where
      by : (es : List (Vec ℕ × Node R)) → find path_cmp q (each (λ e. (e.0.items, instance_of e.1)) es) ≡ option_map instance_of (found es q)
      by [] = refl
      by (e ∷ es) =
          ap (λ b. cond b (Some (instance_of e.1)) (find path_cmp q (each (λ e. (e.0.items, instance_of e.1)) es))) (is_eq-slice_cmp q e.0.items)
          ∙ ap (cond (bytes_eq q e.0.items) (Some (instance_of e.1))) (by es)
          ∙ sym (option_map-cond instance_of (bytes_eq q e.0.items) e.1 (found es q))

  -- two lists of nodes in which the same instances are found are seen as the same
  pub same_instances : (m n : Instances R) → ((q : Path) → map.get m q ≡ map.get n q) → m ≡ n
  same_instances = map.same_map total apart

  pub part_found : (t : Tree R) (es : List (Vec ℕ × Node R)) (p q : Path) (n : Node R) → instances_of es ≡ t.instances → Some n ≡ found es p → p ≡ q → Some n.part ≡ part_at t q
  part_found t es p q n seen is same =
      ap (λ o. option_map (λ i. i.part) (option_map instance_of o)) (is ∙ ap (found es) same) ∙ ap (option_map (λ i. i.part)) (sym (get_instances_of es q) ∙ ap (λ m. map.get m q) seen)

  pub births_found : (t : Tree R) (es : List (Vec ℕ × Node R)) (p q : Path) (n : Node R) → instances_of es ≡ t.instances → Some n ≡ found es p → p ≡ q → Some n.births ≡ births_at t q
  births_found t es p q n seen is same =
      ap (λ o. option_map (λ i. i.births) (option_map instance_of o)) (is ∙ ap (found es) same) ∙ ap (option_map (λ i. i.births)) (sym (get_instances_of es q) ∙ ap (λ m. map.get m q) seen)

  -- what is found in a map after an update at one key
  pub found_updated : {S : Type 0} (m n : IndexMap (Vec ℕ) (Node R) S) (p : Path) (w : Option (Node R)) → UpdatesBy (λ x y. bytes_eq x.items y.items) (λ k. bytes_eq p k.items) m n w → (q : Path) → found n.entries q ≡ cond (same p q) w (found m.entries q)
  unfolding KeepsOthers
  found_updated m n p w u q = by (same p q) refl
    where
      by : (b : Bool) → same p q ≡ b → found n.entries q ≡ cond b w (found m.entries q)
      by true e = ap (found n.entries) (sym (same_is p q e)) ∙ u.1
      by false e =
          u.3 (λ k. bytes_eq q k.items) (λ x y h. nat_list_eq_equiv.congr q x.items y.items h)
          (λ k h. differs q k.items (λ is. true≢false (sym (is_same p q (same_is p k.items h ∙ sym is)) ∙ e)))

  -- what is written through the node at a key changes it, and no other
  pub writes_change : {S : Type 0} (m n : IndexMap (Vec ℕ) (Node R) S) (p : Path) (x : Node R) (change : Node R → Node R) → Some x ≡ found m.entries p → WritesThrough (λ x y. bytes_eq x.items y.items) (λ k. bytes_eq p k.items) m (change x) n → Changes m n p change
  writes_change m n p x change is w =
      record {
        at = λ q. found_updated m n p (Some (change x)) (w.3 (ap is_some (sym is))) q ∙ by q (same p q) refl;
        room = w.6;
        len = w.2;
      }
    where
      by : (q : Path) (b : Bool) → same p q ≡ b → cond b (Some (change x)) (found m.entries q) ≡ cond b (option_map change (found m.entries q)) (found m.entries q)
      by q true e = ap (option_map change) (is ∙ ap (found m.entries) (same_is p q e))
      by q false e = refl

  -- what a change leaves of each node
  pub change_keeps : {S : Type 0} {X : Type 0} (m n : IndexMap (Vec ℕ) (Node R) S) (p : Path) (change : Node R → Node R) (field : Node R → X) → Changes m n p change → ((x : Node R) → field (change x) ≡ field x) → (q : Path) → option_map field (found n.entries q) ≡ option_map field (found m.entries q)
  change_keeps m n p change field c keeps q = ap (option_map field) (c.at q) ∙ by (same p q) (found m.entries q)
    where
      by : (b : Bool) (o : Option (Node R)) → option_map field (cond b (option_map change o) o) ≡ option_map field o
      by true None = refl
      by true (Some x) = ap Some (keeps x)
      by false o = refl

  pub change_there : {S : Type 0} (m n : IndexMap (Vec ℕ) (Node R) S) (p : Path) (change : Node R → Node R) → Changes m n p change → (q : Path) → is_some (found n.entries q) ≡ is_some (found m.entries q)
  change_there m n p change c q = ap is_some (c.at q) ∙ by (same p q) (found m.entries q)
    where
      by : (b : Bool) (o : Option (Node R)) → is_some (cond b (option_map change o) o) ≡ is_some o
      by true None = refl
      by true (Some x) = refl
      by false o = refl

  pub change_keeps_instances : {S : Type 0} (m n : IndexMap (Vec ℕ) (Node R) S) (p : Path) (change : Node R → Node R) → Changes m n p change → ((x : Node R) → instance_of (change x) ≡ instance_of x) → instances_of n.entries ≡ instances_of m.entries
  change_keeps_instances m n p change c keeps =
      same_instances _ _ (λ q. get_instances_of n.entries q ∙ change_keeps m n p change instance_of c keeps q ∙ sym (get_instances_of m.entries q))

  pub change_keeps_links : {S : Type 0} (m n : IndexMap (Vec ℕ) (Node R) S) (p : Path) (change : Node R → Node R) → Changes m n p change → ((x : Node R) → links_of (change x) ≡ links_of x) → links n.entries ≡ links m.entries
  change_keeps_links m n p change c keeps = λ i q. change_keeps m n p change links_of c keeps q i

  pub get_insert : (m : Instances R) (p : Path) (i : Instance R) (q : Path) → map.get (map.insert m p i) q ≡ cond (same p q) (Some i) (map.get m q)
  get_insert m p i q = map.get-insert total m p i q ∙ ap (λ b. cond b (Some i) (map.get m q)) (is_eq-slice_cmp q p ∙ nat_list_eq_equiv.symm q p)

  abbrev pub with_part_in : R → Node R → Node R
  with_part_in w x = record x { part = w }

  -- what is found, once one instance was changed
  pub get_changed : (m : Instances R) (p : Path) (change : Instance R → Instance R) (q : Path) → map.get (changed m p change) q ≡ cond (same p q) (option_map change (map.get m q)) (map.get m q)
  get_changed m p change q = by (map.get m p) refl
    where
      absent : (b : Bool) → same p q ≡ b → map.get m p ≡ None → map.get m q ≡ cond b (option_map change (map.get m q)) (map.get m q)
      absent true e none = let here = ap (map.get m) (sym (same_is p q e)) ∙ none in here ∙ sym (ap (option_map change) here)
      absent false e none = refl

      there : (b : Bool) (i : Instance R) → same p q ≡ b → map.get m p ≡ Some i → cond b (Some (change i)) (map.get m q) ≡ cond b (option_map change (map.get m q)) (map.get m q)
      there true i e is = sym (ap (option_map change) (ap (map.get m) (sym (same_is p q e)) ∙ is))
      there false i e is = refl

      by : (o : Option (Instance R)) → map.get m p ≡ o → map.get (option_map_or (λ i. map.insert m p (change i)) o m) q ≡ cond (same p q) (option_map change (map.get m q)) (map.get m q)
      by None e = absent (same p q) refl e
      by (Some i) e = get_insert m p (change i) q ∙ there (same p q) i refl e

  -- a new part of one instance
  pub part_written : {S : Type 0} (t : Tree R) (m n : IndexMap (Vec ℕ) (Node R) S) (p q : Path) (w : R) → instances_of m.entries ≡ t.instances → p ≡ q → Changes m n p (with_part_in w) → instances_of n.entries ≡ (with_part t q w).instances
  part_written t m n p q w seen e c =
      same_instances _ _ (λ k.
      get_instances_of n.entries k ∙ ap (option_map instance_of) (c.at k) ∙ by (same p k) (found m.entries k)
      ∙ ap (λ o. cond (same p k) (option_map (with_other_part w) o) o) (sym (get_instances_of m.entries k) ∙ ap (λ m. map.get m k) seen)
      ∙ ap (λ p. cond (same p k) (option_map (with_other_part w) (map.get t.instances k)) (map.get t.instances k)) e
      ∙ sym (get_changed t.instances q (with_other_part w) k))
    where
      by : (b : Bool) (o : Option (Node R)) → option_map {T = Node R} instance_of (cond b (option_map (with_part_in w) o) o) ≡ cond b (option_map (with_other_part w) (option_map instance_of o)) (option_map instance_of o)
      by true None = refl
      by true (Some x) = refl
      by false o = refl

  -- a table in which a part was written is still that of a tree
  pub part_written_sound : {S : Type 0} (m n : IndexMap (Vec ℕ) (Node R) S) (p : Path) (w : R) (depth : ℕ) (way : Vec ℕ) → IsSound m.entries depth way → Changes m n p (with_part_in w) → IsSound n.entries depth way
  part_written_sound m n p w depth way sound c =
      record {
        linked = subst Linked (sym (change_keeps_links m n p (with_part_in w) c (λ x. refl))) sound.linked;
        bounded = λ q h. sound.bounded q (sym (change_there m n p (with_part_in w) c q) ∙ h);
        room = sound.room;
        empty = sound.empty;
      }

  -- the tree, once a part was written
  pub part_written_view : {S : Type 0} (t : Tree R) (m n : IndexMap (Vec ℕ) (Node R) S) (p q : Path) (w : R) (left : ℕ) → ◌≡◌ {A = Tree R} (record { instances = instances_of m.entries; spare = min (spare m) left }) t → p ≡ q → Changes m n p (with_part_in w) → ◌≡◌ {A = Tree R} (record { instances = instances_of n.entries; spare = min (spare n) left }) (with_part t q w)
  part_written_view t m n p q w left seen e c =
      let instances = part_written t m n p q w (ap (λ t. t.instances) seen) e c in
      let room = ap (λ s. min s left) c.room ∙ ap (λ t. t.spare) seen in
      λ i. record { instances = instances i; spare = room i }
