-- Tables of nodes, once an instance was placed or taken out.
use Rattle.std.proofs.Common.{◌≡◌, ◌≢◌, ℕ, zero, suc, ◌+◌, Bool, true, false, cond, List, [], Option, Some, None, is_some, refl, sym, ap, subst, ◌∙◌, arith, true≢false}
use Rattle.std.specs.Prelude.{IfSome}
use Rattle.std.specs.Option.{option_map, option_map_or}
use Rattle.std.specs.Global.{Vec}
use Rattle.std.specs.Str.{bytes_eq}
use Rattle.std.specs.FinMap as map
use Rattle.std.proofs.lemmas.Cmp.{nat_list_eq_equiv}
use Rattle.std.proofs.lemmas.Map.Text.{is_eq-slice_cmp}
use Rattle.indexmap.specs.IndexMap.{IndexMap, UpdatesBy}
use Rattle.estelle_tree.specs.Paths.{Path, child, parent_of, last_of}
use Rattle.module_tree.specs.Trees.{changed, one_more_birth, new_born, placed}
use Rattle.module_tree.specs.Nodes.{same, Links, Linked, number_at, born, first_links, backward, back, instance_of, links_of, instances_of, found, links, with_next, with_birth, node_back, Changes}
use Rattle.module_tree.specs.declared.nodes.Node.{Node}
use Rattle.module_tree.proofs.Paths.{same_is, child_is}
use Rattle.module_tree.proofs.Seen.{total, get_instances_of, same_instances, get_insert, get_changed, found_updated, change_keeps, change_there}
use Rattle.module_tree.proofs.Linking.{last_at, previous_at, next_at}
use Rattle.module_tree.proofs.Updates.{Updated, Gone, Added}
use Rattle.module_tree.proofs.Unlinking.{unlinked}
use Rattle.module_tree.proofs.Placing.{linked_new}

none_of : {A : Type 0} (o : Option A) → is_some o ≢ true → o ≡ None
none_of None h = refl
none_of (Some x) h = absurd (h refl)

-- the same key, by another name
pub same_key : {A : Type 0} (p q k : Path) (x y z : A) → p ≡ q → z ≡ cond (same p k) x y → z ≡ cond (same q k) x y
same_key p q k x y z e is = is ∙ ap (λ p. cond (same p k) x y) e

abbrev pub Table : Type 0 → Type 0 → Type 0
Table R S = IndexMap (Vec ℕ) (Node R) S

links_there : {R : Type 0} (es : List (Vec ℕ × Node R)) (q : Path) → is_some (links es q) ≡ is_some (found es q)
links_there {R} es q = by (found es q)
  where
    by : (o : Option (Node R)) → is_some (option_map links_of o) ≡ is_some o
    by None = refl
    by (Some x) = refl

back_links : {R : Type 0} (z a : ℕ) (x : Node R) → links_of (node_back z a x) ≡ back z a (links_of x)
back_links zero a x = refl
back_links (suc z) a x = refl

back_instance : {R : Type 0} (z a : ℕ) (x : Node R) → instance_of (node_back z a x) ≡ instance_of x
back_instance zero a x = refl
back_instance (suc z) a x = refl

module _ {R S : Type 0} where
  pub links_updated : (m n : Table R S) (key : Path) (change : Node R → Node R) (change_links : Links → Links) → Changes m n key change → ((x : Node R) → links_of (change x) ≡ change_links (links_of x)) → Updated (links m.entries) (links n.entries) key change_links
  links_updated m n key change change_links c alike = record { at = λ q. ap (option_map links_of) (c.at q) ∙ by (same key q) (found m.entries q) }
    where
      by : (b : Bool) (o : Option (Node R)) → option_map links_of (cond b (option_map change o) o) ≡ cond b (option_map change_links (option_map links_of o)) (option_map links_of o)
      by true None = refl
      by true (Some x) = ap Some (alike x)
      by false o = refl

  -- ---- one more instance

  -- the child at p was placed by three steps: its birth was counted, the last child joined to it, and it was added
  pub record Placed (m h j g : Table R S) (p : Path) (b k : ℕ) (part : R) : Type 0 where
    pub below : p ≢ []
    pub number : k ≡ last_of p
    pub next : IfSome (found m.entries (parent_of p)) (λ n. last_of p ≡ n.births + 1)
    pub before : Some b ≡ option_map (λ n. n.last) (found m.entries (parent_of p))
    pub bore : Changes m h (parent_of p) (with_birth k)
    pub joined : Changes h j (child (parent_of p) b) (with_next k)
    pub added : (q : Path) → found g.entries q ≡ cond (same p q) (Some (record { part = part; births = 0; last = 0; previous = b; next = 0 })) (found j.entries q)

  module _ (m h j g : Table R S) (p : Path) (b k : ℕ) (part : R) (s : Placed m h j g p b k part) where
    last_is : (o : Option (Node R)) → Some b ≡ option_map (λ n. n.last) o → b ≡ option_map_or (λ n. n.last) (option_map links_of o) 0
    last_is None e = absurd (true≢false (ap is_some e))
    last_is (Some x) e = ap (λ o. option_map_or (λ n. n) o 0) e

    there : (o : Option (Node R)) → Some b ≡ option_map (λ n. n.last) o → is_some (option_map links_of o) ≡ true
    there None e = absurd (true≢false (ap is_some e))
    there (Some x) e = refl

    births_is : (o : Option (Node R)) → Some b ≡ option_map (λ n. n.last) o → IfSome o (λ n. last_of p ≡ n.births + 1) → k ≡ option_map_or (λ n. n.births) (option_map links_of o) 0 + 1
    births_is None e h = absurd (true≢false (ap is_some e))
    births_is (Some x) e h = s.number ∙ h

    added_links : Added (links j.entries) (links g.entries) p (first_links b)
    added_links = record { at = λ q. ap (option_map links_of) (s.added q) ∙ by (same p q) (found j.entries q) }
      where
        by : (c : Bool) (o : Option (Node R)) → option_map links_of (cond c (Some (record { part = part; births = 0; last = 0; previous = b; next = 0 })) o) ≡ cond c (Some (first_links b)) (option_map links_of o)
        by true o = refl
        by false o = refl

    pub placed_linked : Linked (links m.entries) → Linked (links g.entries)
    placed_linked l =
        linked_new (links m.entries) (links h.entries) (links j.entries) (links g.entries) (parent_of p) b k l
        (there _ s.before) (last_is _ s.before) (births_is _ s.before s.next)
        (links_updated m h _ (with_birth k) (born k) s.bore (λ x. refl))
        (links_updated h j _ (with_next k) (λ n. record n { next = k }) s.joined (λ x. refl))
        (subst (λ q. Added (links j.entries) (links g.entries) q (first_links b)) (child_is p s.below ∙ ap (child (parent_of p)) (sym s.number)) added_links)

    -- what the parent is seen as, once its births have this number
    counts : (c : Bool) (o : Option (Node R)) → (c ≡ true → IfSome o (λ n. last_of p ≡ n.births + 1)) → option_map instance_of (cond c (option_map (with_birth k) o) o) ≡ cond c (option_map one_more_birth (option_map instance_of o)) (option_map instance_of o)
    counts true None h = refl
    counts true (Some x) h = let e = s.number ∙ h refl in λ i. Some (record { part = x.part; births = e i })
    counts false o h = refl

    pub placed_instances : instances_of g.entries ≡ placed (instances_of m.entries) p part
    placed_instances =
        same_instances _ _ (λ q.
        get_instances_of g.entries q ∙ ap (option_map instance_of) (s.added q) ∙ by q (same p q) (found j.entries q)
        ∙ ap (cond (same p q) (Some (new_born part))) (seen q) ∙ sym (get_insert (changed (instances_of m.entries) (parent_of p) one_more_birth) p (new_born part) q))
      where
        by : (q : Path) (c : Bool) (o : Option (Node R)) → option_map instance_of (cond c (Some (record { part = part; births = 0; last = 0; previous = b; next = 0 })) o) ≡ cond c (Some (new_born part)) (option_map instance_of o)
        by q true o = refl
        by q false o = refl

        seen : (q : Path) → option_map instance_of (found j.entries q) ≡ map.get (changed (instances_of m.entries) (parent_of p) one_more_birth) q
        seen q =
            change_keeps h j _ (with_next k) instance_of s.joined (λ x. refl) q ∙ ap (option_map instance_of) (s.bore.at q)
            ∙ counts (same (parent_of p) q) (found m.entries q) (λ e. subst (λ q. IfSome (found m.entries q) (λ n. last_of p ≡ n.births + 1)) (same_is (parent_of p) q e) s.next)
            ∙ ap (λ o. cond (same (parent_of p) q) (option_map one_more_birth o) o) (sym (get_instances_of m.entries q))
            ∙ sym (get_changed (instances_of m.entries) (parent_of p) one_more_birth q)

  -- ---- one instance less

  pub no_child_zero : (m : Table R S) (p : Path) → Linked (links m.entries) → found m.entries (child p 0) ≡ None
  no_child_zero m p l = none_of _ (λ e. let low = l.positive p 0 (links_there m.entries (child p 0) ∙ e) in omega arith)

  -- the instance at p was taken out by three steps: it is gone, what named it names the one before, and that the one after
  pub record Unlinked (m h j g : Table R S) (p : Path) (n : Node R) : Type 0 where
    pub below : p ≢ []
    pub was : Some n ≡ found m.entries p
    pub leaf : number_at (λ n. n.last) (links m.entries) p ≡ 0
    pub gone : UpdatesBy (λ x y. bytes_eq x.items y.items) (λ k. bytes_eq p k.items) m h None
    pub joined : Changes h j (backward (parent_of p) n.next) (node_back n.next n.previous)
    pub ended : Changes j g (child (parent_of p) n.previous) (with_next n.next)

  module _ (m h : Table R S) (p : Path) (gone : UpdatesBy (λ x y. bytes_eq x.items y.items) (λ k. bytes_eq p k.items) m h None) where
    links_gone : Gone (links m.entries) (links h.entries) p
    links_gone = record { at = λ q. ap (option_map links_of) (found_updated m h p None gone q) ∙ by (same p q) (found m.entries q) }
      where
        by : (b : Bool) (o : Option (Node R)) → option_map links_of (cond b None o) ≡ cond b None (option_map links_of o)
        by true o = refl
        by false o = refl

    -- a change after that leaves no child with the number 0
    pub no_child_zero_left : (j : Table R S) (key q : Path) (change : Node R → Node R) → Linked (links m.entries) → Changes h j key change → found j.entries (child q 0) ≡ None
    no_child_zero_left j key q change l c =
        none_of _ (λ e. true≢false (sym (sym (change_there h j key change c (child q 0)) ∙ e) ∙ ap is_some (found_updated m h p None gone (child q 0)) ∙ by (same p (child q 0)) (found m.entries (child q 0)) (no_child_zero m q l)))
      where
        by : (b : Bool) (o : Option (Node R)) → o ≡ None → is_some (cond b None o) ≡ false
        by true o e = refl
        by false o e = ap is_some e

  module _ (m h j g : Table R S) (p : Path) (n : Node R) (s : Unlinked m h j g p n) where
    field_is : (field : Links → ℕ) → field (links_of n) ≡ number_at field (links m.entries) p
    field_is field = ap (λ o. option_map_or field (option_map links_of o) 0) s.was

    own : p ≡ child (parent_of p) (last_of p)
    own = child_is p s.below

    pub unlinked_linked : Linked (links m.entries) → Linked (links g.entries)
    unlinked_linked l =
        unlinked (links m.entries) (links h.entries) (links j.entries) (links g.entries) (parent_of p) (last_of p) n.previous n.next l
        (subst (λ q. is_some (links m.entries q) ≡ true) own (ap (λ o. is_some (option_map links_of o)) (sym s.was)))
        (subst (λ q. last_at (links m.entries) q ≡ 0) own s.leaf)
        (subst (λ q. n.previous ≡ previous_at (links m.entries) q) own (field_is (λ n. n.previous)))
        (subst (λ q. n.next ≡ next_at (links m.entries) q) own (field_is (λ n. n.next)))
        (subst (Gone (links m.entries) (links h.entries)) own (links_gone m h p s.gone))
        (links_updated h j _ (node_back n.next n.previous) (back n.next n.previous) s.joined (back_links n.next n.previous))
        (links_updated j g _ (with_next n.next) (λ x. record x { next = n.next }) s.ended (λ x. refl))

    pub unlinked_instances : instances_of g.entries ≡ map.remove (instances_of m.entries) p
    unlinked_instances =
        same_instances _ _ (λ q.
        get_instances_of g.entries q ∙ change_keeps j g _ (with_next n.next) instance_of s.ended (λ x. refl) q
        ∙ change_keeps h j _ (node_back n.next n.previous) instance_of s.joined (back_instance n.next n.previous) q
        ∙ ap (option_map instance_of) (found_updated m h p None s.gone q) ∙ by (same p q) (found m.entries q)
        ∙ ap (cond (same p q) None) (sym (get_instances_of m.entries q))
        ∙ ap (λ b. cond b None (map.get (instances_of m.entries) q)) (nat_list_eq_equiv.symm p q ∙ sym (is_eq-slice_cmp q p))
        ∙ sym (map.get-remove total (instances_of m.entries) p q))
      where
        by : (b : Bool) (o : Option (Node R)) → option_map instance_of (cond b None o) ≡ cond b None (option_map instance_of o)
        by true o = refl
        by false o = refl
