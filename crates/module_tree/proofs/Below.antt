-- The instances at and below one, gone through backwards.
use Rattle.std.proofs.Common.{◌≡◌, ◌≢◌, ◌<◌, ◌≤◌, ◌-◌, ℕ, suc, Bool, true, false, cond, not, T, List, [], ◌∷◌, ◌++◌, length, map as each, filter, reverse, Option, Some, None, is_some, refl, sym, ap, subst, ◌∙◌, arith, true≢false, append-nil, length-append, take}
use Rattle.std.specs.Prelude.{◌&&◌}
use Rattle.std.specs.Option.{option_map, option_map_or, unwrap_or}
use Rattle.std.proofs.lemmas.List.{reverse-append, reverse-reverse, length-map, length-reverse, map-append}
use Rattle.std.specs.List.{AllByRecursion}
use Rattle.std.specs.Global.{Vec}
use Rattle.std.specs.Ordering.{is_lt, is_eq, eq_by_cmp, ordering_reverse}
use Rattle.std.specs.Cmp.{tied_itself}
use Rattle.std.specs.declared.cmp.Ordering.{Ordering}
use Rattle.std.specs.declared.cmp.Ordering.TheVariants.{Less, Equal, Greater}
use Rattle.std.specs.FinMap as map
use Rattle.std.specs.FinMap.{find}
use Rattle.std.specs.FinMap.Entries.{below_all, is_sorted}
use Rattle.estelle_tree.specs.Paths.{Path, path_cmp, child, parent_of, last_of, is_inside}
use Rattle.module_tree.specs.Trees.{Instance, parts_below}
use Rattle.module_tree.specs.Nodes.{latest, Links, Linked, has_child, instance_of, links_of, instances_of, found, links}
use Rattle.module_tree.specs.declared.nodes.Node.{Node}
use Rattle.module_tree.proofs.Latest.{latest_ge, latest_le, latest_there}
use Rattle.module_tree.proofs.Linking.{births_at, last_at, previous_at, childless}
use Rattle.module_tree.proofs.Paths.{child_is, parent_of-take}
use Rattle.module_tree.proofs.Chains.{map-reverse}
use Rattle.module_tree.proofs.Seen.{total, apart, get_instances_of}
use Rattle.module_tree.proofs.Removing.{inside_way, way_inside, inside_as_long, nothing_below, links_found}
use Rattle.module_tree.proofs.Order.{same_way, through, longer, not_before_itself, squeezed, lower, lower_sibling, number_before, next_to}

first : (a b : Bool) → T (a && b) → T a
first true b p = tt
first false b p = p

second : (a b : Bool) → T (a && b) → T b
second true b p = p
second false b p = absurd p

less : (o : Ordering) → T (is_lt o) → o ≡ Less
less Less p = refl
less Equal p = absurd p
less Greater p = absurd p

less_is : (o : Ordering) → is_lt o ≡ true → o ≡ Less
less_is Less h = refl
less_is Equal h = absurd (true≢false (sym h))
less_is Greater h = absurd (true≢false (sym h))

-- ---- what is there between two instances

-- what is inside the first place and there is not after the second
abbrev pub IsLast : (Path → Option Links) → Path → Path → Type 0
IsLast f p w = (q : Path) → is_some (f q) ≡ true → is_inside p q ≡ true → is_lt (path_cmp w q) ≡ false

module _ (f : Path → Option Links) (l : Linked f) where
  -- the child on the way to an instance is there
  on_the_way : (p : Path) (j : ℕ) (r : Path) → is_some (f (p ++ (j ∷ r))) ≡ true → is_some (f (child p j)) ≡ true
  on_the_way p j r h = by (is_some (f (child p j))) refl
    where
      by : (b : Bool) → is_some (f (child p j)) ≡ b → b ≡ true
      by true e = refl
      by false e = absurd (nothing_below f (child p j) l e (length r) r refl (ap (λ q. is_some (f q)) (through p j r) ∙ h))

  module _ (p : Path) (q : Path) (here : is_some (f q) ≡ true) where
    -- after an instance, and inside it, there is no more than is inside its last child
    pub last_child_inside : (k : ℕ) → k ≡ last_at f p → is_inside p q ≡ true → path_cmp (child p k) q ≡ Less → is_inside (child p k) q ≡ true
    last_child_inside k is inside e =
        let r = inside_way p q inside in
        by r.0 r.1 (sym (same_way p (k ∷ []) r.0) ∙ ap (path_cmp (child p k)) (sym r.1) ∙ e)
      where
        by : (r : Path) → q ≡ p ++ r → path_cmp (k ∷ []) r ≡ Less → is_inside (child p k) q ≡ true
        by [] at e = absurd (cc)
        by (j ∷ r) at e =
            let there = on_the_way p j r (ap (λ q. is_some (f q)) (sym at) ∙ here) in
            let most = latest_ge (has_child f p) (births_at f p) j there (l.counted p j there) in
            let top = is ∙ l.last p in
            let least = lower k j [] r e in
            let same : j ≡ k = omega arith in
            subst (λ q. is_inside (child p k) q ≡ true) (through p k r ∙ ap (λ j. p ++ (j ∷ r)) (sym same) ∙ sym at) (way_inside (child p k) r)

    -- nothing is below an instance with no child
    pub childless_last : last_at f p ≡ 0 → is_inside p q ≡ true → path_cmp p q ≢ Less
    childless_last none inside e = let r = inside_way p q inside in by r.0 r.1
      where
        by : (r : Path) → q ≡ p ++ r → ⊥
        by [] at = not_before_itself p (ap (path_cmp p) (sym (at ∙ append-nil p)) ∙ e)
        by (j ∷ r) at = childless f p j l none (on_the_way p j r (ap (λ q. is_some (f q)) (sym at) ∙ here))

    module _ (k : ℕ) (e : path_cmp q (child p k) ≡ Less) where
      -- a child that is there, at or above an instance before the child k
      before : (r : Path) (j : ℕ) → q ≡ p ++ (j ∷ r) → (is_some (f (child p j)) ≡ true) × (j ≤ latest (has_child f p) (k - 1))
      before r j at =
          let there = on_the_way p j r (ap (λ q. is_some (f q)) (sym at) ∙ here) in
          let lower = lower_sibling j k r (sym (same_way p (j ∷ r) (k ∷ [])) ∙ ap (λ q. path_cmp q (child p k)) (sym at) ∙ e) in
          (there, latest_ge (has_child f p) (k - 1) j there (omega arith))

      none_after_parent : latest (has_child f p) (k - 1) ≡ 0 → path_cmp p q ≢ Less
      none_after_parent none d = let r = squeezed p [] (k ∷ []) q (ap (λ p. path_cmp p q) (append-nil p) ∙ d) e in by r.0 r.1
        where
          by : (r : Path) → q ≡ p ++ r → ⊥
          by [] at = not_before_itself p (ap (path_cmp p) (sym (at ∙ append-nil p)) ∙ d)
          by (j ∷ r) at = let b = before r j at in let low = l.positive p j b.0 in let most = b.1 in omega arith

      none_after_sibling : (i : ℕ) (w s : Path) → i ≡ latest (has_child f p) (k - 1) → w ≡ p ++ (i ∷ s) → IsLast f (child p i) w → path_cmp w q ≢ Less
      none_after_sibling i w s is way last d = let r = squeezed p (i ∷ s) (k ∷ []) q (ap (λ w. path_cmp w q) (sym way) ∙ d) e in by r.0 r.1
        where
          by : (r : Path) → q ≡ p ++ r → ⊥
          by [] at = let h : path_cmp (i ∷ s) [] ≡ Less = sym (same_way p (i ∷ s) []) ∙ ap (path_cmp (p ++ (i ∷ s))) (sym at) ∙ ap (λ w. path_cmp w q) (sym way) ∙ d in absurd (cc)
          by (j ∷ r) at =
              let b = before r j at in
              let most = b.1 in
              let least = lower i j s r (sym (same_way p (i ∷ s) (j ∷ r)) ∙ ap (path_cmp (p ++ (i ∷ s))) (sym at) ∙ ap (λ w. path_cmp w q) (sym way) ∙ d) in
              let same : j ≡ i = omega arith in
              true≢false (sym (ap is_lt d) ∙ last q here (subst (λ q. is_inside (child p i) q ≡ true) (through p i r ∙ ap (λ j. p ++ (j ∷ r)) (sym same) ∙ sym at) (way_inside (child p i) r)))

  -- from a child on to the one before it in path order
  pub parent_next_to : (p : Path) (k : ℕ) → latest (has_child f p) (k - 1) ≡ 0 → (q : Path) → is_some (f q) ≡ true → is_lt (path_cmp p q) ≡ not (is_lt (path_cmp q (child p k)))
  parent_next_to p k none q here = next_to p (child p k) q (longer p k []) (λ d e. none_after_parent p q here k e none d)

  pub sibling_next_to : (p : Path) (k i : ℕ) (w : Path) → is_some (f (child p k)) ≡ true → i ≡ latest (has_child f p) (k - 1) → is_inside (child p i) w ≡ true → IsLast f (child p i) w → (q : Path) → is_some (f q) ≡ true → is_lt (path_cmp w q) ≡ not (is_lt (path_cmp q (child p k)))
  sibling_next_to p k i w there is inside last q here =
      let s = inside_way (child p i) w inside in
      let way : w ≡ p ++ (i ∷ s.0) = s.1 ∙ through p i s.0 in
      let low = l.positive p k there in
      let most = latest_le (has_child f p) (k - 1) in
      next_to w (child p k) q
      (ap (λ w. path_cmp w (child p k)) way ∙ same_way p (i ∷ s.0) (k ∷ []) ∙ number_before i k s.0 [] (omega arith))
      (λ d e. none_after_sibling p q here k e i w s.0 is way last d)

module _ {R : Type 0} (es : List (Vec ℕ × Node R)) where
  -- what is inside the first place, and after the second, is inside the second
  abbrev pub IsRest : Path → Path → Type 0
  IsRest p w = (q : Path) → is_some (found es q) ≡ true → is_inside p q ≡ true → is_lt (path_cmp w q) ≡ true → is_inside w q ≡ true

module _ {R : Type 0} (es : List (Vec ℕ × Node R)) (l : Linked (links es)) where
  pub rest_deeper : (p w v : Path) (k : ℕ) → k ≡ last_at (links es) w → v ≡ child w k → IsRest es p w → IsRest es p v
  rest_deeper p w v k is at rest q here inside after =
      let late : path_cmp (child w k) q ≡ Less = ap (λ v. path_cmp v q) (sym at) ∙ less_is (path_cmp v q) after in
      subst (λ v. is_inside v q ≡ true) (sym at)
      (last_child_inside (links es) l w q (links_found es q ∙ here) k is (rest q here inside (ap is_lt (total.trans w (child w k) q (longer w k []) late))) late)

  pub rest_last : (p w : Path) (k : ℕ) → k ≡ last_at (links es) w → k ≡ 0 → IsRest es p w → (q : Path) → is_some (found es q) ≡ true → is_inside p q ≡ true → is_lt (path_cmp w q) ≡ false
  rest_last p w k is none rest q here inside = by (is_lt (path_cmp w q)) refl
    where
      by : (b : Bool) → is_lt (path_cmp w q) ≡ b → b ≡ false
      by true e = absurd (childless_last (links es) l w q (links_found es q ∙ here) (sym is ∙ none) (rest q here inside e) (less_is (path_cmp w q) e))
      by false e = refl

  module _ (w : Path) (some : w ≢ []) (there : is_some (found es w) ≡ true) (k : ℕ) (is : k ≡ previous_at (links es) w) where
    child_there : is_some (links es (child (parent_of w) (last_of w))) ≡ true
    child_there = ap (λ w. is_some (links es w)) (sym (child_is w some)) ∙ links_found es w ∙ there

    before_it : k ≡ latest (has_child (links es) (parent_of w)) (last_of w - 1)
    before_it = is ∙ ap (previous_at (links es)) (child_is w some) ∙ l.previous (parent_of w) (last_of w) child_there

    pub back_to_parent : k ≡ 0 → (q : Path) → is_some (found es q) ≡ true → is_lt (path_cmp (parent_of w) q) ≡ not (is_lt (path_cmp q w))
    back_to_parent none q here =
        subst (λ w'. is_lt (path_cmp (parent_of w) q) ≡ not (is_lt (path_cmp q w'))) (sym (child_is w some))
        (parent_next_to (links es) l (parent_of w) (last_of w) (sym before_it ∙ none) q (links_found es q ∙ here))

    pub sibling_there : k ≢ 0 → is_some (found es (child (parent_of w) k)) ≡ true
    sibling_there d =
        sym (links_found es (child (parent_of w) k))
        ∙ subst (λ k. has_child (links es) (parent_of w) k ≡ true) (sym before_it) (latest_there (has_child (links es) (parent_of w)) (last_of w - 1) (λ e. d (before_it ∙ e)))

    pub back_to_sibling : (v : Path) → is_inside (child (parent_of w) k) v ≡ true → ((q : Path) → is_some (found es q) ≡ true → is_inside (child (parent_of w) k) q ≡ true → is_lt (path_cmp v q) ≡ false) → (q : Path) → is_some (found es q) ≡ true → is_lt (path_cmp v q) ≡ not (is_lt (path_cmp q w))
    back_to_sibling v inside last q here =
        subst (λ w'. is_lt (path_cmp v q) ≡ not (is_lt (path_cmp q w'))) (sym (child_is w some))
        (sibling_next_to (links es) l (parent_of w) (last_of w) k v child_there before_it inside (λ r h. last r (sym (links_found es r) ∙ h)) q (links_found es q ∙ here))

pub popped : (w v : Path) (n : ℕ) → n ≡ length w → v ≡ take (n - 1) w → v ≡ parent_of w
popped w v n long is = is ∙ ap (λ n. take (n - 1) w) long ∙ parent_of-take w

pub popped_and_pushed : (w v u : Path) (n k : ℕ) → n ≡ length w → v ≡ take (n - 1) w → u ≡ child v k → u ≡ child (parent_of w) k
popped_and_pushed w v u n k long is more = more ∙ ap (λ p. child p k) (popped w v n long is)

pub below_some : (p w : Path) → is_inside p w ≡ true → length w ≢ length p → w ≢ []
below_some p w inside other e =
    let r = inside_way p w inside in
    let a = ap length r.1 in
    let b = length-append p r.0 in
    let c = ap length e in
    other (omega arith)

-- ---- lists of what is referred to

module _ {A B : Type 0} (f : A → B) where
  pub none_yet : (xs : List A) (zs : List B) → xs ≡ [] → [] ≡ zs → each f xs ≡ zs
  none_yet xs zs e is = ap (each f) e ∙ is

  pub pushed : (xs ys : List A) (x : A) → ys ≡ xs ++ x ∷ [] → each f ys ≡ each f xs ++ f x ∷ []
  pushed xs ys x is = ap (each f) is ∙ map-append f xs (x ∷ [])

  pub fewer_left : (xs ys : List A) (x : A) (n : ℕ) → ys ≡ xs ++ x ∷ [] → length (each f xs) < n → n - length ys < n - length xs
  fewer_left xs ys x n is h =
      let a = ap length is in
      let b = length-append xs (x ∷ []) in
      let c = length-map xs f in
      omega arith

  pub turned : (xs ys : List A) (zs : List B) → ys ≡ reverse xs → each f xs ≡ reverse zs → each f ys ≡ zs
  turned xs ys zs is h = ap (each f) is ∙ map-reverse f xs ∙ ap reverse h ∙ reverse-reverse zs

-- ---- entries in the order of their keys

module _ {X : Type 0} where
  abbrev pub after : Path → List (Path × X) → List (Path × X)
  after w = filter (λ e. is_lt (path_cmp w e.0))

  abbrev pub not_before : Path → List (Path × X) → List (Path × X)
  not_before w = filter (λ e. not (is_lt (path_cmp e.0 w)))

  filter_alike : (P Q : Path → Bool) (es : List (Path × X)) → AllByRecursion (λ e. P e.0 ≡ Q e.0) es → filter (λ e. P e.0) es ≡ filter (λ e. Q e.0) es
  filter_alike P Q [] h = refl
  filter_alike P Q (e ∷ es) h = λ i. cond (h.0 i) (e ∷ filter_alike P Q es h.1 i) (filter_alike P Q es h.1 i)

  filter_all : (P : Path → Bool) (es : List (Path × X)) → AllByRecursion (λ e. P e.0 ≡ true) es → filter (λ e. P e.0) es ≡ es
  filter_all P [] h = refl
  filter_all P (e ∷ es) h = λ i. cond (h.0 i) (e ∷ filter_all P es h.1 i) (filter_all P es h.1 i)

  filter_none : (P : Path → Bool) (es : List (Path × X)) → AllByRecursion (λ e. P e.0 ≡ false) es → filter (λ e. P e.0) es ≡ []
  filter_none P [] h = refl
  filter_none P (e ∷ es) h = λ i. cond (h.0 i) (e ∷ filter_none P es h.1 i) (filter_none P es h.1 i)

  -- what holds of each key that is found holds of each entry
  each_key : (S : Path → Type 0) (es : List (Path × X)) → ((q : Path) → is_some (find path_cmp q es) ≡ true → S q) → AllByRecursion (λ e. S e.0) es
  each_key S [] h = tt
  each_key S (e ∷ es) h =
      (h e.0 (ap (λ o. is_some (cond (is_eq o) (Some e.1) (find path_cmp e.0 es))) (tied_itself total e.0)), each_key S es (λ q k. h q (by (eq_by_cmp path_cmp q e.0) q k)))
    where
      by : (b : Bool) (q : Path) → is_some (find path_cmp q es) ≡ true → is_some (cond b (Some e.1) (find path_cmp q es)) ≡ true
      by true q k = refl
      by false q k = k

  keys_after : (w : Path) (es : List (Path × X)) → T (below_all path_cmp w es) → AllByRecursion (λ e. path_cmp w e.0 ≡ Less) es
  keys_after w [] h = tt
  keys_after w (e ∷ es) h = (less _ (first _ _ h), keys_after w es (second _ _ h))

  all_more : (P Q : Path → Type 0) → ((q : Path) → P q → Q q) → (es : List (Path × X)) → AllByRecursion (λ e. P e.0) es → AllByRecursion (λ e. Q e.0) es
  all_more P Q f [] h = tt
  all_more P Q f (e ∷ es) h = (f e.0 h.0, all_more P Q f es h.1)

  not_found : (w : Path) (es : List (Path × X)) → AllByRecursion (λ e. path_cmp w e.0 ≡ Less) es → find path_cmp w es ≡ None
  not_found w [] h = refl
  not_found w (e ∷ es) h = ap (λ o. cond (is_eq o) (Some e.1) (find path_cmp w es)) h.0 ∙ not_found w es h.1

  -- from the entry of a key on
  pub entry_first : (w : Path) (x : X) (es : List (Path × X)) → T (is_sorted path_cmp es) → find path_cmp w es ≡ Some x → not_before w es ≡ (w, x) ∷ after w es
  entry_first w x [] sorted is = absurd (cc)
  entry_first w x (e ∷ es) sorted is = by (path_cmp w e.0) refl (entry_first w x es (second _ _ sorted))
    where
      rest : AllByRecursion (λ f. path_cmp e.0 f.0 ≡ Less) es
      rest = keys_after e.0 es (first _ _ sorted)

      by : (o : Ordering) → path_cmp w e.0 ≡ o → (find path_cmp w es ≡ Some x → not_before w es ≡ (w, x) ∷ after w es) → not_before w (e ∷ es) ≡ (w, x) ∷ after w (e ∷ es)
      by Less c again =
          let none = not_found w (e ∷ es) (c, all_more (λ q. path_cmp e.0 q ≡ Less) (λ q. path_cmp w q ≡ Less) (λ q d. total.trans w e.0 q c d) es rest) in
          let h : None ≡ Some x = sym none ∙ is in
          absurd (cc)
      by Equal c again =
          let key = apart w e.0 c in
          let value = ap (λ (o : Option X). unwrap_or o x) (ap (λ o. cond (is_eq o) (Some e.1) (find path_cmp w es)) (sym c) ∙ is) in
          let later = all_more (λ q. path_cmp e.0 q ≡ Less) (λ q. path_cmp w q ≡ Less) (λ q d. total.congr w e.0 q c ∙ d) es rest in
          let all = filter_all (λ q. not (is_lt (path_cmp q w))) es (all_more (λ q. path_cmp w q ≡ Less) (λ q. not (is_lt (path_cmp q w)) ≡ true) (λ q d. ap (λ o. not (is_lt o)) (total.antisymm q w ∙ ap ordering_reverse d)) es later) in
          let none = filter_all (λ q. is_lt (path_cmp w q)) es (all_more (λ q. path_cmp w q ≡ Less) (λ q. is_lt (path_cmp w q) ≡ true) (λ q d. ap is_lt d) es later) in
          ap (λ o. cond (not (is_lt o)) (e ∷ not_before w es) (not_before w es)) (total.antisymm e.0 w ∙ ap ordering_reverse c)
          ∙ (λ i. (sym key i, value i) ∷ (all ∙ sym none) i) ∙ ap (λ o. (w, x) ∷ cond (is_lt o) (e ∷ after w es) (after w es)) (sym c)
      by Greater c again =
          ap (λ o. cond (not (is_lt o)) (e ∷ not_before w es) (not_before w es)) (total.antisymm e.0 w ∙ ap ordering_reverse c)
          ∙ again (ap (λ o. cond (is_eq o) (Some e.1) (find path_cmp w es)) (sym c) ∙ is)
          ∙ ap (λ o. (w, x) ∷ cond (is_lt o) (e ∷ after w es) (after w es)) (sym c)

  fewer : (P : Path × X → Bool) (es : List (Path × X)) → length (filter P es) ≤ length es
  fewer P [] = omega arith
  fewer P (e ∷ es) = by (P e) (fewer P es)
    where
      by : (b : Bool) → length (filter P es) ≤ length es → length (cond b (e ∷ filter P es) (filter P es)) ≤ suc (length es)
      by true h = omega arith
      by false h = omega arith

-- ---- what is kept of the instances at and below one

module _ {R : Type 0} (es : List (Vec ℕ × Node R)) (p : Path) where
  abbrev pub listed : List (Path × Instance R)
  listed = map.entries (map.retain_keys (instances_of es) (is_inside p))

  abbrev parts : List (Path × Instance R) → List R
  parts = each (λ e. e.1.part)

  find_listed : (q : Path) → find path_cmp q listed ≡ cond (is_inside p q) (option_map instance_of (found es q)) None
  find_listed q =
      sym (map.get-entries (map.retain_keys (instances_of es) (is_inside p)) q) ∙ map.get-retain_keys (instances_of es) (is_inside p) q (λ x e. ap (is_inside p) (sym (apart q x e)))
      ∙ ap (λ o. cond (is_inside p q) o None) (get_instances_of es q)

  only : (q : Path) → is_some (find path_cmp q listed) ≡ true → (is_some (found es q) ≡ true) × (is_inside p q ≡ true)
  only q h = by (is_inside p q) (found es q) (sym (ap is_some (find_listed q)) ∙ h)
    where
      by : (b : Bool) (o : Option (Node R)) → is_some (cond b (option_map instance_of o) None) ≡ true → (is_some o ≡ true) × (b ≡ true)
      by true None h = absurd (true≢false (sym h))
      by true (Some x) h = (refl, refl)
      by false o h = absurd (true≢false (sym h))

  -- the parts of the instances after this one, the last one first
  abbrev pub backward : Path → List R
  backward w = reverse (parts (after w listed))

  -- those from this one on
  abbrev pub backward_with : Path → List R
  backward_with w = reverse (parts (not_before w listed))

  pub none_after : (start w : Path) → start ≡ p → ((q : Path) → is_some (found es q) ≡ true → is_inside start q ≡ true → is_lt (path_cmp w q) ≡ false) → [] ≡ backward w
  none_after start w is last = ap (λ xs. reverse (parts xs)) (sym (filter_none (λ q. is_lt (path_cmp w q)) listed (each_key (λ q. is_lt (path_cmp w q) ≡ false) listed (λ q h.
      let o = only q h in
      last q o.0 (ap (λ p. is_inside p q) is ∙ o.1)))))

  module _ (w : Path) (n : Node R) (inside : is_inside p w ≡ true) (is : Some n ≡ found es w) where
    here : not_before w listed ≡ (w, instance_of n) ∷ after w listed
    here =
        entry_first w (instance_of n) listed (map.entries_sorted (map.retain_keys (instances_of es) (is_inside p)))
        (find_listed w ∙ ap (λ b. cond b (option_map instance_of (found es w)) None) inside ∙ ap (option_map instance_of) (sym is))

    pub one_more : (ps qs : List R) → ps ≡ backward w → qs ≡ ps ++ n.part ∷ [] → qs ≡ backward_with w
    one_more ps qs h more =
        more ∙ ap (λ xs. xs ++ n.part ∷ []) h ∙ sym (reverse-append (n.part ∷ []) (parts (after w listed))) ∙ ap (λ xs. reverse (parts xs)) (sym here)

    pub one_less : (ps : List R) → ps ≡ backward w → length ps < length listed
    one_less ps h =
        let a = ap length h in
        let b = length-reverse (parts (after w listed)) in
        let c = length-map (after w listed) (λ (e : Path × Instance R). e.1.part) in
        let d = ap length here in
        let e = fewer (λ e. not (is_lt (path_cmp e.0 w))) listed in
        omega arith

  pub previous_found : (w : Path) (n : Node R) → Some n ≡ found es w → n.previous ≡ previous_at (links es) w
  previous_found w n is = ap (λ (o : Option (Node R)). option_map_or (λ (m : Links). m.previous) (option_map links_of o) 0) is

  pub stepped : (v w : Path) → ((q : Path) → is_some (found es q) ≡ true → is_lt (path_cmp v q) ≡ not (is_lt (path_cmp q w))) → backward_with w ≡ backward v
  stepped v w h =
      ap (λ xs. reverse (parts xs)) (sym (filter_alike (λ q. is_lt (path_cmp v q)) (λ q. not (is_lt (path_cmp q w))) listed
      (each_key (λ q. is_lt (path_cmp v q) ≡ not (is_lt (path_cmp q w))) listed (λ q k. h q (only q k).0))))

  pub whole : (w : Path) → is_inside p w ≡ true → length w ≡ length p → backward_with w ≡ reverse (parts_below (instances_of es) p)
  whole w inside long =
      ap (λ xs. reverse (parts xs)) (ap (λ w. not_before w listed) (inside_as_long p w inside long)
      ∙ filter_all (λ q. not (is_lt (path_cmp q p))) listed (each_key (λ q. not (is_lt (path_cmp q p)) ≡ true) listed (λ q k. let r = inside_way p q (only q k).1 in by q r.0 r.1)))
    where
      by : (q r : Path) → q ≡ p ++ r → not (is_lt (path_cmp q p)) ≡ true
      by q [] at = ap (λ q. not (is_lt (path_cmp q p))) (at ∙ append-nil p) ∙ ap (λ o. not (is_lt o)) (tied_itself total p)
      by q (j ∷ r) at = ap (λ q. not (is_lt (path_cmp q p))) at ∙ ap (λ o. not (is_lt o)) (total.antisymm (p ++ (j ∷ r)) p ∙ ap ordering_reverse (longer p j r))
