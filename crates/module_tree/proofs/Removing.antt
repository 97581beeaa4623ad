-- An instance and all below it, taken out one by one.
use Rattle.std.proofs.Common.{◌≡◌, ◌≢◌, ◌<◌, ◌≤◌, ℕ, zero, suc, Bool, true, false, cond, not, List, [], ◌∷◌, ◌++◌, length, take, drop, Option, Some, None, is_some, refl, sym, ap, subst, ◌∙◌, arith, true≢false, append_assoc, append-nil, length-append}
use Rattle.std.specs.Option.{option_map}
use Rattle.std.specs.Global.{Vec}
use Rattle.std.specs.Ordering.{eq_by_cmp, is_eq}
use Rattle.std.specs.declared.cmp.Ordering.{Ordering}
use Rattle.std.specs.declared.cmp.Ordering.TheVariants.{Less, Equal, Greater}
use Rattle.std.specs.FinMap as map
use Rattle.std.proofs.lemmas.List.{take-append-drop}
use Rattle.std.proofs.Math.Seq.{take-append_seam}
use Rattle.std.proofs.lemmas.Map.Text.{is_eq-slice_cmp}
use Rattle.estelle_tree.specs.Paths.{Path, path_cmp, child, parent_of, last_of, is_inside}
use Rattle.module_tree.specs.Trees.{Instances, without}
use Rattle.module_tree.specs.Nodes.{Links, Linked, number_at, has_child, instance_of, links_of, instances_of, found, links}
use Rattle.module_tree.specs.declared.nodes.Node.{Node}
use Rattle.module_tree.proofs.Latest.{latest_there}
use Rattle.module_tree.proofs.Paths.{same_is, is_same, child_is, not_own_child, parent_of-child, length-child}
use Rattle.module_tree.proofs.Seen.{total, apart, get_instances_of, same_instances}
use Rattle.module_tree.proofs.Linking.{births_at, some_where}

-- ---- paths inside another

pub inside_way : (p q : Path) → is_inside p q ≡ true → (r : Path) × (q ≡ p ++ r)
inside_way p q h = (drop (length p) q, sym (take-append-drop (length p) q) ∙ ap (λ m. m ++ drop (length p) q) (sym (same_is p (take (length p) q) h)))

pub way_inside : (p r : Path) → is_inside p (p ++ r) ≡ true
way_inside p r = is_same p (take (length p) (p ++ r)) (sym (take-append_seam p r))

pub inside_itself : (p : Path) → is_inside p p ≡ true
inside_itself p = subst (λ q. is_inside p q ≡ true) (append-nil p) (way_inside p [])

pub inside_more : (p q r : Path) → is_inside p q ≡ true → is_inside p (q ++ r) ≡ true
inside_more p q r h = let w = inside_way p q h in subst (λ q. is_inside p q ≡ true) (sym (append_assoc p w.0 r) ∙ ap (λ m. m ++ r) (sym w.1)) (way_inside p (w.0 ++ r))

pub inside_inside : (p q r : Path) → is_inside p q ≡ true → is_inside q r ≡ true → is_inside p r ≡ true
inside_inside p q r h i = let w = inside_way q r i in subst (λ r. is_inside p r ≡ true) (sym w.1) (inside_more p q w.0 h)

nothing : (p : Path) → length p ≡ 0 → p ≡ []
nothing [] h = refl
nothing (k ∷ p) h = absurd (omega arith)

pub inside_some : (p q : Path) → is_inside p q ≡ true → p ≢ [] → q ≢ []
inside_some p q h some e =
    let w = inside_way p q h in
    let l = ap length w.1 in
    let m = length-append p w.0 in
    let o = ap length e in
    some (nothing p (omega arith))

pub inside_as_long : (p q : Path) → is_inside p q ≡ true → length q ≡ length p → q ≡ p
inside_as_long p q h e =
    let w = inside_way p q h in
    let l = ap length w.1 in
    let m = length-append p w.0 in
    w.1 ∙ ap (λ r. p ++ r) (nothing w.0 (omega arith)) ∙ append-nil p

pub inside_parent : (p q : Path) → is_inside p q ≡ true → length q ≢ length p → is_inside p (parent_of q) ≡ true
inside_parent p q h d =
    let w = inside_way p q h in
    let some : w.0 ≢ [] = λ e. d (ap length (w.1 ∙ ap (λ r. p ++ r) e ∙ append-nil p)) in
    let is : q ≡ child (p ++ parent_of w.0) (last_of w.0) = w.1 ∙ ap (λ r. p ++ r) (child_is w.0 some) ∙ sym (append_assoc p (parent_of w.0) _) in
    subst (λ r. is_inside p r ≡ true) (sym (ap parent_of is ∙ parent_of-child _ _)) (way_inside p (parent_of w.0))

-- ---- instances inside another

-- the parent of an instance is there
pub parent_there : (f : Path → Option Links) (p : Path) → Linked f → p ≢ [] → is_some (f p) ≡ true → is_some (f (parent_of p)) ≡ true
parent_there f p l some h =
    let here = subst (λ q. is_some (f q) ≡ true) (child_is p some) h in
    let low = l.positive (parent_of p) (last_of p) here in
    let most = l.counted (parent_of p) (last_of p) here in
    some_where (λ n. n.births) f (parent_of p) (omega arith)

-- nothing is below an instance that is not there
pub nothing_below : (f : Path → Option Links) (p : Path) → Linked f → is_some (f p) ≡ false → (n : ℕ) (r : Path) → length r ≡ n → is_some (f (p ++ r)) ≢ true
nothing_below f p l none zero r e h = true≢false (sym h ∙ ap (λ q. is_some (f q)) (ap (λ r. p ++ r) (nothing r e) ∙ append-nil p) ∙ none)
nothing_below f p l none (suc n) r e h =
    let some : r ≢ [] = λ is. let m = ap length is in omega arith in
    let is : p ++ r ≡ child (p ++ parent_of r) (last_of r) = ap (λ r. p ++ r) (child_is r some) ∙ sym (append_assoc p (parent_of r) _) in
    let shorter : length (parent_of r) ≡ n = let m = ap length (child_is r some) in let o = length-append (parent_of r) (last_of r ∷ []) in omega arith in
    nothing_below f p l none n (parent_of r) shorter
    (subst (λ q. is_some (f q) ≡ true) (ap parent_of is ∙ parent_of-child _ _) (parent_there f (p ++ r) l (λ z. let m = ap length z in let o = length-append p r in omega arith) h))

equal : (o : Ordering) → is_eq o ≡ true → o ≡ Equal
equal Less h = absurd (true≢false (sym h))
equal Equal h = refl
equal Greater h = absurd (true≢false (sym h))

none_of : {A : Type 0} (o : Option A) → is_some o ≢ true → o ≡ None
none_of None h = refl
none_of (Some x) h = absurd (h refl)

module _ {R : Type 0} where
  pub links_found : (es : List (Vec ℕ × Node R)) (q : Path) → is_some (links es q) ≡ is_some (found es q)
  links_found es q = by (found es q)
    where
      by : (o : Option (Node R)) → is_some (option_map links_of o) ≡ is_some o
      by None = refl
      by (Some x) = refl

  pub found_seen : (es : List (Vec ℕ × Node R)) (q : Path) → is_some (found es q) ≡ is_some (map.get (instances_of es) q)
  found_seen es q = by (found es q) ∙ ap is_some (sym (get_instances_of es q))
    where
      by : (o : Option (Node R)) → is_some o ≡ is_some (option_map instance_of o)
      by None = refl
      by (Some x) = refl

  -- the last child of an instance is there
  pub last_there : (es : List (Vec ℕ × Node R)) (p : Path) → Linked (links es) → number_at (λ n. n.last) (links es) p ≢ 0 → is_some (found es (child p (number_at (λ n. n.last) (links es) p))) ≡ true
  last_there es p l some =
      let top = latest_there (has_child (links es) p) (births_at (links es) p) (λ e. some (l.last p ∙ e)) in
      subst (λ k. is_some (found es (child p k)) ≡ true) (sym (l.last p)) (sym (links_found es _) ∙ top)

  pub deeper : (es : List (Vec ℕ × Node R)) (p : Path) (k : ℕ) → Linked (links es) → k ≡ number_at (λ n. n.last) (links es) p → k ≢ 0 → is_some (found es (child p k)) ≡ true
  deeper es p k l is some = subst (λ k. is_some (found es (child p k)) ≡ true) (sym is) (last_there es p l (λ e. some (is ∙ e)))

  pub deeper_within : (es : List (Vec ℕ × Node R)) (p : Path) (k depth : ℕ) → Linked (links es) → k ≡ number_at (λ n. n.last) (links es) p → k ≢ 0 → ((q : Path) → is_some (found es q) ≡ true → length q ≤ depth) → length p < depth
  deeper_within es p k depth l is some bounded = let h = bounded (child p k) (deeper es p k l is some) in let e = length-child p k in omega arith

  pub get_without : (m : Instances R) (p q : Path) → map.get (without m p) q ≡ cond (not (is_inside p q)) (map.get m q) None
  get_without m p q = map.get-retain_keys m (λ q. not (is_inside p q)) q (λ x e. ap (λ q. not (is_inside p q)) (sym (apart q x e)))

  -- what is taken out inside p makes no difference without p
  pub without_removed : (m : Instances R) (p w : Path) → is_inside p w ≡ true → without (map.remove m w) p ≡ without m p
  without_removed m p w h = same_instances _ _ (λ q. get_without (map.remove m w) p q ∙ by q (is_inside p q) refl ∙ sym (get_without m p q))
    where
      at : (q : Path) (b : Bool) → eq_by_cmp path_cmp q w ≡ b → is_inside p q ≡ false → cond b None (map.get m q) ≡ map.get m q
      at q true e i = absurd (true≢false (sym h ∙ ap (is_inside p) (sym (apart q w (equal _ e))) ∙ i))
      at q false e i = refl

      by : (q : Path) (b : Bool) → is_inside p q ≡ b → cond (not b) (map.get (map.remove m w) q) None ≡ cond (not b) (map.get m q) None
      by q true i = refl
      by q false i = map.get-remove total m w q ∙ at q _ refl i

  -- where an instance is not there, nothing is below it
  pub without_absent : (es : List (Vec ℕ × Node R)) (p : Path) → Linked (links es) → is_some (found es p) ≡ false → instances_of es ≡ without (instances_of es) p
  without_absent es p l none = same_instances _ _ (λ q. by q (is_inside p q) refl ∙ sym (get_without (instances_of es) p q))
    where
      by : (q : Path) (b : Bool) → is_inside p q ≡ b → map.get (instances_of es) q ≡ cond (not b) (map.get (instances_of es) q) None
      by q false i = refl
      by q true i =
          let w = inside_way p q i in
          none_of _ (λ h. nothing_below (links es) p l (links_found es p ∙ none) _ w.0 refl (ap (λ q. is_some (links es q)) (sym w.1) ∙ links_found es q ∙ found_seen es q ∙ h))

  -- the instance at w was taken out of one table, which gave the other
  module _ (es fs : List (Vec ℕ × Node R)) (w : Path) (removed : instances_of fs ≡ map.remove (instances_of es) w) where
    left_at : (q : Path) → is_some (found fs q) ≡ is_some (cond (eq_by_cmp path_cmp q w) None (map.get (instances_of es) q))
    left_at q = found_seen fs q ∙ ap (λ m. is_some (map.get m q)) removed ∙ ap is_some (map.get-remove total (instances_of es) w q)

    pub left_was : (q : Path) → is_some (found fs q) ≡ true → is_some (found es q) ≡ true
    left_was q h = by (eq_by_cmp path_cmp q w) (sym (left_at q) ∙ h)
      where
        by : (b : Bool) → is_some (cond b None (map.get (instances_of es) q)) ≡ true → is_some (found es q) ≡ true
        by true h = absurd (true≢false (sym h))
        by false h = found_seen es q ∙ h

    pub left_other : (q : Path) → q ≢ w → is_some (found es q) ≡ true → is_some (found fs q) ≡ true
    left_other q d h = left_at q ∙ by (eq_by_cmp path_cmp q w) refl
      where
        by : (b : Bool) → eq_by_cmp path_cmp q w ≡ b → is_some (cond b None (map.get (instances_of es) q)) ≡ true
        by true e = absurd (d (apart q w (equal _ e)))
        by false e = sym (found_seen es q) ∙ h

    pub left_gone : is_some (found fs w) ≡ false
    left_gone = left_at w ∙ ap (λ b. is_some (cond b None (map.get (instances_of es) w))) (is_eq-slice_cmp w w ∙ is_same w w refl)

    pub left_parent : Linked (links es) → w ≢ [] → is_some (found es w) ≡ true → is_some (found fs (parent_of w)) ≡ true
    left_parent l some h =
        left_other (parent_of w) (λ e. not_own_child (parent_of w) (last_of w) (sym (child_is w some) ∙ sym e))
        (sym (links_found es _) ∙ parent_there (links es) w l some (links_found es w ∙ h))
