-- The links once an instance has one more child.
use Rattle.std.proofs.Common.{◌≡◌, ◌≢◌, ◌<◌, ◌≤◌, ℕ, ◌+◌, ◌-◌, Bool, true, false, Option, is_some, refl, sym, ap, subst, ◌∙◌, inl, inr, arith, []}
use Rattle.std.specs.Option.{option_map_or}
use Rattle.estelle_tree.specs.Paths.{Path, child}
use Rattle.module_tree.specs.Nodes.{latest, Links, number_at, has_child, LinksOn, Linked, born, first_links}
use Rattle.module_tree.proofs.Latest.{latest_le, latest_top, latest_alike}
use Rattle.module_tree.proofs.Paths.{same_parent, same_number, not_own_child, not_root, cases_path}
use Rattle.module_tree.proofs.Linking.{births_at, last_at, previous_at, next_at, no_links, links_on, on_last, on_there, on_previous}
use Rattle.module_tree.proofs.Updates.{Updated, Added, added_key, added_other, updated_there, updated_keeps, updated_sets, updated_other}

is_false : (b : Bool) → b ≢ true → b ≡ false
is_false true h = absurd (h refl)
is_false false h = refl

module _ (f h j g : Path → Option Links) (p : Path) (b k : ℕ) (l : Linked f) (here : is_some (f p) ≡ true) (b_is : b ≡ last_at f p) (k_is : k ≡ births_at f p + 1)
    (u : Updated f h p (born k)) (v : Updated h j (child p b) (λ n. record n { next = k })) (w : Added j g (child p k) (first_links b)) where
  -- ---- what is kept

  field_new : (field : Links → ℕ) → number_at field g (child p k) ≡ field (first_links b)
  field_new field = ap (λ o. option_map_or field o 0) (added_key w)

  field_kept : (field : Links → ℕ) (q : Path) → child p k ≢ q → number_at field g q ≡ number_at field j q
  field_kept field q d = ap (λ o. option_map_or field o 0) (added_other w q d)

  there : (q : Path) → child p k ≢ q → is_some (g q) ≡ is_some (f q)
  there q d = ap is_some (added_other w q d) ∙ updated_there v q ∙ updated_there u q

  new_there : is_some (g (child p k)) ≡ true
  new_there = ap is_some (added_key w)

  absent : is_some (f (child p k)) ≢ true
  absent h = let most = l.counted p k h in let is = k_is in omega arith

  births_kept : (q : Path) → child p k ≢ q → p ≢ q → births_at g q ≡ births_at f q
  births_kept q d e =
      field_kept (λ n. n.births) q d ∙ updated_keeps v (λ n. n.births) (λ x. refl) q ∙ ap (λ o. option_map_or (λ n. n.births) o 0) (updated_other u q e)

  births_parent : births_at g p ≡ k
  births_parent = field_kept (λ n. n.births) p (not_own_child p k) ∙ updated_keeps v (λ n. n.births) (λ x. refl) p ∙ updated_sets u (λ n. n.births) k (λ x. refl) here

  last_kept : (q : Path) → child p k ≢ q → p ≢ q → last_at g q ≡ last_at f q
  last_kept q d e =
      field_kept (λ n. n.last) q d ∙ updated_keeps v (λ n. n.last) (λ x. refl) q ∙ ap (λ o. option_map_or (λ n. n.last) o 0) (updated_other u q e)

  last_parent : last_at g p ≡ k
  last_parent = field_kept (λ n. n.last) p (not_own_child p k) ∙ updated_keeps v (λ n. n.last) (λ x. refl) p ∙ updated_sets u (λ n. n.last) k (λ x. refl) here

  previous_kept : (q : Path) → child p k ≢ q → previous_at g q ≡ previous_at f q
  previous_kept q d = field_kept (λ n. n.previous) q d ∙ updated_keeps v (λ n. n.previous) (λ x. refl) q ∙ updated_keeps u (λ n. n.previous) (λ x. refl) q

  next_kept : (q : Path) → child p k ≢ q → child p b ≢ q → next_at g q ≡ next_at f q
  next_kept q d e =
      field_kept (λ n. n.next) q d ∙ ap (λ o. option_map_or (λ n. n.next) o 0) (updated_other v q e) ∙ updated_keeps u (λ n. n.next) (λ x. refl) q

  -- ---- what stands round the child

  b_below : b < k
  b_below = let most = latest_le (has_child f p) (births_at f p) in let is = l.last p in omega (arith, b_is, k_is)

  next_before : is_some (f (child p b)) ≡ true → next_at g (child p b) ≡ k
  next_before h =
      let low = b_below in
      field_kept (λ n. n.next) (child p b) (λ e. let is = same_number p p k b e in omega arith)
      ∙ updated_sets v (λ n. n.next) k (λ x. refl) (updated_there u (child p b) ∙ h)

  elsewhere : (q : Path) (i : ℕ) → (p ≡ q → i ≢ k) → has_child g q i ≡ has_child f q i
  elsewhere q i d = there _ (λ e. d (same_parent p q k i e) (sym (same_number p q k i e)))

  no_births : births_at f (child p k) ≡ 0
  no_births = no_links (λ n. n.births) f (child p k) (is_false _ absent)

  positive_new : (q : Path) (i : ℕ) → is_some (g (child q i)) ≡ true → 0 < i
  positive_new q i h =
      elim (cases_path (child p k) (child q i)) [
        | inl is ↦ let e = same_number p q k i is in let n = k_is in omega arith
        | inr apart ↦ l.positive q i (sym (there _ apart) ∙ h)
      ]

  -- a child that was there is among the births that were counted
  counted_kept : (q : Path) (i : ℕ) → is_some (f (child q i)) ≡ true → i ≤ births_at g q
  counted_kept q i h =
      let most = l.counted q i h in
      let low = l.positive q i h in
      elim (cases_path p q) [
        | inl is ↦ let e = ap (births_at f) is in subst (λ q. i ≤ births_at g q) is (let n = births_parent in let m = k_is in omega arith)
        | inr away ↦ elim (cases_path (child p k) q) [
          | inl is ↦ absurd (let e = ap (births_at f) is in let n = no_births in omega arith)
          | inr apart ↦ let e = births_kept q apart away in omega arith
        ]
      ]

  counted_new : (q : Path) (i : ℕ) → is_some (g (child q i)) ≡ true → i ≤ births_at g q
  counted_new q i h =
      elim (cases_path (child p k) (child q i)) [
        | inl is ↦
            let e = same_number p q k i is in
            let n = ap (births_at g) (same_parent p q k i is) in
            let m = births_parent in
            omega arith
        | inr apart ↦ counted_kept q i (sym (there _ apart) ∙ h)
      ]

  last_new : (q : Path) → last_at g q ≡ latest (has_child g q) (births_at g q)
  last_new q =
      elim (cases_path (child p k) q) [
        | inl is ↦ subst (λ q. last_at g q ≡ latest (has_child g q) (births_at g q)) is (field_new (λ n. n.last) ∙ sym (ap (latest (has_child g (child p k))) (field_new (λ n. n.births))))
        | inr apart ↦ elim (cases_path p q) [
          | inl is ↦ subst (λ q. last_at g q ≡ latest (has_child g q) (births_at g q)) is (last_parent ∙ sym (latest_top (has_child g p) k new_there (let n = k_is in omega arith)) ∙ ap (latest (has_child g p)) (sym births_parent))
          | inr away ↦
              last_kept q apart away ∙ l.last q ∙ sym (latest_alike (has_child g q) (has_child f q) (births_at f q) (λ i _ _. elsewhere q i (λ is. absurd (away is))))
              ∙ ap (latest (has_child g q)) (sym (births_kept q apart away))
        ]
      ]

  previous_new : (q : Path) (i : ℕ) → is_some (g (child q i)) ≡ true → previous_at g (child q i) ≡ latest (has_child g q) (i - 1)
  previous_new q i h =
      elim (cases_path (child p k) (child q i)) [
        | inl is ↦ subst (λ q. previous_at g (child q i) ≡ latest (has_child g q) (i - 1)) (same_parent p q k i is) (subst (λ i. previous_at g (child p i) ≡ latest (has_child g p) (i - 1)) (same_number p q k i is) at_new)
        | inr apart ↦
            let was = sym (there _ apart) ∙ h in
            previous_kept (child q i) apart ∙ l.previous q i was
            ∙ sym (latest_alike (has_child g q) (has_child f q) (i - 1) (λ n a c. elsewhere q n (λ is e. let most = l.counted q i was in let m = ap (births_at f) is in let o = k_is in omega arith)))
      ]
    where
      at_new : previous_at g (child p k) ≡ latest (has_child g p) (k - 1)
      at_new =
          let e : k - 1 ≡ births_at f p = let n = k_is in omega arith in
          field_new (λ n. n.previous) ∙ b_is ∙ l.last p
          ∙ sym (latest_alike (has_child g p) (has_child f p) (births_at f p) (λ i a c. elsewhere p i (λ _ is. let n = k_is in omega arith))) ∙ ap (latest (has_child g p)) (sym e)

  next_new : (q : Path) (i : ℕ) → is_some (g (child q i)) ≡ true → LinksOn g q i (next_at g (child q i))
  next_new q i h =
      elim (cases_path (child p k) (child q i)) [
        | inl is ↦ subst (λ q. LinksOn g q i (next_at g (child q i))) (same_parent p q k i is) (subst (λ i. LinksOn g p i (next_at g (child p i))) (same_number p q k i is) at_new)
        | inr apart ↦ elim (cases_path (child p b) (child q i)) [
          | inl is ↦ subst (λ q. is_some (f (child q i)) ≡ true → LinksOn g q i (next_at g (child q i))) (same_parent p q b i is) (subst (λ i. is_some (f (child p i)) ≡ true → LinksOn g p i (next_at g (child p i))) (same_number p q b i is) at_before) (sym (there _ apart) ∙ h)
          | inr further ↦ subst (LinksOn g q i) (sym (next_kept (child q i) apart further)) (as_before (sym (there _ apart) ∙ h) further)
        ]
      ]
    where
      at_new : LinksOn g p k (next_at g (child p k))
      at_new = subst (LinksOn g p k) (sym (field_new (λ n. n.next))) last_parent

      at_before : is_some (f (child p b)) ≡ true → LinksOn g p b (next_at g (child p b))
      at_before h = subst (LinksOn g p b) (sym (next_before h)) (links_on g p b k (λ e. absurd (let n = k_is in omega arith)) (λ e. new_there) (λ e. field_new (λ n. n.previous)))

      as_before : is_some (f (child q i)) ≡ true → child p b ≢ child q i → LinksOn g q i (next_at f (child q i))
      as_before was further =
          let m = next_at f (child q i) in
          let on = l.next q i was in
          let not_new : m ≢ 0 → child p k ≢ child q m = λ e is. absent (ap (λ q. is_some (f q)) is ∙ on_there f q i m on e) in
          links_on g q i m
          (λ e. last_kept q
          (λ is. let low = l.positive q i was in let most = l.counted q i was in let n = no_births in let o = ap (births_at f) is in omega arith)
          (λ is. further (ap (λ q. child q b) is ∙ ap (child q) (b_is ∙ ap (last_at f) is ∙ on_last f q i m on e))) ∙ on_last f q i m on e)
          (λ e. there (child q m) (not_new e) ∙ on_there f q i m on e)
          (λ e. previous_kept (child q m) (not_new e) ∙ on_previous f q i m on e)

  pub linked_new : Linked g
  linked_new =
      record {
        rooted = there [] (not_root p k) ∙ l.rooted;
        positive = positive_new;
        counted = counted_new;
        last = last_new;
        previous = previous_new;
        next = next_new;
      }
