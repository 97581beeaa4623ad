-- The links that are left where an instance with no child is taken out.
use Rattle.std.proofs.Common.{◌≡◌, ◌≢◌, ◌<◌, ◌≤◌, ℕ, zero, suc, ◌-◌, true, false, Option, None, is_some, refl, sym, ap, subst, ◌∙◌, inl, inr, arith, true≢false, []}
use Rattle.std.specs.Prelude.{IsSome}
use Rattle.std.specs.Option.{option_map_or}
use Rattle.std.proofs.lemmas.Bool.{cases_eq, cases_lt}
use Rattle.estelle_tree.specs.Paths.{Path, child}
use Rattle.module_tree.specs.Nodes.{latest, Links, has_child, LinksOn, Linked, backward, back}
use Rattle.module_tree.proofs.Latest.{latest_le, latest_ge, latest_alike, latest_without_other, latest_without_it}
use Rattle.module_tree.proofs.Paths.{same_parent, same_number, not_own_child, not_root, cases_path}
use Rattle.module_tree.proofs.Linking.{births_at, last_at, previous_at, next_at, some_where, links_on, on_last, on_there, on_previous, childless}
use Rattle.module_tree.proofs.Updates.{Updated, Gone, gone_key, gone_other, updated_there, updated_keeps, updated_sets, updated_other}

-- what g has, where the child k of p is gone from f, a stood before it and z after it
pub record Closed (f g : Path → Option Links) (p : Path) (k a z : ℕ) : Type 0 where
  pub gone : is_some (g (child p k)) ≡ false
  pub there : (q : Path) → child p k ≢ q → is_some (g q) ≡ is_some (f q)
  pub births : (q : Path) → child p k ≢ q → births_at g q ≡ births_at f q
  pub no_births : births_at g (child p k) ≡ 0
  pub last : (q : Path) → p ≢ q → child p k ≢ q → last_at g q ≡ last_at f q
  pub no_last : last_at g (child p k) ≡ 0
  pub last_new : z ≡ 0 → IsSome (f p) → last_at g p ≡ a
  pub last_kept : z ≢ 0 → last_at g p ≡ last_at f p
  pub previous : (q : Path) → child p k ≢ q → child p z ≢ q → previous_at g q ≡ previous_at f q
  pub previous_new : z ≢ 0 → z ≢ k → IsSome (f (child p z)) → previous_at g (child p z) ≡ a
  pub next : (q : Path) → child p k ≢ q → child p a ≢ q → next_at g q ≡ next_at f q
  pub next_new : a ≢ k → IsSome (f (child p a)) → next_at g (child p a) ≡ z

none_at : (field : Links → ℕ) (o : Option Links) → o ≡ None → option_map_or field o 0 ≡ 0
none_at field o e = ap (λ o. option_map_or field o 0) e

closed : (f h j g : Path → Option Links) (p : Path) (k a z : ℕ) → Gone f h (child p k) → Updated h j (backward p z) (back z a) → Updated j g (child p a) (λ n. record n { next = z }) → Closed f g p k a z
closed f h j g p k a zero r u v =
    record {
      gone = updated_there v _ ∙ updated_there u _ ∙ ap is_some (gone_key r);
      there = λ q e. updated_there v q ∙ updated_there u q ∙ ap is_some (gone_other r q e);
      births = λ q e. updated_keeps v (λ n. n.births) (λ x. refl) q ∙ updated_keeps u (λ n. n.births) (λ x. refl) q ∙ ap (λ o. option_map_or (λ n. n.births) o 0) (gone_other r q e);
      no_births = updated_keeps v (λ n. n.births) (λ x. refl) _ ∙ updated_keeps u (λ n. n.births) (λ x. refl) _ ∙ none_at (λ n. n.births) _ (gone_key r);
      last = λ q d e. updated_keeps v (λ n. n.last) (λ x. refl) q ∙ ap (λ o. option_map_or (λ n. n.last) o 0) (updated_other u q d ∙ gone_other r q e);
      no_last = updated_keeps v (λ n. n.last) (λ x. refl) _ ∙ ap (λ o. option_map_or (λ n. n.last) o 0) (updated_other u (child p k) (λ e. not_own_child p k (sym e)) ∙ gone_key r);
      last_new = λ _ there. updated_keeps v (λ n. n.last) (λ x. refl) p ∙ updated_sets u (λ n. n.last) a (λ x. refl) (ap is_some (gone_other r p (not_own_child p k)) ∙ there);
      last_kept = λ n. absurd (n refl);
      previous = λ q e d. updated_keeps v (λ n. n.previous) (λ x. refl) q ∙ updated_keeps u (λ n. n.previous) (λ x. refl) q ∙ ap (λ o. option_map_or (λ n. n.previous) o 0) (gone_other r q e);
      previous_new = λ n. absurd (n refl);
      next = λ q e d. ap (λ o. option_map_or (λ n. n.next) o 0) (updated_other v q d) ∙ updated_keeps u (λ n. n.next) (λ x. refl) q ∙ ap (λ o. option_map_or (λ n. n.next) o 0) (gone_other r q e);
      next_new = λ d there. updated_sets v (λ n. n.next) zero (λ x. refl) (updated_there u _ ∙ ap is_some (gone_other r _ (λ e. d (sym (same_number p p k a e)))) ∙ there);
    }
closed f h j g p k a (suc z) r u v =
    record {
      gone = updated_there v _ ∙ updated_there u _ ∙ ap is_some (gone_key r);
      there = λ q e. updated_there v q ∙ updated_there u q ∙ ap is_some (gone_other r q e);
      births = λ q e. updated_keeps v (λ n. n.births) (λ x. refl) q ∙ updated_keeps u (λ n. n.births) (λ x. refl) q ∙ ap (λ o. option_map_or (λ n. n.births) o 0) (gone_other r q e);
      no_births = updated_keeps v (λ n. n.births) (λ x. refl) _ ∙ updated_keeps u (λ n. n.births) (λ x. refl) _ ∙ none_at (λ n. n.births) _ (gone_key r);
      last = λ q d e. updated_keeps v (λ n. n.last) (λ x. refl) q ∙ updated_keeps u (λ n. n.last) (λ x. refl) q ∙ ap (λ o. option_map_or (λ n. n.last) o 0) (gone_other r q e);
      no_last = updated_keeps v (λ n. n.last) (λ x. refl) _ ∙ updated_keeps u (λ n. n.last) (λ x. refl) _ ∙ none_at (λ n. n.last) _ (gone_key r);
      last_new = λ e. absurd (omega arith);
      last_kept = λ _. updated_keeps v (λ n. n.last) (λ x. refl) p ∙ updated_keeps u (λ n. n.last) (λ x. refl) p ∙ ap (λ o. option_map_or (λ n. n.last) o 0) (gone_other r p (not_own_child p k));
      previous = λ q e d. updated_keeps v (λ n. n.previous) (λ x. refl) q ∙ ap (λ o. option_map_or (λ n. n.previous) o 0) (updated_other u q d ∙ gone_other r q e);
      previous_new = λ n d there. updated_keeps v (λ n. n.previous) (λ x. refl) _ ∙ updated_sets u (λ n. n.previous) a (λ x. refl) (ap is_some (gone_other r _ (λ e. d (sym (same_number p p k (suc z) e)))) ∙ there);
      next = λ q e d. ap (λ o. option_map_or (λ n. n.next) o 0) (updated_other v q d) ∙ updated_keeps u (λ n. n.next) (λ x. refl) q ∙ ap (λ o. option_map_or (λ n. n.next) o 0) (gone_other r q e);
      next_new = λ d there. updated_sets v (λ n. n.next) (suc z) (λ x. refl) (updated_there u _ ∙ ap is_some (gone_other r _ (λ e. d (sym (same_number p p k a e)))) ∙ there);
    }

module _ (f g : Path → Option Links) (p : Path) (k a z : ℕ) (l : Linked f) (here : is_some (f (child p k)) ≡ true)
    (leaf : last_at f (child p k) ≡ 0) (a_is : a ≡ previous_at f (child p k)) (on : LinksOn f p k z) (c : Closed f g p k a z) where
  -- ---- what stands round the child

  least : 0 < k
  least = l.positive p k here

  before : a ≡ latest (has_child f p) (k - 1)
  before = a_is ∙ l.previous p k here

  a_below : a < k
  a_below = let most = latest_le (has_child f p) (k - 1) in let from = least in let is = before in omega arith

  z_last : z ≡ 0 → latest (has_child f p) (births_at f p) ≡ k
  z_last e = sym (l.last p) ∙ on_last f p k z on e

  z_there : z ≢ 0 → is_some (f (child p z)) ≡ true
  z_there = on_there f p k z on

  z_previous : z ≢ 0 → latest (has_child f p) (z - 1) ≡ k
  z_previous e = sym (l.previous p z (z_there e)) ∙ on_previous f p k z on e

  z_above : z ≢ 0 → k < z
  z_above e = let is = z_previous e in let most = latest_le (has_child f p) (z - 1) in omega arith

  parent_there : is_some (f p) ≡ true
  parent_there = let from = least in let most = l.counted p k here in some_where (λ n. n.births) f p (omega arith)

  -- ---- what is there afterwards

  other : (q : Path) → is_some (g q) ≡ true → child p k ≢ q
  other q h e = true≢false (sym h ∙ ap (λ q. is_some (g q)) (sym e) ∙ c.gone)

  was : (q : Path) → is_some (g q) ≡ true → is_some (f q) ≡ true
  was q h = sym (c.there q (other q h)) ∙ h

  parent_other : (q : Path) (j : ℕ) → is_some (g (child q j)) ≡ true → child p k ≢ q
  parent_other q j h e = childless f q j l (ap (last_at f) (sym e) ∙ leaf) (was _ h)

  elsewhere : (q : Path) → p ≢ q → (j : ℕ) → has_child g q j ≡ has_child f q j
  elsewhere q d j = c.there _ (λ e. d (same_parent p q k j e))

  beside : (j : ℕ) → j ≢ k → has_child g p j ≡ has_child f p j
  beside j d = c.there _ (λ e. d (sym (same_number p p k j e)))

  -- no other sibling names this one as the one before
  not_before : (j : ℕ) → is_some (f (child p j)) ≡ true → j ≢ z → latest (has_child f p) (j - 1) ≢ k
  not_before j h d e =
      let low = l.positive p j h in
      let most = latest_le (has_child f p) (j - 1) in
      elim (cases_eq z 0) [
        | inl none ↦
            let is = z_last none in
            let far = latest_ge (has_child f p) (births_at f p) j h (l.counted p j h) in
            omega arith
        | inr some ↦
            let is = z_previous some in
            let up = z_above some in
            elim (cases_lt j z) [
              | inl lower ↦ let near : j ≤ z - 1 = omega arith in let far = latest_ge (has_child f p) (z - 1) j h near in omega arith
              | inr high ↦ let near : z ≤ j - 1 = omega arith in let far = latest_ge (has_child f p) (j - 1) z (z_there some) near in omega arith
            ]
      ]

  last_left : (q : Path) → last_at g q ≡ latest (has_child g q) (births_at g q)
  last_left q =
      elim (cases_path (child p k) q) [
        | inl is ↦ subst (λ q. last_at g q ≡ latest (has_child g q) (births_at g q)) is (c.no_last ∙ sym (ap (latest (has_child g (child p k))) c.no_births))
        | inr apart ↦ elim (cases_path p q) [
          | inl is ↦ subst (λ q. child p k ≢ q → last_at g q ≡ latest (has_child g q) (births_at g q)) is at_parent apart
          | inr away ↦ c.last q away apart ∙ l.last q ∙ sym (latest_alike (has_child g q) (has_child f q) (births_at f q) (λ j _ _. elsewhere q away j)) ∙ ap (latest (has_child g q)) (sym (c.births q apart))
        ]
      ]
    where
      at_parent : child p k ≢ p → last_at g p ≡ latest (has_child g p) (births_at g p)
      at_parent apart =
          let births = ap (latest (has_child g p)) (sym (c.births p apart)) in
          elim (cases_eq z 0) [
            | inl none ↦ c.last_new none parent_there ∙ before ∙ sym (latest_without_it (has_child f p) (has_child g p) (births_at f p) k beside c.gone least (z_last none)) ∙ births
            | inr some ↦
                let up = z_above some in
                let far = latest_ge (has_child f p) (births_at f p) z (z_there some) (l.counted p z (z_there some)) in
                c.last_kept some ∙ l.last p ∙ sym (latest_without_other (has_child f p) (has_child g p) (births_at f p) k beside c.gone (λ e. omega arith)) ∙ births
          ]

  previous_left : (q : Path) (j : ℕ) → is_some (g (child q j)) ≡ true → previous_at g (child q j) ≡ latest (has_child g q) (j - 1)
  previous_left q j h =
      elim (cases_path p q) [
        | inr away ↦
            c.previous (child q j) (other _ h) (λ e. away (same_parent p q z j e)) ∙ l.previous q j (was _ h)
            ∙ sym (latest_alike (has_child g q) (has_child f q) (j - 1) (λ i _ _. elsewhere q away i))
        | inl is ↦ subst (λ q. is_some (g (child q j)) ≡ true → previous_at g (child q j) ≡ latest (has_child g q) (j - 1)) is at_parent h
      ]
    where
      at_parent : is_some (g (child p j)) ≡ true → previous_at g (child p j) ≡ latest (has_child g p) (j - 1)
      at_parent h =
          elim (cases_eq j z) [
            | inl is ↦
                let low = l.positive p j (was _ h) in
                let some : z ≢ 0 = λ e. omega arith in
                let up = z_above some in
                ap (λ j. previous_at g (child p j)) is ∙ c.previous_new some (λ e. omega arith) (z_there some) ∙ before
                ∙ sym (latest_without_it (has_child f p) (has_child g p) (z - 1) k beside c.gone least (z_previous some)) ∙ ap (λ j. latest (has_child g p) (j - 1)) (sym is)
            | inr apart ↦
                c.previous (child p j) (other _ h) (λ e. apart (sym (same_number p p z j e))) ∙ l.previous p j (was _ h)
                ∙ sym (latest_without_other (has_child f p) (has_child g p) (j - 1) k beside c.gone (not_before j (was _ h) apart))
          ]

  next_left : (q : Path) (j : ℕ) → is_some (g (child q j)) ≡ true → LinksOn g q j (next_at g (child q j))
  next_left q j h =
      elim (cases_path p q) [
        | inr away ↦
            let m = next_at f (child q j) in
            let was_on = l.next q j (was _ h) in
            subst (LinksOn g q j) (sym (c.next (child q j) (other _ h) (λ e. away (same_parent p q a j e)))) (links_on g q j m
            (λ e. c.last q away (parent_other q j h) ∙ on_last f q j m was_on e)
            (λ e. elsewhere q away m ∙ on_there f q j m was_on e)
            (λ e. c.previous (child q m) (λ i. away (same_parent p q k m i)) (λ i. away (same_parent p q z m i)) ∙ on_previous f q j m was_on e))
        | inl is ↦ subst (λ q. is_some (g (child q j)) ≡ true → LinksOn g q j (next_at g (child q j))) is at_parent h
      ]
    where
      -- the one before the child that is gone
      at_before : is_some (g (child p a)) ≡ true → LinksOn g p a (next_at g (child p a))
      at_before h =
          let low = a_below in
          subst (LinksOn g p a) (sym (c.next_new (λ e. omega arith) (was _ h))) (links_on g p a z
          (λ e. c.last_new e parent_there)
          (λ e. let up = z_above e in beside z (λ i. omega arith) ∙ z_there e)
          (λ e. let up = z_above e in c.previous_new e (λ i. omega arith) (z_there e)))

      at_parent : is_some (g (child p j)) ≡ true → LinksOn g p j (next_at g (child p j))
      at_parent h =
          let not_it : j ≢ k = λ e. other _ h (ap (child p) (sym e)) in
          elim (cases_eq j a) [
            | inl is ↦ subst (λ j. is_some (g (child p j)) ≡ true → LinksOn g p j (next_at g (child p j))) (sym is) at_before h
            | inr apart ↦
                let m = next_at f (child p j) in
                let was_on = l.next p j (was _ h) in
                let m_not_it : m ≢ 0 → m ≢ k = λ e i. apart (sym (on_previous f p j m was_on e) ∙ ap (λ n. previous_at f (child p n)) i ∙ sym a_is) in
                let m_not_next : m ≢ 0 → m ≢ z = λ e i. not_it (sym (on_previous f p j m was_on e) ∙ ap (λ n. previous_at f (child p n)) i ∙ on_previous f p k z on (λ n. e (i ∙ n))) in
                subst (LinksOn g p j) (sym (c.next (child p j) (other _ h) (λ e. apart (sym (same_number p p a j e))))) (links_on g p j m
                (λ e. c.last_kept (λ none. not_it (sym (on_last f p j m was_on e) ∙ on_last f p k z on none)) ∙ on_last f p j m was_on e)
                (λ e. beside m (m_not_it e) ∙ on_there f p j m was_on e)
                (λ e. c.previous (child p m) (λ i. m_not_it e (sym (same_number p p k m i))) (λ i. m_not_next e (sym (same_number p p z m i))) ∙ on_previous f p j m was_on e))
          ]

  pub linked_left : Linked g
  linked_left =
      record {
        rooted = c.there [] (not_root p k) ∙ l.rooted;
        positive = λ q j h. l.positive q j (was _ h);
        counted = λ q j h. subst (λ n. j ≤ n) (sym (c.births q (parent_other q j h))) (l.counted q j (was _ h));
        last = last_left;
        previous = previous_left;
        next = next_left;
      }

-- the links that are left where a child with no child of its own is taken out, its neighbours joined
pub unlinked : (f h j g : Path → Option Links) (p : Path) (k a z : ℕ) → Linked f → IsSome (f (child p k)) → last_at f (child p k) ≡ 0 → a ≡ previous_at f (child p k) → z ≡ next_at f (child p k)
    → Gone f h (child p k) → Updated h j (backward p z) (back z a) → Updated j g (child p a) (λ n. record n { next = z }) → Linked g
unlinked f h j g p k a z l here leaf a_is z_is r u v = linked_left f g p k a z l here leaf a_is (subst (LinksOn f p k) (sym z_is) (l.next p k here)) (closed f h j g p k a z r u v)
