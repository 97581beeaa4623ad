-- The path of an instance is not used again: where one was, that one is, or none.
use Rattle.std.proofs.Common.{◌≡◌, ℕ, suc, ◌≤◌, Bool, true, false, [], ◌∷◌, ◌++◌, Some, cond, refl, sym, ap, subst, ◌∙◌, inl, inr, arith, append_assoc}
use Rattle.std.specs.Prelude.{nat_eq}
use Rattle.std.specs.FinMap as map
use Rattle.estelle_tree.specs.Paths.{Path, child, is_inside}
use Rattle.estelle_model.specs.Core.{Instance, Instances, Core}
use Rattle.estelle_model.specs.Effects.{StatementEffect, Output, Connect, Disconnect, Attach, Detach, Create, Remove, Change, Store, Hold, Enter, born, changed, changed_in, instances_after}
use Rattle.estelle_model.specs.Subject.{Subject}
use Rattle.estelle_model_legality.specs.Instances.{MayStand}
use Rattle.estelle_model_legality.proofs.Lists.{and_both, same_number, some_is}
use Rattle.estelle_model_legality.proofs.Ways.{inside_itself, inside_child, inside_trans}
use Rattle.estelle_model_legality.proofs.Lookups.{same, same_is, changed_at, get_changed, get_created, get_removed, changed_was, removed_was}
use Rattle.estelle_model_fates.proofs.EveryBlock.{MayBeMade}

-- all births on the way to a path have been
abbrev pub AllBorn : Path → Instances → Type 0
AllBorn q x = (p : Path) (k : ℕ) (z : Instance) → is_inside (child p k) q ≡ true → map.get x p ≡ Some z → k ≤ z.births

-- all births on the way to a path have been, and of the body of an instance that is there this holds
pub record Only (q : Path) (P : ℕ → Type 0) (x : Instances) : Type 0 where
  pub all_born : AllBorn q x
  pub body : (z : Instance) → map.get x q ≡ Some z → P z.body

changed_births : (change : Change) (z : Instance) → ((changed change z).births ≡ z.births) × ((changed change z).body ≡ z.body)
changed_births (Store variable way value) z = (refl, refl)
changed_births (Hold variable held) z = (refl, refl)
changed_births (Enter state) z = (refl, refl)

module _ (q : Path) (P : ℕ → Type 0) where
  only_created : (p : Path) (i new : Instance) (x : Instances) → map.get x p ≡ Some i → Only q P x → Only q P (map.insert (changed_in p born x) (child p (suc i.births)) new)
  only_created p i new x there h = record {
    all_born = λ r k z inside is. of_way r k z inside (same r (child p (suc i.births))) refl (sym (get_created p (suc i.births) new x r) ∙ is);
    body = λ z is. of_body z (same q (child p (suc i.births))) refl (sym (get_created p (suc i.births) new x q) ∙ is);
  }
    where
      never : is_inside (child p (suc i.births)) q ≡ true → ⊥
      never inside = let b = h.all_born p (suc i.births) i inside there in absurd (omega (arith, b))

      of_way : (r : Path) (k : ℕ) (z : Instance) → is_inside (child r k) q ≡ true → (b : Bool) → same r (child p (suc i.births)) ≡ b → cond b (Some new) (changed_at p born (map.get x) r) ≡ Some z → k ≤ z.births
      of_way r k z inside true e is = absurd (never (subst (λ (c : Path). is_inside c q ≡ true) (same_is r (child p (suc i.births)) e) (inside_trans r (child r k) q (inside_child r r k (inside_itself r)) inside)))
      of_way r k z inside false e is =
          let was = changed_was p born (map.get x) r z is in
          let b = h.all_born r k was.0 inside was.1 in
          elim was.2 [
            | inl g ↦ subst (λ (y : Instance). k ≤ y.births) (sym g) b
            | inr g ↦ subst (λ (y : Instance). k ≤ y.births) (sym g.1) (omega (arith, b))
          ]

      of_body : (z : Instance) → (b : Bool) → same q (child p (suc i.births)) ≡ b → cond b (Some new) (changed_at p born (map.get x) q) ≡ Some z → P z.body
      of_body z true e is = absurd (never (subst (λ (c : Path). is_inside c q ≡ true) (same_is q (child p (suc i.births)) e) (inside_itself q)))
      of_body z false e is =
          let was = changed_was p born (map.get x) q z is in
          elim was.2 [
            | inl g ↦ subst (λ (y : Instance). P y.body) (sym g) (h.body was.0 was.1)
            | inr g ↦ subst (λ (y : Instance). P y.body) (sym g.1) (h.body was.0 was.1)
          ]

  pub only_after : (e : StatementEffect) (c : Core) → MayBeMade e c → Only q P c.instances → Only q P (instances_after e c.instances)
  unfolding instances_after
  only_after (Output from ip name values) c may h = h
  only_after (Connect a b) c may h = h
  only_after (Disconnect a) c may h = h
  only_after (Attach upper lower) c may h = h
  only_after (Detach upper) c may h = h
  only_after (Create p k new) c may h = subst (λ (n : ℕ). Only q P (map.insert (changed_in p born c.instances) (child p n) new)) (sym may.2) (only_created p may.0 new c.instances may.1 h)
  only_after (Remove p k) c may h = record {
    all_born = λ r n z inside is. h.all_born r n z inside (removed_was (child p k) (map.get c.instances) r z (sym (get_removed (child p k) c.instances r) ∙ is)).1;
    body = λ z is. h.body z (removed_was (child p k) (map.get c.instances) q z (sym (get_removed (child p k) c.instances q) ∙ is)).1;
  }

  pub only_changed : (p : Path) (change : Change) (x : Instances) → Only q P x → Only q P (changed_in p (changed change) x)
  only_changed p change x h = record {
    all_born = λ r k z inside is.
        let was = changed_was p (changed change) (map.get x) r z (sym (get_changed p (changed change) x r) ∙ is) in
        let b = h.all_born r k was.0 inside was.1 in
        elim was.2 [
          | inl g ↦ subst (λ (y : Instance). k ≤ y.births) (sym g) b
          | inr g ↦ subst (λ (n : ℕ). k ≤ n) (sym (ap (λ (y : Instance). y.births) g.1 ∙ (changed_births change was.0).0)) b
        ];
    body = λ z is.
        let was = changed_was p (changed change) (map.get x) q z (sym (get_changed p (changed change) x q) ∙ is) in
        elim was.2 [
          | inl g ↦ subst (λ (y : Instance). P y.body) (sym g) (h.body was.0 was.1)
          | inr g ↦ subst P (sym (ap (λ (y : Instance). y.body) g.1 ∙ (changed_births change was.0).1)) (h.body was.0 was.1)
        ];
  }

-- what is released is not there
pub removed_none : (p : Path) (k : ℕ) (q : Path) (x : Instances) → is_inside (child p k) q ≡ true → (z : Instance) → map.get (instances_after (Remove p k) x) q ≡ Some z → ⊥
unfolding instances_after
removed_none p k q x inside z is =
    let was = removed_was (child p k) (map.get x) q z (sym (get_removed (child p k) x q) ∙ is) in
    let wrong : true ≡ false = sym inside ∙ was.0 in cc

-- ---- where instances may stand, all births on the way to each have been

rest_of : (d q : Path) → is_inside d q ≡ true → (r : Path) × (q ≡ d ++ r)
rest_of [] q h = (q, refl)
rest_of (k ∷ d) [] h = absurd (cc)
rest_of (k ∷ d) (n ∷ q) h =
    let b = and_both (nat_eq k n) (is_inside d q) h in
    let r = rest_of d q b.1 in
    (r.0, subst (λ (m : ℕ). m ∷ q ≡ k ∷ (d ++ r.0)) (same_number k n b.0) (ap (λ (l : Path). k ∷ l) r.1))

module _ (s : Subject) (x : Instances) (stand : MayStand s x) where
  above_there : (r d : Path) (y : Instance) → map.get x (d ++ r) ≡ Some y → (z : Instance) × (map.get x d ≡ Some z)
  above_there [] d y is = (y, subst (λ (p : Path). map.get x p ≡ Some y) (no_more d) is)
    where
      no_more : (p : Path) → p ++ [] ≡ p
      no_more [] = refl
      no_more (k ∷ p) = ap (λ (l : Path). k ∷ l) (no_more p)
  above_there (k ∷ r) d y is =
      let c = above_there r (child d k) y (subst (λ (p : Path). map.get x p ≡ Some y) (sym (append_assoc d (k ∷ []) r)) is) in
      let parent = stand.parents d k c.0 c.1 in
      (parent.parent, parent.there)

  pub all_born_of : (q : Path) (y : Instance) → map.get x q ≡ Some y → AllBorn q x
  all_born_of q y is p k z inside there =
      let r = rest_of (child p k) q inside in
      let c = above_there r.0 (child p k) y (subst (λ (l : Path). map.get x l ≡ Some y) r.1 is) in
      let parent = stand.parents p k c.0 c.1 in
      subst (λ (v : Instance). k ≤ v.births) (some_is parent.parent z (map.get x p) parent.there there) parent.born
