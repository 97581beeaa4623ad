-- Instances whose paths, births and values are within bounds, and what each effect keeps of that.
use Rattle.std.proofs.Common.{◌≡◌, ℕ, ◌+◌, ◌≤◌, Bool, true, false, [], ◌∷◌, Option, Some, None, refl, sym, ap, subst, cond, ◌∙◌, arith}
use Rattle.std.specs.Prelude.{not, option_map}
use Rattle.std.specs.List.{AllByRecursion}
use Rattle.std.specs.FinMap as map
use Rattle.std.specs.Ordering.{eq_by_cmp}
use Rattle.pascal_values.specs.declared.value.Value.{Value}
use Rattle.estelle_tree.specs.Paths.{Path, path_cmp, child, is_inside}
use Rattle.estelle_model.specs.Core.{Instance, Instances}
use Rattle.estelle_model.specs.Effects.{born, changed_in}
use Rattle.estelle_model.proofs.Maps.{total, apart}
use Rattle.estelle_model.proofs.PrivateParts.{get_changed, same_path}
use Rattle.trace_text.specs.Forms.{IsBetween}

-- each birth number on the way lies between 1 and n
abbrev pub PathWithin : ℕ → Path → Type 0
PathWithin n = AllByRecursion (IsBetween 1 n)

pub path_more : (n m : ℕ) (p : Path) → n ≤ m → PathWithin n p → PathWithin m p
path_more n m [] within h = tt
path_more n m (k ∷ p) within h = let low = h.0.0 in let high = h.0.1 in ((low, omega (arith, within, high)), path_more n m p within h.1)

pub path_child : (n : ℕ) (p : Path) (k : ℕ) → PathWithin n p → 1 ≤ k → k ≤ n → PathWithin n (child p k)
path_child n [] k h low high = ((low, high), tt)
path_child n (j ∷ p) k h low high = (h.0, path_child n p k h.1 low high)

some_is : {A : Type 0} (x y : A) → Some x ≡ Some y → x ≡ y
some_is x y e = cc

module _ (V : Value → Type 0) where
  -- n : how many births any instance may have come to; b : how many more may be to come
  pub record InstanceWithin (n b : ℕ) (p : Path) (i : Instance) : Type 0 where
    pub path : PathWithin n p
    pub births : i.births + b ≤ n
    pub values : AllByRecursion V i.variables

  pub record AreWithin (n b : ℕ) (x : Instances) : Type 0 where
    pub room : b ≤ n
    pub each : (p : Path) (i : Instance) → map.get x p ≡ Some i → InstanceWithin n b p i

  pub within_fewer : (n b c : ℕ) (x : Instances) → c ≤ b → AreWithin n b x → AreWithin n c x
  within_fewer n b c x fewer h = record {
    room = let r = h.room in omega (arith, r, fewer);
    each = λ p i there. let e = h.each p i there in record { path = e.path; births = let y = e.births in omega (arith, y, fewer); values = e.values };
  }

  module _ (n b : ℕ) (x : Instances) where
    pub within_changed : (p : Path) (f : Instance → Instance) → ((i : Instance) → (f i).births ≡ i.births) → ((i : Instance) → AllByRecursion V i.variables → AllByRecursion V (f i).variables) → AreWithin n b x → AreWithin n b (changed_in p f x)
    within_changed p f same keeps h = record { room = h.room; each = λ q i there. by q i (eq_by_cmp path_cmp q p) refl (sym (get_changed p f x q) ∙ there) }
      where
        of_changed : (q : Path) (i : Instance) → q ≡ p → (o : Option Instance) → map.get x p ≡ o → option_map f o ≡ Some i → InstanceWithin n b q i
        of_changed q i is None there e = absurd (cc)
        of_changed q i is (Some j) there e =
            let old = h.each p j there in
            let new : f j ≡ i = some_is (f j) i e in
            record {
              path = subst (PathWithin n) (sym is) old.path;
              births = let y = old.births in let z = same j in let w : (f j).births ≡ i.births = ap (λ (k : Instance). k.births) new in omega (arith, y, z, w);
              values = subst (λ (k : Instance). AllByRecursion V k.variables) new (keeps j old.values);
            }

        by : (q : Path) (i : Instance) (c : Bool) → eq_by_cmp path_cmp q p ≡ c → cond (eq_by_cmp path_cmp q p) (option_map f (map.get x p)) (map.get x q) ≡ Some i → InstanceWithin n b q i
        by q i true is e = of_changed q i (same_path q p is) (map.get x p) refl (ap (λ c. cond c (option_map f (map.get x p)) (map.get x q)) (sym is) ∙ e)
        by q i false is e = h.each q i (ap (λ c. cond c (option_map f (map.get x p)) (map.get x q)) (sym is) ∙ e)

    pub within_removed : (p : Path) (k : ℕ) → AreWithin n b x → AreWithin n b (map.retain_keys x (λ r. not (is_inside (child p k) r)))
    within_removed p k h = record { room = h.room; each = λ q i there. by q i (not (is_inside (child p k) q)) (sym (map.get-retain_keys x (λ r. not (is_inside (child p k) r)) q (λ r tie. ap (λ y. not (is_inside (child p k) y)) (sym (apart q r tie)))) ∙ there) }
      where
        by : (q : Path) (i : Instance) (c : Bool) → cond c (map.get x q) None ≡ Some i → InstanceWithin n b q i
        by q i true e = h.each q i e
        by q i false e = absurd (cc)

  -- a child that is made takes one of the births that may be to come
  module _ (n b : ℕ) (x : Instances) where
    within_born : (p : Path) → AreWithin n (b + 1) x → AreWithin n b (changed_in p born x)
    within_born p h = record { room = let r = h.room in omega (arith, r); each = λ q i there. by q i (eq_by_cmp path_cmp q p) refl (sym (get_changed p born x q) ∙ there) }
      where
        of_born : (q : Path) (i : Instance) → q ≡ p → (o : Option Instance) → map.get x p ≡ o → option_map born o ≡ Some i → InstanceWithin n b q i
        of_born q i is None there e = absurd (cc)
        of_born q i is (Some j) there e =
            let old = h.each p j there in
            let new : born j ≡ i = some_is (born j) i e in
            record {
              path = subst (PathWithin n) (sym is) old.path;
              births = let y = old.births in let w : (born j).births ≡ i.births = ap (λ (k : Instance). k.births) new in omega (arith, y, w);
              values = subst (λ (k : Instance). AllByRecursion V k.variables) new old.values;
            }

        by : (q : Path) (i : Instance) (c : Bool) → eq_by_cmp path_cmp q p ≡ c → cond (eq_by_cmp path_cmp q p) (option_map born (map.get x p)) (map.get x q) ≡ Some i → InstanceWithin n b q i
        by q i true is e = of_born q i (same_path q p is) (map.get x p) refl (ap (λ c. cond c (option_map born (map.get x p)) (map.get x q)) (sym is) ∙ e)
        by q i false is e = (within_fewer n (b + 1) b x (omega arith) h).each q i (ap (λ c. cond c (option_map born (map.get x p)) (map.get x q)) (sym is) ∙ e)

    pub within_created : (p : Path) (k : ℕ) (new : Instance) → PathWithin n (child p k) → new.births ≡ 0 → AllByRecursion V new.variables → AreWithin n (b + 1) x → AreWithin n b (map.insert (changed_in p born x) (child p k) new)
    within_created p k new path births values h =
        let r = h.room in
        record { room = omega (arith, r); each = λ q i there. by q i (eq_by_cmp path_cmp q (child p k)) refl (sym (map.get-insert total (changed_in p born x) (child p k) new q) ∙ there) }
      where
        by : (q : Path) (i : Instance) (c : Bool) → eq_by_cmp path_cmp q (child p k) ≡ c → cond (eq_by_cmp path_cmp q (child p k)) (Some new) (map.get (changed_in p born x) q) ≡ Some i → InstanceWithin n b q i
        by q i true is e =
            let made : new ≡ i = some_is new i (ap (λ c. cond c (Some new) (map.get (changed_in p born x) q)) (sym is) ∙ e) in
            record {
              path = subst (PathWithin n) (sym (same_path q (child p k) is)) path;
              births = let r = h.room in let w : new.births ≡ i.births = ap (λ (j : Instance). j.births) made in omega (arith, r, births, w);
              values = subst (λ (j : Instance). AllByRecursion V j.variables) made values;
            }
        by q i false is e = (within_born p h).each q i (ap (λ c. cond c (Some new) (map.get (changed_in p born x) q)) (sym is) ∙ e)
