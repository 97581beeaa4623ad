-- A tree of instances: what stands below an instance stands at or below one of its children.
use Rattle.std.proofs.Common.{◌≡◌, ◌⊎◌, ℕ, zero, suc, ◌+◌, ◌≤◌, true, List, [], ◌∷◌, ◌++◌, length, Option, Some, None, refl, sym, ap, subst, ◌∙◌, inl, inr, arith, eqb-true, eq-eqb, append-nil, append_assoc}
use Rattle.std.specs.Prelude.{◌&&◌, is_some, nat_eq}
use Rattle.std.specs.Cmp.Lexicographic.{bytes_decides}
use Rattle.std.specs.Ordering.{eq_by_cmp}
use Rattle.std.specs.FinMap as map
use Rattle.estelle_tree.specs.Paths.{Path, path_cmp, child, last_of, is_inside}
use Rattle.estelle_model.specs.Core.{Instance, Instances}
use Rattle.estelle_model.specs.Subject.{Subject}
use Rattle.estelle_model.specs.Situation.{Situation}
use Rattle.estelle_model.specs.Selection.{paths, is_child, children}
use Rattle.estelle_model.specs.Jobs.{IsThere}
use Rattle.estelle_model_legality.specs.Choices.{AreTree}
use Rattle.estelle_model_legality.proofs.Lists.{and_both}
use Rattle.estelle_model_legality.proofs.Ways.{last_child, length_child}
use Rattle.estelle_model_legality.proofs.Lookups.{same_is, same_itself}
use Rattle.estelle_model_legality.proofs.Members.{Has, any_has, has_any, has_filter, filter_has}

-- ---- paths

pub child_is : (m q : Path) → is_child m q ≡ true → q ≡ child m (last_of q)
child_is m q = (bytes_decides q (child m (last_of q))).0

pub is_child_of : (m : Path) (k : ℕ) → is_child m (child m k) ≡ true
is_child_of m k = (bytes_decides (child m k) (child m (last_of (child m k)))).1 (sym (ap (child m) (last_child m k)))

-- an instance below another, by the way there
pub inside_way : (m q : Path) → is_inside m q ≡ true → (r : Path) × (q ≡ m ++ r)
inside_way [] q e = (q, refl)
inside_way (k ∷ m) [] e = absurd (cc)
inside_way (k ∷ m) (n ∷ q) e =
    let r = inside_way m q (and_both (nat_eq k n) (is_inside m q) e).1 in
    let same : k ≡ n = eqb-true k n (and_both (nat_eq k n) (is_inside m q) e).0 in
    (r.0, ap (λ j. j ∷ q) (sym same) ∙ ap (λ p. k ∷ p) r.1)

pub way_inside : (m r : Path) → is_inside m (m ++ r) ≡ true
way_inside [] [] = refl
way_inside [] (k ∷ r) = refl
way_inside (k ∷ m) r = ap (λ b. b && is_inside m (m ++ r)) (eq-eqb k k refl) ∙ way_inside m r

pub through : (m : Path) (k : ℕ) (r : Path) → m ++ (k ∷ r) ≡ child m k ++ r
through m k r = sym (append_assoc m (k ∷ []) r)

-- what is inside a child is inside the instance
pub inside_child : (m : Path) (k : ℕ) (q : Path) → is_inside (child m k) q ≡ true → is_inside m q ≡ true
inside_child m k q e =
    let r = inside_way (child m k) q e in
    ap (is_inside m) (r.1 ∙ sym (through m k r.0)) ∙ way_inside m (k ∷ r.0)

-- ---- instances

module _ (instances : Instances) where
  pub there_has : (q : Path) → IsThere instances q → Has (map.keys instances) q
  there_has q is =
      let found : map.contains_key instances q ≡ true = ap is_some is.1 in
      let r = any_has (eq_by_cmp path_cmp q) (map.keys instances) (sym (map.contains_key-keys instances q) ∙ found) in
      subst (Has (map.keys instances)) (sym (same_is q r.0 r.2)) r.1

  some_there : (o : Option Instance) → is_some o ≡ true → (i : Instance) × (o ≡ Some i)
  some_there None e = absurd (cc)
  some_there (Some i) e = (i, refl)

  pub has_there : (q : Path) → Has (map.keys instances) q → IsThere instances q
  has_there q h = some_there (map.get instances q)
      (map.contains_key-keys instances q ∙ has_any (eq_by_cmp path_cmp q) (map.keys instances) q h (same_itself q))

module _ (s : Subject) (g : Situation) where
  pub child_has : (m : Path) (k : ℕ) → IsThere g.core.instances (child m k) → Has (children g m) (child m k)
  child_has m k is = filter_has (is_child m) (paths g) (child m k) (there_has g.core.instances (child m k) is) (is_child_of m k)

  -- an element of the list of children
  pub has_child : (m c : Path) → Has (children g m) c → (IsThere g.core.instances c) × (c ≡ child m (last_of c))
  has_child m c h = let r = has_filter (is_child m) (paths g) c h in (has_there g.core.instances c r.0, child_is m c r.1)

  module _ (tree : AreTree s g.core.instances) where
    pub there_above : (r m : Path) → IsThere g.core.instances (m ++ r) → IsThere g.core.instances m
    there_above [] m is = subst (IsThere g.core.instances) (append-nil m) is
    there_above (k ∷ r) m is =
        let below = there_above r (child m k) (subst (IsThere g.core.instances) (through m k r) is) in
        let place = tree m k below.0 below.1 in
        (place.parent, place.there)

    -- a path at or below an instance is the instance, or at or below one of its children
    pub at_or_below : (m q : Path) → IsThere g.core.instances q → is_inside m q ≡ true → (q ≡ m) ⊎ ((c : Path) × (Has (children g m) c) × (is_inside c q ≡ true))
    at_or_below m q is inside = let w = inside_way m q inside in by w.0 w.1
      where
        by : (r : Path) → q ≡ m ++ r → (q ≡ m) ⊎ ((c : Path) × (Has (children g m) c) × (is_inside c q ≡ true))
        by [] e = inl (e ∙ append-nil m)
        by (k ∷ r) e =
            let way : q ≡ child m k ++ r = e ∙ through m k r in
            inr (child m k, child_has m k (there_above r (child m k) (subst (IsThere g.core.instances) way is)), ap (is_inside (child m k)) way ∙ way_inside (child m k) r)

  -- ---- from below: what holds of an instance where it holds of its children holds of each

  -- no path of the list is longer
  total : List Path → ℕ
  total [] = 0
  total (q ∷ qs) = length q + total qs

  total_has : (qs : List Path) (q : Path) → Has qs q → length q ≤ total qs
  unfolding total
  total_has [] q h = absurd h
  total_has (p ∷ qs) q (inl is) = omega (arith, ap length is)
  total_has (p ∷ qs) q (inr h) = omega (arith, total_has qs q h)

  module _ (P : Path → Type 0) (step : (m : Path) → IsThere g.core.instances m → ((c : Path) → Has (children g m) c → P c) → P m) where
    longer : (m c : Path) → Has (children g m) c → length c ≡ length m + 1
    longer m c h = ap length (has_child m c h).1 ∙ length_child m (last_of c)

    -- by how much longer than this the paths may be
    upwards : (d : ℕ) (m : Path) → ((q : Path) → IsThere g.core.instances q → length q ≤ length m + d) → IsThere g.core.instances m → P m
    upwards zero m within there = step m there (λ c h. let more = longer m c h in let short = within c (has_child m c h).0 in absurd (omega arith))
    upwards (suc d) m within there = step m there (λ c h. let more = longer m c h in upwards d c (λ q is. omega (arith, within q is, more)) (has_child m c h).0)

    pub from_below : (m : Path) → IsThere g.core.instances m → P m
    from_below m = upwards (total (paths g)) m (λ q is. let short = total_has (paths g) q (there_has g.core.instances q is) in omega (arith, short))
