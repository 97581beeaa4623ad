-- The instances at and below an instance, in path order: the instance, and then those at and below each of its children, one child after another.
use Rattle.std.proofs.Common.{◌≡◌, ◌⊎◌, ℕ, true, List, [], ◌∷◌, ◌++◌, refl, sym, ap, subst, ◌∙◌, inl, inr}
use Rattle.std.specs.Prelude.{flat_map}
use Rattle.std.specs.Ordering.{nat_cmp, ordering_then}
use Rattle.std.specs.Cmp.{nat_cmp_total, tied_itself}
use Rattle.std.specs.List.Sorted.{IsStrictlySortedBy}
use Rattle.std.specs.declared.cmp.Ordering.{Ordering}
use Rattle.std.specs.declared.cmp.Ordering.TheVariants.{Less, Equal, Greater}
use Rattle.std.proofs.lemmas.List.Kept.{IsStrictlySortedBy-filter}
use Rattle.estelle_tree.specs.Paths.{Path, path_cmp, child, last_of, is_inside}
use Rattle.estelle_model.specs.Jobs.{IsThere}
use Rattle.estelle_model.specs.Subject.{Subject}
use Rattle.estelle_model.specs.Situation.{Situation}
use Rattle.estelle_model.specs.Selection.{paths, children, is_child}
use Rattle.estelle_model_legality.specs.Choices.{AreTree}
use Rattle.estelle_model_legality.proofs.Members.{Has, has_filter, filter_has}
use Rattle.estelle_model_legality.proofs.Ways.{inside_itself}
use Rattle.estelle_model_legality.proofs.Children.{there_has, has_there, has_child, inside_child, inside_way, at_or_below, through}
use Rattle.transition_select.specs.Blocks.{at_and_below}
use Rattle.transition_select.proofs.Rising.{Rises, Within, keys_rise, before_has, has_before, same_rising, append_rises}

-- ---- the order of what is below two instances

same_way : (m q r : Path) → path_cmp (m ++ q) (m ++ r) ≡ path_cmp q r
same_way [] q r = refl
same_way (k ∷ m) q r = ap (λ o. ordering_then o (path_cmp (m ++ q) (m ++ r))) (tied_itself nat_cmp_total k) ∙ same_way m q r

-- what is below comes later
longer : (m : Path) (k : ℕ) (r : Path) → path_cmp m (m ++ (k ∷ r)) ≡ Less
longer [] k r = refl
longer (n ∷ m) k r = ap (λ o. ordering_then o (path_cmp m (m ++ (k ∷ r)))) (tied_itself nat_cmp_total n) ∙ longer m k r

numbers : (m : Path) (j k : ℕ) → path_cmp (child m j) (child m k) ≡ Less → nat_cmp j k ≡ Less
numbers m j k e = by (nat_cmp j k) (sym (same_way m (j ∷ []) (k ∷ [])) ∙ e)
  where
    by : (o : Ordering) → ordering_then o Equal ≡ Less → o ≡ Less
    by Less e = refl
    by Equal e = absurd (cc)
    by Greater e = absurd (cc)

-- what is at or below an earlier child comes before what is at or below a later one
apart : (m : Path) (j k : ℕ) (p q : Path) → path_cmp (child m j) (child m k) ≡ Less → is_inside (child m j) p ≡ true → is_inside (child m k) q ≡ true → path_cmp p q ≡ Less
apart m j k p q e f g =
    let a = inside_way (child m j) p f in
    let b = inside_way (child m k) q g in
    ap (λ r. path_cmp r q) (a.1 ∙ sym (through m j a.0)) ∙ ap (path_cmp (m ++ (j ∷ a.0))) (b.1 ∙ sym (through m k b.0))
    ∙ same_way m (j ∷ a.0) (k ∷ b.0) ∙ ap (λ o. ordering_then o (path_cmp a.0 b.0)) (numbers m j k e)

-- ---- elements

module _ {A : Type 0} where
  has_append : (xs ys : List A) (x : A) → Has (xs ++ ys) x → Has xs x ⊎ Has ys x
  has_append [] ys x h = inr h
  has_append (z ∷ xs) ys x (inl is) = inl (inl is)
  has_append (z ∷ xs) ys x (inr h) = by (has_append xs ys x h)
    where
      by : Has xs x ⊎ Has ys x → Has (z ∷ xs) x ⊎ Has ys x
      by (inl h) = inl (inr h)
      by (inr h) = inr h

  append_first : (xs ys : List A) (x : A) → Has xs x → Has (xs ++ ys) x
  append_first [] ys x h = absurd h
  append_first (z ∷ xs) ys x (inl is) = inl is
  append_first (z ∷ xs) ys x (inr h) = inr (append_first xs ys x h)

  append_second : (xs ys : List A) (x : A) → Has ys x → Has (xs ++ ys) x
  append_second [] ys x h = h
  append_second (z ∷ xs) ys x h = inr (append_second xs ys x h)

  pub has_flat : (f : A → List A) (xs : List A) (y : A) → Has (flat_map f xs) y → (x : A) × Has xs x × Has (f x) y
  has_flat f [] y h = absurd h
  has_flat f (x ∷ xs) y h = by (has_append (f x) (flat_map f xs) y h) (has_flat f xs y)
    where
      by : Has (f x) y ⊎ Has (flat_map f xs) y → (Has (flat_map f xs) y → (z : A) × Has xs z × Has (f z) y) → (z : A) × Has (x ∷ xs) z × Has (f z) y
      by (inl h) more = (x, inl refl, h)
      by (inr h) more = let r = more h in (r.0, inr r.1, r.2)

  flat_has : (f : A → List A) (xs : List A) (x y : A) → Has xs x → Has (f x) y → Has (flat_map f xs) y
  flat_has f [] x y h k = absurd h
  flat_has f (z ∷ xs) x y (inl is) k = append_first (f z) (flat_map f xs) y (subst (λ w. Has (f w) y) (sym is) k)
  flat_has f (z ∷ xs) x y (inr h) k = append_second (f z) (flat_map f xs) y (flat_has f xs x y h k)

-- ---- the blocks

module _ (s : Subject) (g : Situation) where
  pub below_rises : (m : Path) → Rises (at_and_below g m)
  below_rises m = IsStrictlySortedBy-filter path_cmp (is_inside m) (paths g) (keys_rise g.core.instances)

  children_rise : (m : Path) → Rises (children g m)
  children_rise m = IsStrictlySortedBy-filter path_cmp (is_child m) (paths g) (keys_rise g.core.instances)

  pub has_below : (m q : Path) → Has (at_and_below g m) q → (IsThere g.core.instances q) × (is_inside m q ≡ true)
  has_below m q h = let r = has_filter (is_inside m) (paths g) q h in (has_there g.core.instances q r.0, r.1)

  pub below_has : (m q : Path) → IsThere g.core.instances q → is_inside m q ≡ true → Has (at_and_below g m) q
  below_has m q is e = filter_has (is_inside m) (paths g) q (there_has g.core.instances q is) e

  -- children of one instance, in order
  pub record AreChildren (m : Path) (cs : List Path) : Type 0 where
    pub each : (c : Path) → Has cs c → c ≡ child m (last_of c)
    pub rise : Rises cs

  module _ (m : Path) where
    pub rest : (c : Path) (cs : List Path) → AreChildren m (c ∷ cs) → AreChildren m cs
    unfolding IsStrictlySortedBy
    rest c cs are = record { each = λ d h. are.each d (inr h); rise = are.rise.1 }

    -- what is at or below a later child comes later
    pub later : (c : Path) (cs : List Path) → AreChildren m (c ∷ cs) → (p q : Path) → Has (at_and_below g c) p → Has (flat_map (at_and_below g) cs) q → path_cmp p q ≡ Less
    unfolding IsStrictlySortedBy
    later c cs are p q h k =
        let d = has_flat (at_and_below g) cs q k in
        let before = before_has c cs d.0 are.rise.0 d.1 in
        let is_c = are.each c (inl refl) in
        let is_d = are.each d.0 (inr d.1) in
        apart m (last_of c) (last_of d.0) p q (ap (λ r. path_cmp r (child m (last_of d.0))) (sym is_c) ∙ ap (path_cmp c) (sym is_d) ∙ before)
        (ap (λ r. is_inside r p) (sym is_c) ∙ (has_below c p h).1) (ap (λ r. is_inside r q) (sym is_d) ∙ (has_below d.0 q d.2).1)

    flat_rises : (cs : List Path) → AreChildren m cs → Rises (flat_map (at_and_below g) cs)
    unfolding IsStrictlySortedBy
    flat_rises [] are = tt
    flat_rises (c ∷ cs) are = append_rises (at_and_below g c) (flat_map (at_and_below g) cs) (below_rises c) (flat_rises cs (rest c cs are)) (later c cs are)

    pub are_children : AreChildren m (children g m)
    are_children = record { each = λ c h. (has_child s g m c h).1; rise = children_rise m }

  module _ (tree : AreTree s g.core.instances) (m : Path) (there : IsThere g.core.instances m) where
    blocks_before : (q : Path) → Has (flat_map (at_and_below g) (children g m)) q → path_cmp m q ≡ Less
    blocks_before q h =
        let c = has_flat (at_and_below g) (children g m) q h in
        let is = (has_child s g m c.0 c.1).1 in
        let inside : is_inside (child m (last_of c.0)) q ≡ true = ap (λ r. is_inside r q) (sym is) ∙ (has_below c.0 q c.2).1 in
        let way = inside_way (child m (last_of c.0)) q inside in
        ap (path_cmp m) (way.1 ∙ sym (through m (last_of c.0) way.0)) ∙ longer m (last_of c.0) way.0

    blocks_rise : Rises (m ∷ flat_map (at_and_below g) (children g m))
    unfolding IsStrictlySortedBy
    blocks_rise = (has_before m (flat_map (at_and_below g) (children g m)) blocks_before, flat_rises m (children g m) (are_children m))

    into : Within (at_and_below g m) (m ∷ flat_map (at_and_below g) (children g m))
    into q h = let r = has_below m q h in by (at_or_below s g tree m q r.0 r.1)
      where
        by : (q ≡ m) ⊎ ((c : Path) × (Has (children g m) c) × (is_inside c q ≡ true)) → Has (m ∷ flat_map (at_and_below g) (children g m)) q
        by (inl is) = inl (sym is)
        by (inr c) = inr (flat_has (at_and_below g) (children g m) c.0 q c.1 (below_has c.0 q (has_below m q h).0 c.2))

    back : Within (m ∷ flat_map (at_and_below g) (children g m)) (at_and_below g m)
    back q (inl is) = subst (Has (at_and_below g m)) is (below_has m m there (inside_itself m))
    back q (inr h) =
        let c = has_flat (at_and_below g) (children g m) q h in
        let is = (has_child s g m c.0 c.1).1 in
        let r = has_below c.0 q c.2 in
        below_has m q r.0 (inside_child m (last_of c.0) q (ap (λ p. is_inside p q) (sym is) ∙ r.1))

    pub blocks : at_and_below g m ≡ m ∷ flat_map (at_and_below g) (children g m)
    blocks = same_rising (at_and_below g m) (m ∷ flat_map (at_and_below g) (children g m)) (below_rises m) blocks_rise into back
