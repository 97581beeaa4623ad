-- Offers of an instance are its own and those of each of its children, one child after another.
use Rattle.std.proofs.Common.{◌≡◌, ◌⊎◌, ◌+◌, ◌≤◌, ℕ, zero, suc, Bool, true, false, cond, List, [], ◌∷◌, ◌++◌, length, take, drop, refl, sym, ap, subst, ◌∙◌, inl, inr, arith, length-append}
use Rattle.std.specs.Prelude.{◌&&◌, ◌||◌, not, map as each, filter, flat_map}
use Rattle.std.specs.List.{list_any, prefix_len, AllByRecursion}
use Rattle.std.proofs.lemmas.List.{take-append-drop}
use Rattle.std.proofs.Math.Seq.{take-append_seam, drop-append_seam}
use Rattle.estelle_tree.specs.Paths.{Path, is_inside}
use Rattle.estelle_model.specs.Jobs.{IsThere}
use Rattle.estelle_model.specs.Subject.{Subject}
use Rattle.estelle_model.specs.Situation.{Situation}
use Rattle.estelle_model.specs.Attributes.{is_empty}
use Rattle.estelle_model.specs.Selection.{paths, children, has_priority}
use Rattle.estelle_model.specs.Schedule.{counted, offered, is_able}
use Rattle.estelle_model_legality.specs.Choices.{AreTree}
use Rattle.estelle_model_legality.proofs.Members.{Has}
use Rattle.estelle_model_legality.proofs.Children.{has_child}
use Rattle.estelle_model_legality.proofs.ChosenThere.{some_offered}
use Rattle.transition_select.specs.declared.offers.Offer.{Offer}
use Rattle.transition_select.specs.Blocks.{at_and_below}
use Rattle.transition_select.specs.Offers.{IsOffer, AreOffers, AreOffersOfEach, none, more, block_len, offers_some, first_len}
use Rattle.transition_select.proofs.Rising.{itself}
use Rattle.transition_select.proofs.Blocks.{AreChildren, are_children, rest, later, blocks, has_below, below_has, has_flat}

-- ---- lists

-- what is as long as a list is cut off in front of the rest
cut : {A B : Type 0} (f : A → B) (ys : List B) (zs : List B) (xs : List A) → each f xs ≡ ys ++ zs → (each f (take (length ys) xs) ≡ ys) × (each f (drop (length ys) xs) ≡ zs)
cut f [] zs xs e = (refl, e)
cut f (y ∷ ys) zs [] e = absurd (cc)
cut f (y ∷ ys) zs (x ∷ xs) e =
    let head : f x ≡ y = cc in
    let tail : each f xs ≡ ys ++ zs = cc in
    let r = cut f ys zs xs tail in
    (ap (λ z. z ∷ each f (take (length ys) xs)) head ∙ ap (λ ws. y ∷ ws) r.0, r.1)

module _ {A : Type 0} (P : A → Type 0) where
  all_take : (n : ℕ) (xs : List A) → AllByRecursion P xs → AllByRecursion P (take n xs)
  all_take zero xs a = tt
  all_take (suc n) [] a = tt
  all_take (suc n) (x ∷ xs) a = (a.0, all_take n xs a.1)

  all_drop : (n : ℕ) (xs : List A) → AllByRecursion P xs → AllByRecursion P (drop n xs)
  all_drop zero xs a = a
  all_drop (suc n) [] a = tt
  all_drop (suc n) (x ∷ xs) a = all_drop n xs a.1

one_more : (n : ℕ) → 1 + n ≡ suc n
one_more n = omega arith

module _ {A : Type 0} where
  -- a list of which the first part passes, and nothing behind it
  prefix_is : (p : A → Bool) (xs ys : List A) → AllByRecursion (λ x. p x ≡ true) xs → AllByRecursion (λ y. p y ≡ false) ys → prefix_len p (xs ++ ys) ≡ length xs
  prefix_is p [] [] a b = refl
  prefix_is p [] (y ∷ ys) a b = ap (λ t. cond t (1 + prefix_len p ys) 0) b.0
  prefix_is p (x ∷ xs) ys a b = ap (λ t. cond t (1 + prefix_len p (xs ++ ys)) 0) a.0 ∙ ap (λ n. 1 + n) (prefix_is p xs ys a.1 b) ∙ one_more (length xs)

  any_filter : (p r : A → Bool) (xs : List A) → list_any (λ x. p x && r x) xs ≡ list_any r (filter p xs)
  any_filter p r [] = refl
  any_filter p r (x ∷ xs) = by (p x) (any_filter p r xs)
    where
      by : (b : Bool) → list_any (λ x. p x && r x) xs ≡ list_any r (filter p xs) → ((b && r x) || list_any (λ x. p x && r x) xs) ≡ list_any r (cond b (x ∷ filter p xs) (filter p xs))
      by true e = ap (λ t. r x || t) e
      by false e = e

-- what holds of the paths of offers
all_paths : (P : Path → Type 0) (os : List Offer) → ((q : Path) → Has (each (λ o. o.path) os) q → P q) → AllByRecursion (λ o. P o.path) os
all_paths P [] f = tt
all_paths P (o ∷ os) f = (f o.path (inl refl), all_paths P os (λ q h. f q (inr h)))

module _ (s : Subject) (budget : ℕ) (g : Situation) where
  -- ---- children

  not_inside : (m c : Path) (cs : List Path) → AreChildren s g m (c ∷ cs) → (q : Path) → Has (flat_map (at_and_below g) cs) q → IsThere g.core.instances q → is_inside c q ≡ false
  not_inside m c cs are q h there = by (is_inside c q) refl
    where
      by : (b : Bool) → is_inside c q ≡ b → b ≡ false
      by true e = absurd (itself q (later s g m c cs are q q (below_has s g c q there e) h))
      by false e = refl

  there_flat : (cs : List Path) (q : Path) → Has (flat_map (at_and_below g) cs) q → IsThere g.core.instances q
  there_flat cs q h = let r = has_flat (at_and_below g) cs q h in (has_below s g r.0 q r.2).0

  of_each : (m : Path) (cs : List Path) → AreChildren s g m cs → ((c : Path) → Has cs c → IsThere g.core.instances c)
      → (os : List Offer) → each (λ o. o.path) os ≡ flat_map (at_and_below g) cs → AllByRecursion (IsOffer s budget g) os → AreOffersOfEach s budget g cs os
  of_each m [] are there [] e a = none
  of_each m [] are there (o ∷ os) e a = absurd (cc)
  of_each m (c ∷ cs) are there os e a =
      let n = length (at_and_below g c) in
      let r = cut (λ (o : Offer). o.path) (at_and_below g c) (flat_map (at_and_below g) cs) os e in
      let own : AreOffers s budget g c (take n os) = record { there = there c (inl refl); paths = r.0; offers = all_take (IsOffer s budget g) n os a } in
      let apart = all_paths (λ q. is_inside c q ≡ false) (drop n os) (λ q h. let k : Has (flat_map (at_and_below g) cs) q = subst (λ qs. Has qs q) r.1 h in not_inside m c cs are q k (there_flat cs q k)) in
      let others = of_each m cs (rest s g m c cs are) (λ d h. there d (inr h)) (drop n os) r.1 (all_drop (IsOffer s budget g) n os a) in
      subst (AreOffersOfEach s budget g (c ∷ cs)) (take-append-drop n os) (more c cs (take n os) (drop n os) own apart others)

  module _ (tree : AreTree s g.core.instances) where
    -- an instance's own offer stands first, and behind it those of its children
    pub below : (m : Path) (o : Offer) (os : List Offer) → AreOffers s budget g m (o ∷ os) → (o.path ≡ m) × AreOffersOfEach s budget g (children g m) os
    below m o os are =
        let e : o.path ∷ each (λ (p : Offer). p.path) os ≡ m ∷ flat_map (at_and_below g) (children g m) = are.paths ∙ blocks s g tree m are.there in
        let first : o.path ≡ m = cc in
        let others : each (λ (p : Offer). p.path) os ≡ flat_map (at_and_below g) (children g m) = cc in
        (first, of_each m (children g m) (are_children s g m) (λ c h. (has_child s g m c h).0) os others are.offers.1)

    pub not_none : (m : Path) → AreOffers s budget g m [] → ⊥
    not_none m are = let e : [] ≡ m ∷ flat_map (at_and_below g) (children g m) = are.paths ∙ blocks s g tree m are.there in absurd (cc)

    pub none_offered : (m : Path) (os : List Offer) → length os ≡ 0 → AreOffers s budget g m os → ⊥
    none_offered m [] e are = not_none m are
    none_offered m (o ∷ os) e are = absurd (omega (arith, e))

    first_is : (m : Path) (os others : List Offer) → AreOffers s budget g m os → AllByRecursion (λ o. is_inside m o.path ≡ false) others → first_len (os ++ others) ≡ length os
    first_is m [] others are apart = absurd (not_none m are)
    first_is m (o ∷ os) others are apart =
        let is = (below m o os are).0 in
        let inside = all_paths (λ q. is_inside m q ≡ true) (o ∷ os) (λ q h. (has_below s g m q (subst (λ qs. Has qs q) are.paths h)).1) in
        ap (λ p. suc (block_len p (os ++ others))) is ∙ ap suc (prefix_is (λ (p : Offer). is_inside m p.path) os others inside.1 apart)

    -- of offers of instances side by side the first ones are those of the first instance
    pub record AreCut (ms : List Path) (os : List Offer) : Type 0 where
      pub first : Path
      pub others : List Path
      pub are : ms ≡ first ∷ others
      pub of_first : AreOffers s budget g first (take (first_len os) os)
      pub of_others : AreOffersOfEach s budget g others (drop (first_len os) os)
      pub within : first_len os ≤ length os

    pub cases_of_each : (ms : List Path) (os : List Offer) → AreOffersOfEach s budget g ms os → (ms ≡ []) ⊎ AreCut ms os
    cases_of_each [] [] none = inl refl
    cases_of_each [] (o ∷ os) each = elim each [ ]
    cases_of_each (m ∷ ms) _ (more m' ms' os others are apart others_are) =
        let n = first_is m os others are apart in
        inr (record {
          first = m;
          others = ms;
          are = refl;
          of_first = subst (AreOffers s budget g m) (sym (ap (λ k. take k (os ++ others)) n ∙ take-append_seam os others)) are;
          of_others = subst (AreOffersOfEach s budget g ms) (sym (ap (λ k. drop k (os ++ others)) n ∙ drop-append_seam os others)) others_are;
          within = omega (arith, n, length-append os others);
        })

    -- ---- able instances

    has_some : {A : Type 0} (xs : List A) (x : A) → Has xs x → is_empty xs ≡ false
    has_some [] x h = absurd h
    has_some (y ∷ xs) x h = refl

    pub offered_empty : (q : Path) → is_empty (offered s budget g q) ≡ is_empty (counted s budget g q)
    offered_empty q = by (counted s budget g q) refl
      where
        by : (ns : List ℕ) → counted s budget g q ≡ ns → is_empty (offered s budget g q) ≡ is_empty ns
        by [] e = ap (λ ns. is_empty (filter (λ n. not (list_any (λ k. has_priority s g q k n) ns)) ns)) e
        by (n ∷ ns) e = let r = some_offered s budget g q n ns e in has_some (offered s budget g q) r.0 r.1

    some_by : (os : List Offer) → AllByRecursion (IsOffer s budget g) os → offers_some os ≡ list_any (λ q. not (is_empty (counted s budget g q))) (each (λ o. o.path) os)
    some_by [] a = refl
    some_by (o ∷ os) a = ap (λ b. cond b (offers_some os) true) (ap is_empty a.0.offered ∙ offered_empty o.path) ∙ by (is_empty (counted s budget g o.path)) (some_by os a.1)
      where
        by : (b : Bool) → offers_some os ≡ list_any (λ q. not (is_empty (counted s budget g q))) (each (λ (p : Offer). p.path) os)
            → cond b (offers_some os) true ≡ (not b || list_any (λ q. not (is_empty (counted s budget g q))) (each (λ (p : Offer). p.path) os))
        by true e = e
        by false e = refl

    pub able_is : (m : Path) (os : List Offer) → AreOffers s budget g m os → offers_some os ≡ is_able s budget g m
    able_is m os are =
        some_by os are.offers ∙ ap (list_any (λ q. not (is_empty (counted s budget g q)))) are.paths
        ∙ sym (any_filter (is_inside m) (λ q. not (is_empty (counted s budget g q))) (paths g))
