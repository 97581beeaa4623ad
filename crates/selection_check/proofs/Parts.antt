-- What is given of instances side by side and of all below them: that of the first one, and that of the others.
use Rattle.std.proofs.Common.{◌≡◌, ◌⊎◌, ◌+◌, ℕ, zero, suc, Bool, true, false, cond, List, [], ◌∷◌, ◌++◌, length, take, drop, refl, sym, ap, subst, ◌∙◌, inl, inr, arith, append-nil}
use Rattle.std.specs.Prelude.{map as each, flat_map}
use Rattle.std.specs.List.{prefix_len, AllByRecursion}
use Rattle.std.specs.List.Sorted.{IsStrictlySortedBy}
use Rattle.std.proofs.lemmas.Grind.{flat_map-append}
use Rattle.estelle_tree.specs.Paths.{Path, path_cmp, child, last_of, is_inside}
use Rattle.estelle_model.specs.Jobs.{IsThere}
use Rattle.estelle_model.specs.Subject.{Subject}
use Rattle.estelle_model.specs.Situation.{Situation}
use Rattle.estelle_model.specs.Selection.{children}
use Rattle.estelle_model_legality.specs.Choices.{AreTree}
use Rattle.estelle_model_legality.proofs.Members.{Has, has_append}
use Rattle.estelle_model_legality.proofs.Ways.{inside_last, not_below_itself, comparable}
use Rattle.estelle_model_legality.proofs.Lists.{not_true}
use Rattle.estelle_model_legality.proofs.Children.{has_child, inside_child}
use Rattle.transition_select.specs.Blocks.{at_and_below}
use Rattle.transition_select.proofs.Rising.{itself, before_has}
use Rattle.transition_select.proofs.Blocks.{AreChildren, are_children, rest, blocks, has_below, has_flat}
use Rattle.transition_select.specs.declared.countings.Counting.{Counting}
use Rattle.transition_select.specs.Countings.{IsCounting, AreCountings}
use Rattle.selection_check.specs.Countings.{AreCountingsBelow, block_len}

-- ---- lists

-- what is as long as a list is cut off in front of the rest
cut : {A B : Type 0} (f : A → B) (ys : List B) (zs : List B) (xs : List A) → each f xs ≡ ys ++ zs → (each f (take (length ys) xs) ≡ ys) × (each f (drop (length ys) xs) ≡ zs)
cut f [] zs xs e = (refl, e)
cut f (y ∷ ys) zs [] e = absurd (cc)
cut f (y ∷ ys) zs (x ∷ xs) e =
    let head : f x ≡ y = cc in
    let tail : each f xs ≡ ys ++ zs = cc in
    let r = cut f ys zs xs tail in
    (ap (λ z. z ∷ each f (take (length ys) xs)) head ∙ ap (λ ws. y ∷ ws) r.0, r.1)

one_more : (n : ℕ) → 1 + n ≡ suc n
one_more n = omega arith

module _ {A : Type 0} where
  all_take : (P : A → Type 0) (n : ℕ) (xs : List A) → AllByRecursion P xs → AllByRecursion P (take n xs)
  all_take P zero xs a = tt
  all_take P (suc n) [] a = tt
  all_take P (suc n) (x ∷ xs) a = (a.0, all_take P n xs a.1)

  all_drop : (P : A → Type 0) (n : ℕ) (xs : List A) → AllByRecursion P xs → AllByRecursion P (drop n xs)
  all_drop P zero xs a = a
  all_drop P (suc n) [] a = tt
  all_drop P (suc n) (x ∷ xs) a = all_drop P n xs a.1

  -- a list of which the first part passes, and nothing behind it
  pub prefix_is : (p : A → Bool) (xs ys : List A) → ((x : A) → Has xs x → p x ≡ true) → ((y : A) → Has ys y → p y ≡ false) → prefix_len p (xs ++ ys) ≡ length xs
  prefix_is p [] [] a b = refl
  prefix_is p [] (y ∷ ys) a b = ap (λ t. cond t (1 + prefix_len p ys) 0) (b y (inl refl))
  prefix_is p (x ∷ xs) ys a b =
      ap (λ t. cond t (1 + prefix_len p (xs ++ ys)) 0) (a x (inl refl)) ∙ ap (λ n. 1 + n) (prefix_is p xs ys (λ z h. a z (inr h)) b) ∙ one_more (length xs)

prefix_each : {A B : Type 0} (f : A → B) (p : B → Bool) (xs : List A) → prefix_len (λ x. p (f x)) xs ≡ prefix_len p (each f xs)
prefix_each f p [] = refl
prefix_each f p (x ∷ xs) = ap (λ n. cond (p (f x)) (1 + n) 0) (prefix_each f p xs)

-- ---- instances apart

-- nothing is at or below two of these instances
abbrev pub AreApart : List Path → Type 0
AreApart [] = Unit {0}
AreApart (c ∷ cs) = ((d q : Path) → Has cs d → is_inside c q ≡ true → is_inside d q ≡ true → ⊥) × AreApart cs

append_apart : (cs ds : List Path) → AreApart cs → AreApart ds → ((c d q : Path) → Has cs c → Has ds d → is_inside c q ≡ true → is_inside d q ≡ true → ⊥) → AreApart (cs ++ ds)
append_apart [] ds a b f = b
append_apart (c ∷ cs) ds a b f = (λ d q h i j. by d q (has_append cs ds d h) i j, append_apart cs ds a.1 b (λ e d q h k. f e d q (inr h) k))
  where
    by : (d q : Path) → Has cs d ⊎ Has ds d → is_inside c q ≡ true → is_inside d q ≡ true → ⊥
    by d q (inl h) i j = a.0 d q h i j
    by d q (inr h) i j = f c d q (inl refl) h i j

module _ (s : Subject) (g : Situation) where
  one_inside : (m c d : Path) → c ≡ child m (last_of c) → d ≡ child m (last_of d) → (c ≡ d → ⊥) → is_inside c d ≡ true → ⊥
  one_inside m c d of_m also differ i = elim (inside_last c m (last_of d) (ap (is_inside c) (sym also) ∙ i)) [
    | inl up ↦ not_below_itself m (last_of c) (ap (λ (p : Path). is_inside p m) (sym of_m) ∙ up)
    | inr e ↦ differ (e ∙ sym also)
  ]

  -- nothing is at or below the first child and a later one
  only_one : (m c : Path) (cs : List Path) → AreChildren s g m (c ∷ cs) → (d q : Path) → Has cs d → is_inside c q ≡ true → is_inside d q ≡ true → ⊥
  unfolding IsStrictlySortedBy
  only_one m c cs are d q h i j = elim (comparable c d q i j) [
    | inl k ↦ one_inside m c d (are.each c (inl refl)) (are.each d (inr h)) differ k
    | inr k ↦ one_inside m d c (are.each d (inr h)) (are.each c (inl refl)) (λ e. differ (sym e)) k
  ]
    where
      differ : c ≡ d → ⊥
      differ e = itself c (ap (path_cmp c) e ∙ before_has c cs d are.rise.0 h)

  children_apart : (m : Path) (cs : List Path) → AreChildren s g m cs → AreApart cs
  children_apart m [] are = tt
  children_apart m (c ∷ cs) are = (only_one m c cs are, children_apart m cs (rest s g m c cs are))

  -- what is at or below a child is below the instance
  pub inside_of_child : (m c q : Path) → Has (children g m) c → is_inside c q ≡ true → is_inside m q ≡ true
  inside_of_child m c q h i = inside_child m (last_of c) q (ap (λ p. is_inside p q) (sym (has_child s g m c h).1) ∙ i)

  inside_of_flat : (m q : Path) → Has (flat_map (at_and_below g) (children g m)) q → is_inside m q ≡ true
  inside_of_flat m q h = let c = has_flat (at_and_below g) (children g m) q h in inside_of_child m c.0 q c.1 (has_below s g c.0 q c.2).1

  outside_flat : (c : Path) (cs : List Path) → AreApart (c ∷ cs) → (q : Path) → Has (flat_map (at_and_below g) cs) q → is_inside c q ≡ false
  outside_flat c cs apart q h = not_true (is_inside c q) (λ e. let d = has_flat (at_and_below g) cs q h in apart.0 d.0 q d.1 e (has_below s g d.0 q d.2).1)

module _ (s : Subject) (budget : ℕ) (g : Situation) where
  -- ---- what is given of instances side by side

  pub record AreLeft (ms : List Path) (cs : List Counting) : Type 0 where
    pub apart : AreApart ms
    pub there : (m : Path) → Has ms m → IsThere g.core.instances m
    pub paths : each (λ c. c.path) cs ≡ flat_map (at_and_below g) ms
    pub countings : AllByRecursion (IsCounting s budget g) cs

  pub of_one : (m : Path) (cs : List Counting) → AreCountings s budget g m cs → AreLeft (m ∷ []) cs
  of_one m cs are = record {
    apart = (λ d q h. absurd h, tt);
    there = λ q h. elim h [ inl e ↦ subst (IsThere g.core.instances) e are.there | inr none ↦ absurd none ];
    paths = are.paths ∙ sym (append-nil (at_and_below g m));
    countings = are.countings;
  }

  pub of_children : (m : Path) (cs : List Counting) → AreCountingsBelow s budget g m cs → AreLeft (children g m) cs
  of_children m cs are = record { apart = children_apart s g m (children g m) (are_children s g m); there = λ c h. (has_child s g m c h).0; paths = are.paths; countings = are.countings }

  module _ (tree : AreTree s g.core.instances) where
    pub none_left : (ms : List Path) (cs : List Counting) → cs ≡ [] → AreLeft ms cs → ms ≡ []
    none_left [] cs e left = refl
    none_left (c ∷ ms) cs e left =
        let wrong : [] ≡ (c ∷ flat_map (at_and_below g) (children g c)) ++ flat_map (at_and_below g) ms =
        ap (each (λ (x : Counting). x.path)) (sym e) ∙ left.paths ∙ ap (λ ps. ps ++ flat_map (at_and_below g) ms) (blocks s g tree c (left.there c (inl refl))) in
        absurd (cc)

    module _ (c : Path) (ms : List Path) (d : Counting) (cs : List Counting) (left : AreLeft (c ∷ ms) (d ∷ cs)) where
      paths_are : d.path ∷ each (λ (x : Counting). x.path) cs ≡ c ∷ (flat_map (at_and_below g) (children g c) ++ flat_map (at_and_below g) ms)
      paths_are = left.paths ∙ ap (λ ps. ps ++ flat_map (at_and_below g) ms) (blocks s g tree c (left.there c (inl refl)))

      pub head_is : d.path ≡ c
      head_is = let e = paths_are in cc

      others_are : each (λ (x : Counting). x.path) cs ≡ flat_map (at_and_below g) (children g c) ++ flat_map (at_and_below g) ms
      others_are = let e = paths_are in cc

      len_is : block_len d.path cs ≡ length (flat_map (at_and_below g) (children g c))
      len_is =
          ap (λ p. block_len p cs) head_is ∙ prefix_each (λ (x : Counting). x.path) (is_inside c) cs ∙ ap (prefix_len (is_inside c)) others_are
          ∙ prefix_is (is_inside c) (flat_map (at_and_below g) (children g c)) (flat_map (at_and_below g) ms) (inside_of_flat s g c) (outside_flat s g c ms left.apart)

      -- the paths of what is below the first one, and of the others
      paths_cut : (each (λ (x : Counting). x.path) (take (block_len d.path cs) cs) ≡ flat_map (at_and_below g) (children g c))
          × (each (λ (x : Counting). x.path) (drop (block_len d.path cs) cs) ≡ flat_map (at_and_below g) ms)
      paths_cut =
          let r = cut (λ (x : Counting). x.path) (flat_map (at_and_below g) (children g c)) (flat_map (at_and_below g) ms) cs others_are in
          (ap (λ n. each (λ (x : Counting). x.path) (take n cs)) len_is ∙ r.0, ap (λ n. each (λ (x : Counting). x.path) (drop n cs)) len_is ∙ r.1)

      pub below_first : AreCountingsBelow s budget g c (take (block_len d.path cs) cs)
      below_first = record { paths = paths_cut.0; countings = all_take (IsCounting s budget g) (block_len d.path cs) cs left.countings.1 }

      pub of_first : AreCountings s budget g c (d ∷ take (block_len d.path cs) cs)
      of_first = record {
        there = left.there c (inl refl);
        paths = ap (λ q. q ∷ each (λ (x : Counting). x.path) (take (block_len d.path cs) cs)) head_is ∙ ap (λ qs. c ∷ qs) paths_cut.0 ∙ sym (blocks s g tree c (left.there c (inl refl)));
        countings = (left.countings.0, below_first.countings);
      }

      pub of_others : AreLeft ms (drop (block_len d.path cs) cs)
      of_others = record { apart = left.apart.1; there = λ q h. left.there q (inr h); paths = paths_cut.1; countings = all_drop (IsCounting s budget g) (block_len d.path cs) cs left.countings.1 }

      -- the children of the first one in its place
      pub opened : AreLeft (children g c ++ ms) cs
      opened = record {
        apart = append_apart (children g c) ms (children_apart s g c (children g c) (are_children s g c)) left.apart.1 (λ e f q h k i j. left.apart.0 f q k (inside_of_child s g c e q h i) j);
        there = λ q h. elim (has_append (children g c) ms q h) [ inl k ↦ (has_child s g c q k).0 | inr k ↦ left.there q (inr k) ];
        paths = others_are ∙ sym (flat_map-append (at_and_below g) (children g c) ms);
        countings = left.countings.1;
      }
