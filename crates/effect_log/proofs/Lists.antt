-- Lists: what is found in them, what filters leave, and what each element gives.
use Rattle.std.proofs.Common.{◌≡◌, Bool, true, false, cond, List, [], ◌∷◌, ◌++◌, length, Some, None, refl, sym, ap, ◌∙◌, inl, inr, arith}
use Rattle.std.specs.Prelude.{◌||◌, map as each, filter, find, option_map, IsPermutation}
use Rattle.std.specs.List.{list_any}
use Rattle.std.proofs.lemmas.List.Sorted.{IsPermutation-refl, IsPermutation-cons, IsPermutation-trans, IsPermutation-middle, IsPermutation-sym}
use Rattle.estelle_model.proofs.Members.{Among}

pub or_left : (a b : Bool) → a ≡ true → (a || b) ≡ true
or_left true b h = refl
or_left false b h = absurd (cc)

pub or_right : (a b : Bool) → b ≡ true → (a || b) ≡ true
or_right true b h = refl
or_right false b h = h

pub nothing-left : {A : Type 0} (xs : List A) → length xs ≡ 0 → xs ≡ []
nothing-left [] e = refl
nothing-left (x ∷ xs) e = absurd (omega (arith, e))

-- ---- what is found

module _ {A B : Type 0} where
  -- the first that passes, where each is changed and passes as before
  pub find-each : (f : A → B) (h : B → Bool) (k : A → Bool) (xs : List A) → ((x : A) → Among x xs → h (f x) ≡ k x) → find h (each f xs) ≡ option_map f (find k xs)
  find-each f h k [] same = refl
  find-each f h k (x ∷ xs) same = ap (λ b. cond b (Some (f x)) (find h (each f xs))) (same x (inl refl)) ∙ by (k x) (find-each f h k xs (λ y m. same y (inr m)))
    where
      by : (b : Bool) → find h (each f xs) ≡ option_map f (find k xs) → cond b (Some (f x)) (find h (each f xs)) ≡ option_map f (cond b (Some x) (find k xs))
      by true rest = refl
      by false rest = rest

  pub among-each : (f : A → B) (xs : List A) (y : B) → Among y (each f xs) → (x : A) × Among x xs × (f x ≡ y)
  among-each f [] y h = absurd h
  among-each f (x ∷ xs) y (inl e) = (x, inl refl, e)
  among-each f (x ∷ xs) y (inr h) = let r = among-each f xs y h in (r.0, inr r.1, r.2)

module _ {A : Type 0} where
  -- the first that passes is kept
  pub find-kept : (h keep : A → Bool) (xs : List A) (x : A) → find h xs ≡ Some x → keep x ≡ true → find h (filter keep xs) ≡ Some x
  find-kept h keep [] x is kept = absurd (cc)
  find-kept h keep (y ∷ ys) x is kept = by (h y) (keep y) refl refl is (find-kept h keep ys x)
    where
      by : (b c : Bool) → h y ≡ b → keep y ≡ c → cond b (Some y) (find h ys) ≡ Some x → (find h ys ≡ Some x → keep x ≡ true → find h (filter keep ys) ≡ Some x) → find h (cond c (y ∷ filter keep ys) (filter keep ys)) ≡ Some x
      by true true p q e rest = ap (λ b. cond b (Some y) (find h (filter keep ys))) p ∙ e
      by true false p q e rest = let same : y ≡ x = cc in let wrong : false ≡ true = sym q ∙ ap keep same ∙ kept in absurd (cc)
      by false true p q e rest = ap (λ b. cond b (Some y) (find h (filter keep ys))) p ∙ rest e kept
      by false false p q e rest = rest e kept

  pub find-none : (h : A → Bool) (xs : List A) → ((x : A) → Among x xs → h x ≡ false) → find h xs ≡ None
  find-none h [] none = refl
  find-none h (x ∷ xs) none = ap (λ b. cond b (Some x) (find h xs)) (none x (inl refl)) ∙ find-none h xs (λ y m. none y (inr m))

  pub found-none : (h : A → Bool) (xs : List A) → find h xs ≡ None → (x : A) → Among x xs → h x ≡ false
  found-none h [] none x m = absurd m
  found-none h (y ∷ ys) none x m = by (h y) refl none m (found-none h ys)
    where
      by : (b : Bool) → h y ≡ b → cond b (Some y) (find h ys) ≡ None → Among x (y ∷ ys) → (find h ys ≡ None → (z : A) → Among z ys → h z ≡ false) → h x ≡ false
      by true p e m rest = absurd (cc)
      by false p e (inl is) rest = ap h (sym is) ∙ p
      by false p e (inr m) rest = rest e x m

  -- where something passes, something is found
  pub find-some : (h : A → Bool) (xs : List A) (x : A) → Among x xs → h x ≡ true → (y : A) × (find h xs ≡ Some y)
  find-some h [] x m e = absurd m
  find-some h (y ∷ ys) x m e = by (h y) refl m (find-some h ys x)
    where
      by : (b : Bool) → h y ≡ b → Among x (y ∷ ys) → (Among x ys → h x ≡ true → (z : A) × (find h ys ≡ Some z)) → (z : A) × (cond b (Some y) (find h ys) ≡ Some z)
      by true p m rest = (y, refl)
      by false p (inl is) rest = let wrong : false ≡ true = sym p ∙ ap h is ∙ e in absurd (cc)
      by false p (inr m) rest = rest m e

  -- ---- filters

  pub among-kept : (keep : A → Bool) (xs : List A) (x : A) → Among x xs → keep x ≡ true → Among x (filter keep xs)
  among-kept keep [] x m e = absurd m
  among-kept keep (y ∷ ys) x m e = by (keep y) refl m (among-kept keep ys x)
    where
      by : (b : Bool) → keep y ≡ b → Among x (y ∷ ys) → (Among x ys → keep x ≡ true → Among x (filter keep ys)) → Among x (cond b (y ∷ filter keep ys) (filter keep ys))
      by true p (inl is) rest = inl is
      by true p (inr m) rest = inr (rest m e)
      by false p (inl is) rest = let wrong : false ≡ true = sym p ∙ ap keep is ∙ e in absurd (cc)
      by false p (inr m) rest = rest m e

  pub filter-alike : (f g : A → Bool) (xs : List A) → ((x : A) → Among x xs → f x ≡ g x) → filter f xs ≡ filter g xs
  filter-alike f g [] same = refl
  filter-alike f g (x ∷ xs) same =
      let rest = filter-alike f g xs (λ y m. same y (inr m)) in
      λ i. cond (same x (inl refl) i) (x ∷ rest i) (rest i)

  pub filter-nothing : (f : A → Bool) (xs : List A) → ((x : A) → f x ≡ false) → filter f xs ≡ []
  filter-nothing f [] none = refl
  filter-nothing f (x ∷ xs) none = ap (λ b. cond b (x ∷ filter f xs) (filter f xs)) (none x) ∙ filter-nothing f xs none

  pub filter-all : (f : A → Bool) (xs : List A) → ((x : A) → f x ≡ true) → filter f xs ≡ xs
  filter-all f [] all = refl
  filter-all f (x ∷ xs) all = ap (λ b. cond b (x ∷ filter f xs) (filter f xs)) (all x) ∙ ap (λ ys. x ∷ ys) (filter-all f xs all)

  -- what passes one of two tests that rule each other out
  pub filter-either : (g h : A → Bool) → ((x : A) → g x ≡ true → h x ≡ false) → (xs : List A) → IsPermutation (filter (λ x. cond (g x) true (h x)) xs) (filter g xs ++ filter h xs)
  filter-either g h apart [] = IsPermutation-refl []
  filter-either g h apart (x ∷ xs) = by (g x) (h x) refl refl (filter-either g h apart xs)
    where
      by : (b c : Bool) → g x ≡ b → h x ≡ c → IsPermutation (filter (λ x. cond (g x) true (h x)) xs) (filter g xs ++ filter h xs)
          → IsPermutation (cond (cond b true c) (x ∷ filter (λ x. cond (g x) true (h x)) xs) (filter (λ x. cond (g x) true (h x)) xs)) (cond b (x ∷ filter g xs) (filter g xs) ++ cond c (x ∷ filter h xs) (filter h xs))
      by true true p q rest = let wrong : true ≡ false = sym q ∙ apart x p in absurd (cc)
      by true false p q rest = IsPermutation-cons x _ _ rest
      by false true p q rest = IsPermutation-trans _ (x ∷ (filter g xs ++ filter h xs)) _ (IsPermutation-cons x _ _ rest) (IsPermutation-sym _ _ (IsPermutation-middle (filter g xs) x (filter h xs)))
      by false false p q rest = rest

  -- ---- tests of lists

  pub any-or : (f g : A → Bool) (xs : List A) → list_any (λ x. f x || g x) xs ≡ (list_any f xs || list_any g xs)
  any-or f g [] = refl
  any-or f g (x ∷ xs) = ap (λ b. (f x || g x) || b) (any-or f g xs) ∙ by (f x) (g x) (list_any f xs) (list_any g xs)
    where
      by : (a b c d : Bool) → ((a || b) || (c || d)) ≡ ((a || c) || (b || d))
      by true b c d = refl
      by false true true d = refl
      by false true false d = refl
      by false false c d = refl

  -- some element passes
  pub any-among : (f : A → Bool) (xs : List A) → list_any f xs ≡ true → (x : A) × Among x xs × (f x ≡ true)
  any-among f [] h = absurd (cc)
  any-among f (x ∷ xs) h = by (f x) refl h (any-among f xs)
    where
      by : (b : Bool) → f x ≡ b → (b || list_any f xs) ≡ true → (list_any f xs ≡ true → (y : A) × Among y xs × (f y ≡ true)) → (y : A) × Among y (x ∷ xs) × (f y ≡ true)
      by true p e rest = (x, inl refl, p)
      by false p e rest = let r = rest e in (r.0, inr r.1, r.2)
