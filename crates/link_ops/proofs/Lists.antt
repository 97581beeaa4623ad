-- A list with gaps, seen without them.
use Rattle.std.proofs.Common.{◌≡◌, ◌≢◌, ℕ, zero, suc, ◌+◌, ◌<◌, ◌≤◌, Bool, true, false, cond, not, List, [], ◌∷◌, ◌++◌, length, get_or, set, Option, Some, None, count_by, refl, sym, ap, ◌∙◌, arith}
use Rattle.std.specs.Option.{option_map}
use Rattle.std.specs.List.{filter_map, filter, find, All}
use Rattle.std.proofs.lemmas.List.Sums.{sum_by-cons}

module _ {X Y : Type 0} (g : X → Y) where
  abbrev pub full : List (Option X) → List Y
  full xs = filter_map (option_map g) xs

  module _ (p : Y → Bool) where
    find_at : (x : X) (y : X) (ys : List Y) (b : Bool) → p (g y) ≡ b → (b ≡ true → x ≡ y) → (b ≡ false → find p ys ≡ Some (g x)) → find p (g y ∷ ys) ≡ Some (g x)
    find_at x y ys true e here on = rw (e, here refl) refl
    find_at x y ys false e here on = rw e (on refl)

    pub find-hit : (xs : List (Option X)) (i : ℕ) (x : X) → get_or xs i None ≡ Some x → p (g x) ≡ true → ((j : ℕ) (y : X) → get_or xs j None ≡ Some y → p (g y) ≡ true → j ≡ i) → find p (full xs) ≡ Some (g x)
    find-hit [] i x is hit only = absurd (cc)
    find-hit (None ∷ xs) zero x is hit only = absurd (cc)
    find-hit (None ∷ xs) (suc i) x is hit only = find-hit xs i x is hit (λ j y there also. let e : suc j ≡ suc i = only (suc j) y there also in omega arith)
    find-hit (Some y ∷ xs) zero x is hit only = let e : y ≡ x = cc in rw (e, hit) refl
    find-hit (Some y ∷ xs) (suc i) x is hit only =
        find_at x y (full xs) (p (g y)) refl
        (λ also. let e : 0 ≡ suc i = only 0 y refl also in absurd (omega arith))
        (λ _. find-hit xs i x is hit (λ j z there also. let e : suc j ≡ suc i = only (suc j) z there also in omega arith))

    pub find-none : (xs : List (Option X)) → ((j : ℕ) (y : X) → get_or xs j None ≡ Some y → p (g y) ≡ false) → find p (full xs) ≡ None
    find-none [] none = refl
    find-none (None ∷ xs) none = find-none xs (λ j. none (suc j))
    find-none (Some y ∷ xs) none = rw (none 0 y refl) (find-none xs (λ j. none (suc j)))

    -- where none is found, none passes
    pub all_fail : (xs : List (Option X)) → find p (full xs) ≡ None → (j : ℕ) (y : X) → get_or xs j None ≡ Some y → p (g y) ≡ false
    all_fail [] none j y is = absurd (cc)
    all_fail (None ∷ xs) none zero y is = absurd (cc)
    all_fail (None ∷ xs) none (suc j) y is = all_fail xs none j y is
    all_fail (Some z ∷ xs) none j y is = by (p (g z)) refl none j is (λ rest k. all_fail xs rest k y)
      where
        by : (b : Bool) → p (g z) ≡ b → cond b (Some (g z)) (find p (full xs)) ≡ None → (k : ℕ) → get_or (Some z ∷ xs) k None ≡ Some y → (find p (full xs) ≡ None → (m : ℕ) → get_or xs m None ≡ Some y → p (g y) ≡ false) → p (g y) ≡ false
        by true e h k here on = absurd (cc)
        by false e h zero here on = let same : z ≡ y = cc in rw (← same) e
        by false e h (suc k) here on = on h k here

    filter_at : (y : X) (ys zs : List Y) (b : Bool) → p (g y) ≡ b → filter p ys ≡ filter p zs → filter p (g y ∷ ys) ≡ filter p (g y ∷ zs)
    filter_at y ys zs true e rest = rw e (ap (λ s. g y ∷ s) rest)
    filter_at y ys zs false e rest = rw e rest

    -- an item that does not pass is gone anyhow
    pub filter-gap : (xs : List (Option X)) (i : ℕ) (x : X) → get_or xs i None ≡ Some x → p (g x) ≡ false → filter p (full (set xs i None)) ≡ filter p (full xs)
    filter-gap [] i x is fails = refl
    filter-gap (None ∷ xs) zero x is fails = refl
    filter-gap (None ∷ xs) (suc i) x is fails = filter-gap xs i x is fails
    filter-gap (Some y ∷ xs) zero x is fails = let e : y ≡ x = cc in rw (e, fails) refl
    filter-gap (Some y ∷ xs) (suc i) x is fails = filter_at y (full (set xs i None)) (full xs) (p (g y)) refl (filter-gap xs i x is fails)

    -- where all pass, nothing goes
    pub filter-full : (xs : List (Option X)) → ((j : ℕ) (y : X) → get_or xs j None ≡ Some y → p (g y) ≡ true) → filter p (full xs) ≡ full xs
    filter-full [] all = refl
    filter-full (None ∷ xs) all = filter-full xs (λ j. all (suc j))
    filter-full (Some y ∷ xs) all = rw (all 0 y refl) (ap (λ ys. g y ∷ ys) (filter-full xs (λ j. all (suc j))))

    count-none : (xs : List (Option X)) → ((j : ℕ) (y : X) → get_or xs j None ≡ Some y → p (g y) ≡ true → ⊥) → count_by p (full xs) ≡ 0
    count-none [] none = refl
    count-none (None ∷ xs) none = count-none xs (λ j. none (suc j))
    count-none (Some y ∷ xs) none = by (p (g y)) refl (count-none xs (λ j. none (suc j)))
      where
        by : (b : Bool) → p (g y) ≡ b → count_by p (full xs) ≡ 0 → count_by p (full (Some y ∷ xs)) ≡ 0
        by true e rest = absurd (none 0 y refl e)
        by false e rest = rw (sum_by-cons (λ z. cond (p z) 1 0) (g y) (full xs), e) (omega (arith, rest))

    count_at : (y : X) (xs : List (Option X)) (b : Bool) → p (g y) ≡ b → (b ≡ true → count_by p (full xs) ≡ 0) → (b ≡ false → count_by p (full xs) ≤ 1) → count_by p (full (Some y ∷ xs)) ≤ 1
    count_at y xs true e none on = rw (sum_by-cons (λ z. cond (p z) 1 0) (g y) (full xs), e) (omega (arith, none refl))
    count_at y xs false e none on = rw (sum_by-cons (λ z. cond (p z) 1 0) (g y) (full xs), e) (omega (arith, on refl))

    pub count-once : (xs : List (Option X)) → ((i j : ℕ) (x y : X) → get_or xs i None ≡ Some x → p (g x) ≡ true → get_or xs j None ≡ Some y → p (g y) ≡ true → i ≡ j) → count_by p (full xs) ≤ 1
    count-once [] only = omega arith
    count-once (None ∷ xs) only = count-once xs (λ i j x y a b c d. let e : suc i ≡ suc j = only (suc i) (suc j) x y a b c d in omega arith)
    count-once (Some z ∷ xs) only =
        count_at z xs (p (g z)) refl
        (λ e. count-none xs (λ j y c d. let same : 0 ≡ suc j = only 0 (suc j) z y refl e c d in absurd (omega arith)))
        (λ _. count-once xs (λ i j x y a b c d. let e : suc i ≡ suc j = only (suc i) (suc j) x y a b c d in omega arith))

  pub full-gap : (xs : List (Option X)) (i : ℕ) (x : X) → get_or xs i None ≡ Some x → length (full (set xs i None)) + 1 ≡ length (full xs)
  full-gap [] i x is = absurd (cc)
  full-gap (None ∷ xs) zero x is = absurd (cc)
  full-gap (None ∷ xs) (suc i) x is = full-gap xs i x is
  full-gap (Some y ∷ xs) zero x is = omega arith
  full-gap (Some y ∷ xs) (suc i) x is = omega (arith, full-gap xs i x is)

  pub full-alike : (h : X → Y) (xs : List (Option X)) → ((j : ℕ) (y : X) → get_or xs j None ≡ Some y → g y ≡ h y) → full xs ≡ filter_map (option_map h) xs
  full-alike h [] same = refl
  full-alike h (None ∷ xs) same = full-alike h xs (λ j. same (suc j))
  full-alike h (Some y ∷ xs) same = rw (same 0 y refl, full-alike h xs (λ j. same (suc j))) refl

  pub full-few : (xs : List (Option X)) → length (full xs) ≤ length xs
  full-few [] = omega arith
  full-few (None ∷ xs) = omega (arith, full-few xs)
  full-few (Some y ∷ xs) = omega (arith, full-few xs)

  pub full-All : (P : Y → Type 0) (xs : List (Option X)) → ((j : ℕ) (y : X) → get_or xs j None ≡ Some y → P (g y)) → All P (full xs)
  full-All P [] each k d within = absurd (omega arith)
  full-All P (None ∷ xs) each k d within = full-All P xs (λ j. each (suc j)) k d within
  full-All P (Some y ∷ xs) each zero d within = each 0 y refl
  full-All P (Some y ∷ xs) each (suc k) d within = full-All P xs (λ j. each (suc j)) k d (omega arith)
