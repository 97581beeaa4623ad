-- Lists: what is in them, what passes a test, and what a filter leaves.
use Rattle.std.proofs.Common.{◌≡◌, ◌⊎◌, ℕ, zero, suc, ◌+◌, ◌≤◌, ◌<◌, Bool, true, false, not, ◌&&◌, ◌||◌, List, [], ◌∷◌, ◌++◌, length, filter, Option, Some, None, cond, refl, sym, ap, subst, ◌∙◌, inl, inr, arith, length-append}
use Rattle.std.specs.Prelude.{Contains, count_by, slice_get, slice_set, nat_eq}
use Rattle.std.specs.List.{find, list_any}
use Rattle.std.proofs.lemmas.List.Sums.{length-filter}
use Rattle.std.proofs.lemmas.List.Elements.{filter-append}
use Rattle.std.proofs.lemmas.Bool.Decides.{nat_tests}
use Rattle.std.proofs.lemmas.Slice.Eq.{bytes_eq-Decides}
use Rattle.std.specs.Str.{bytes_eq}
use Rattle.estelle_model.proofs.Units.{Each}

-- ---- tests

pub and_both : (a b : Bool) → (a && b) ≡ true → (a ≡ true) × (b ≡ true)
and_both true b h = (refl, h)
and_both false b h = absurd (cc)

pub both_and : (a b : Bool) → a ≡ true → b ≡ true → (a && b) ≡ true
both_and true b h k = k
both_and false b h k = absurd (cc)

pub or_cases : (a b : Bool) → (a || b) ≡ true → (a ≡ true) ⊎ (b ≡ true)
or_cases true b h = inl refl
or_cases false b h = inr h

pub or_none : (a b : Bool) → (a || b) ≡ false → (a ≡ false) × (b ≡ false)
or_none true b h = absurd (cc)
or_none false b h = (refl, h)

pub or_left : (a b : Bool) → a ≡ true → (a || b) ≡ true
or_left true b h = refl
or_left false b h = absurd (cc)

pub or_right : (a b : Bool) → b ≡ true → (a || b) ≡ true
or_right true b h = refl
or_right false b h = h

pub not_true : (a : Bool) → (a ≡ true → ⊥) → a ≡ false
not_true true h = absurd (h refl)
not_true false h = refl

pub not_both : (a : Bool) → a ≡ true → a ≡ false → ⊥
not_both a t f = let e : ◌≡◌ {A = Bool} true false = sym t ∙ f in absurd (cc)

pub is_not : (a : Bool) → not a ≡ true → a ≡ false
is_not true h = absurd (cc)
is_not false h = refl

pub number_is : (x : ℕ) → nat_eq x x ≡ true
number_is x = grind (arith, nat_tests)

pub not_more : (n : ℕ) → n ≤ n
not_more n = omega arith

pub same_number : (x y : ℕ) → nat_eq x y ≡ true → x ≡ y
same_number x y h = grind (arith, nat_tests)

pub path_is : (p : List ℕ) → bytes_eq p p ≡ true
path_is p = (bytes_eq-Decides p p).1 refl

pub same_path : (p q : List ℕ) → bytes_eq p q ≡ true → p ≡ q
same_path p q h = (bytes_eq-Decides p q).0 h

pub some_is : {A : Type 0} (x y : A) (o : Option A) → o ≡ Some x → o ≡ Some y → x ≡ y
some_is x y o h k = let e : Some x ≡ Some y = sym h ∙ k in cc

-- ---- what is in a list

module _ (A : Type 0) where
  pub in_none : (x : A) → Contains {X = A} [] x → ⊥
  in_none x h = let below : h.0 < 0 = h.1 in absurd (omega (arith, below))

  pub in_head : (x : A) (xs : List A) → Contains (x ∷ xs) x
  in_head x xs = (0, omega arith, refl)

  pub in_tail : (x y : A) (xs : List A) → Contains xs x → Contains (y ∷ xs) x
  in_tail x y xs h = (suc h.0, (let l = h.1 in omega (arith, l)), h.2)

  pub in_cases : (x y : A) (xs : List A) → Contains (y ∷ xs) x → (x ≡ y) ⊎ Contains xs x
  in_cases x y xs (zero, l, e) = inl (sym e)
  in_cases x y xs (suc k, l, e) = inr (k, (omega (arith, l)), e)

  pub of_each : (P : A → Type 0) (xs : List A) → Each P xs → (x : A) → Contains xs x → P x
  of_each P [] h x c = absurd (in_none x c)
  of_each P (y ∷ ys) h x c = elim (in_cases x y ys c) [ inl e ↦ subst P (sym e) h.0 | inr d ↦ of_each P ys h.1 x d ]

  pub each_of : (P : A → Type 0) (xs : List A) → ((x : A) → Contains xs x → P x) → Each P xs
  each_of P [] h = tt
  each_of P (y ∷ ys) h = (h y (in_head y ys), each_of P ys (λ x c. h x (in_tail x y ys c)))

  pub each_more : (P Q : A → Type 0) (xs : List A) → ((x : A) → P x → Q x) → Each P xs → Each Q xs
  each_more P Q [] h k = tt
  each_more P Q (x ∷ xs) h k = (h x k.0, each_more P Q xs h k.1)

  pub each_append : (P : A → Type 0) (xs ys : List A) → Each P xs → Each P ys → Each P (xs ++ ys)
  each_append P [] ys h k = k
  each_append P (x ∷ xs) ys h k = (h.0, each_append P xs ys h.1 k)

  -- what passes a test, with the test
  pub each_filter : (P Q : A → Type 0) (test : A → Bool) (xs : List A) → ((x : A) → test x ≡ true → P x → Q x) → Each P xs → Each Q (filter test xs)
  each_filter P Q test [] h k = tt
  each_filter P Q test (x ∷ xs) h k = by (test x) refl (each_filter P Q test xs h k.1)
    where
      by : (b : Bool) → test x ≡ b → Each Q (filter test xs) → Each Q (cond b (x ∷ filter test xs) (filter test xs))
      by true e rest = (h x e k.0, rest)
      by false e rest = rest

  -- ---- what is found

  pub found_is : (test : A → Bool) (xs : List A) (x : A) → find test xs ≡ Some x → test x ≡ true
  found_is test [] x h = absurd (cc)
  found_is test (y ∷ ys) x h = by (test y) refl h (found_is test ys x)
    where
      by : (b : Bool) → test y ≡ b → cond b (Some y) (find test ys) ≡ Some x → (find test ys ≡ Some x → test x ≡ true) → test x ≡ true
      by true e g rest = let is : y ≡ x = cc in subst (λ (z : A). test z ≡ true) is e
      by false e g rest = rest g

  pub found_each : (P : A → Type 0) (test : A → Bool) (xs : List A) (x : A) → find test xs ≡ Some x → Each P xs → P x
  found_each P test [] x h k = absurd (cc)
  found_each P test (y ∷ ys) x h k = by (test y) h (λ g. found_each P test ys x g k.1)
    where
      by : (b : Bool) → cond b (Some y) (find test ys) ≡ Some x → (find test ys ≡ Some x → P x) → P x
      by true g rest = let is : y ≡ x = cc in subst P is k.0
      by false g rest = rest g

  -- ---- counts

  filter_one : (test : A → Bool) (x : A) → length (filter test (x ∷ [])) ≡ cond (test x) 1 0
  filter_one test x = by (test x)
    where
      by : (b : Bool) → length (cond b (x ∷ []) []) ≡ cond b 1 0
      by true = refl
      by false = refl

  pub count_append : (test : A → Bool) (xs : List A) (x : A) → count_by test (xs ++ x ∷ []) ≡ count_by test xs + cond (test x) 1 0
  count_append test xs x =
      let whole = length-filter test (xs ++ x ∷ []) in
      let before = length-filter test xs in
      let split = ap length (filter-append test xs (x ∷ [])) in
      let sums = length-append (filter test xs) (filter test (x ∷ [])) in
      let one = filter_one test x in
      omega (arith, whole, before, split, sums, one)

  filter_less : (test kept : A → Bool) (xs : List A) → length (filter test (filter kept xs)) ≤ length (filter test xs)
  filter_less test kept [] = omega arith
  filter_less test kept (x ∷ xs) = by (test x) refl (kept x) (filter_less test kept xs)
    where
      by : (b : Bool) → test x ≡ b → (c : Bool) → length (filter test (filter kept xs)) ≤ length (filter test xs) → length (filter test (cond c (x ∷ filter kept xs) (filter kept xs))) ≤ length (cond b (x ∷ filter test xs) (filter test xs))
      by true e true h = let is : length (cond (test x) (x ∷ filter test (filter kept xs)) (filter test (filter kept xs))) ≡ suc (length (filter test (filter kept xs))) = ap (λ d. length (cond d (x ∷ filter test (filter kept xs)) (filter test (filter kept xs)))) e in omega (arith, is, h)
      by true e false h = omega (arith, h)
      by false e true h = let is : length (cond (test x) (x ∷ filter test (filter kept xs)) (filter test (filter kept xs))) ≡ length (filter test (filter kept xs)) = ap (λ d. length (cond d (x ∷ filter test (filter kept xs)) (filter test (filter kept xs)))) e in omega (arith, is, h)
      by false e false h = h

  pub count_filter : (test kept : A → Bool) (xs : List A) → count_by test (filter kept xs) ≤ count_by test xs
  count_filter test kept xs =
      let less = filter_less test kept xs in
      let left = length-filter test (filter kept xs) in
      let right = length-filter test xs in
      omega (arith, less, left, right)

  -- nothing passes exactly where nothing is counted
  pub count_none : (test : A → Bool) (xs : List A) → Each (λ x. test x ≡ false) xs → count_by test xs ≡ 0
  count_none test xs h = let is = length-filter test xs in let none = go xs h in omega (arith, is, none)
    where
      go : (ys : List A) → Each (λ x. test x ≡ false) ys → length (filter test ys) ≡ 0
      go [] h = refl
      go (y ∷ ys) h = ap (λ b. length (cond b (y ∷ filter test ys) (filter test ys))) h.0 ∙ go ys h.1

  any_none : (test : A → Bool) (xs : List A) → list_any test xs ≡ false → Each (λ x. test x ≡ false) xs
  any_none test [] h = tt
  any_none test (x ∷ xs) h = let b = or_none (test x) (list_any test xs) h in (b.0, any_none test xs b.1)

  pub count_not_any : (test : A → Bool) (xs : List A) → list_any test xs ≡ false → count_by test xs ≡ 0
  count_not_any test xs h = count_none test xs (any_none test xs h)

  pub not_any : (test : A → Bool) (xs : List A) → list_any test xs ≡ false → Each (λ x. test x ≡ false) xs
  not_any = any_none

  pub any_of : (test : A → Bool) (xs : List A) → Each (λ x. test x ≡ false) xs → list_any test xs ≡ false
  any_of test [] h = refl
  any_of test (x ∷ xs) h = ap (λ b. b || list_any test xs) h.0 ∙ any_of test xs h.1

  pub any_append : (test : A → Bool) (xs : List A) (x : A) → list_any test (xs ++ x ∷ []) ≡ (list_any test xs || test x)
  any_append test [] x = by (test x)
    where
      by : (b : Bool) → (b || false) ≡ b
      by true = refl
      by false = refl
  any_append test (y ∷ ys) x = by (test y) (any_append test ys x)
    where
      by : (b : Bool) → list_any test (ys ++ x ∷ []) ≡ (list_any test ys || test x) → (b || list_any test (ys ++ x ∷ [])) ≡ ((b || list_any test ys) || test x)
      by true e = refl
      by false e = e

  pub find_none : (test : A → Bool) (xs : List A) → find test xs ≡ None → list_any test xs ≡ false
  find_none test [] h = refl
  find_none test (x ∷ xs) h = by (test x) h (find_none test xs)
    where
      by : (b : Bool) → cond b (Some x) (find test xs) ≡ None → (find test xs ≡ None → list_any test xs ≡ false) → (b || list_any test xs) ≡ false
      by true g rest = absurd (cc)
      by false g rest = rest g

-- ---- one item is set

module _ (A : Type 0) where
  pub set_other : (xs : List A) (x y : ℕ) (new : A) → (y ≡ x → ⊥) → slice_get (slice_set xs x new) y ≡ slice_get xs y
  set_other [] x y new h = refl
  set_other (o ∷ xs) zero zero new h = absurd (h refl)
  set_other (o ∷ xs) zero (suc y) new h = refl
  set_other (o ∷ xs) (suc x) zero new h = refl
  set_other (o ∷ xs) (suc x) (suc y) new h = set_other xs x y new (λ e. h (ap (λ (n : ℕ). suc n) e))

  pub set_same : (xs : List A) (x : ℕ) (new old : A) → slice_get xs x ≡ Some old → slice_get (slice_set xs x new) x ≡ Some new
  set_same [] x new old h = absurd (cc)
  set_same (o ∷ xs) zero new old h = refl
  set_same (o ∷ xs) (suc x) new old h = set_same xs x new old h

  pub set_was : (xs : List A) (x : ℕ) (new v : A) → slice_get (slice_set xs x new) x ≡ Some v → new ≡ v
  set_was [] x new v h = absurd (cc)
  set_was (o ∷ xs) zero new v h = cc
  set_was (o ∷ xs) (suc x) new v h = set_was xs x new v h
