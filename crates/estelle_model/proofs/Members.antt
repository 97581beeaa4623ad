-- What is in lists, in lists that are filtered, and in lists with the same elements.
use Rattle.std.proofs.Common.{◌≡◌, ◌<◌, ℕ, zero, suc, Bool, true, false, List, [], ◌∷◌, ◌++◌, length, Some, refl, sym, ap, subst, cond, ◌∙◌, inl, inr, arith}
use Rattle.std.specs.Prelude.{◌⊎◌, ◌≤◌, ◌+◌, ◌||◌, Contains, IsPermutation, filter, find, count_by, is_some, swap, slice_index_or, slice_set}
use Rattle.std.specs.List.{list_any}
use Rattle.std.proofs.lemmas.List.Sums.{sum_by-cons}
use Rattle.std.proofs.lemmas.List.Sorted.{IsPermutation-refl, IsPermutation-cons, IsPermutation-trans, IsPermutation-append_left, IsPermutation-append_comm, IsPermutation-keeps}

-- ---- members

-- it is in the list
abbrev pub Among : {A : Type 0} → A → List A → Type 0
Among x [] = ⊥
Among x (y ∷ ys) = (y ≡ x) ⊎ Among x ys

pub among : {A : Type 0} → (xs : List A) (x : A) → Contains xs x → Among x xs
among [] x (k, below, is) = absurd (let none : k < 0 = below in omega (arith, none))
among (y ∷ ys) x (zero, below, is) = inl is
among (y ∷ ys) x (suc k, below, is) = inr (among ys x (k, omega (arith, below), is))

pub contained : {A : Type 0} → (xs : List A) (x : A) → Among x xs → Contains xs x
contained [] x h = absurd h
contained (y ∷ ys) x (inl e) = (zero, omega arith, e)
contained (y ∷ ys) x (inr h) = let c = contained ys x h in (suc c.0, omega (arith, c.1), c.2)

pub among_append : {A : Type 0} → (xs ys : List A) (x : A) → Among x (xs ++ ys) → Among x xs ⊎ Among x ys
among_append [] ys x h = inr h
among_append (z ∷ xs) ys x (inl e) = inl (inl e)
among_append (z ∷ xs) ys x (inr h) = later (among_append xs ys x h)
  where
    later : Among x xs ⊎ Among x ys → Among x (z ∷ xs) ⊎ Among x ys
    later (inl h) = inl (inr h)
    later (inr h) = inr h

pub among_filter : {A : Type 0} → (p : A → Bool) (xs : List A) (x : A) → Among x (filter p xs) → Among x xs × (p x ≡ true)
among_filter p [] x h = absurd h
among_filter {A} p (y ∷ ys) x h = by (p y) refl (λ i. among_filter p ys x i) h
  where
    by : (b : Bool) → p y ≡ b → (Among x (filter p ys) → Among x ys × (p x ≡ true)) → Among x (cond b (y ∷ filter p ys) (filter p ys)) → Among x (y ∷ ys) × (p x ≡ true)
    by true e more (inl i) = (inl i, subst (λ (z : A). p z ≡ true) i e)
    by true e more (inr i) = let found = more i in (inr found.0, found.1)
    by false e more i = let found = more i in (inr found.0, found.1)

-- ---- tests

-- a test that only what is kept passes
pub any_kept : {A : Type 0} → (p q : A → Bool) (xs : List A) → ((x : A) → Among x xs → p x ≡ true → q x ≡ true) → list_any p (filter q xs) ≡ list_any p xs
any_kept p q [] h = refl
any_kept p q (x ∷ xs) h = by (p x) (q x) refl refl (any_kept p q xs (λ y m. h y (inr m)))
  where
    by : (b c : Bool) → p x ≡ b → q x ≡ c → list_any p (filter q xs) ≡ list_any p xs → list_any p (cond c (x ∷ filter q xs) (filter q xs)) ≡ (p x || list_any p xs)
    by b true e f i = ap (λ a. p x || a) i
    by true false e f i = let wrong : true ≡ false = sym (h x (inl refl) e) ∙ f in absurd (cc)
    by false false e f i = i ∙ ap (λ a. a || list_any p xs) (sym e)

pub find_any : {A : Type 0} → (p : A → Bool) (xs : List A) → is_some (find p xs) ≡ list_any p xs
find_any p [] = refl
find_any {A} p (x ∷ xs) = by (p x) (find_any p xs)
  where
    by : (b : Bool) → is_some (find p xs) ≡ list_any p xs → is_some (cond b (Some x) (find p xs)) ≡ (b || list_any p xs)
    by true i = refl
    by false i = i

pub find_among : {A : Type 0} → (p : A → Bool) (xs : List A) (x : A) → find p xs ≡ Some x → Among x xs × (p x ≡ true)
find_among p [] x h = absurd (cc)
find_among {A} p (y ∷ ys) x h = by (p y) refl (λ i. find_among p ys x i) h
  where
    by : (b : Bool) → p y ≡ b → (find p ys ≡ Some x → Among x ys × (p x ≡ true)) → cond b (Some y) (find p ys) ≡ Some x → Among x (y ∷ ys) × (p x ≡ true)
    by true e more i = let same : y ≡ x = cc in (inl same, subst (λ (z : A). p z ≡ true) same e)
    by false e more i = let found = more i in (inr found.0, found.1)

-- ---- counts

counts : {A : Type 0} → (p : A → Bool) (x : A) (xs : List A) → count_by p (x ∷ xs) ≡ cond (p x) 1 0 + count_by p xs
counts p x xs = sum_by-cons (λ y. cond (p y) 1 0) x xs

first_counts : {A : Type 0} → (p : A → Bool) (x : A) (xs : List A) → p x ≡ true → count_by p (x ∷ xs) ≡ 1 + count_by p xs
first_counts p x xs e = counts p x xs ∙ ap (λ b. cond b 1 0 + count_by p xs) e

no_fewer : {A : Type 0} → (p : A → Bool) (x : A) (xs : List A) → count_by p xs ≤ count_by p (x ∷ xs)
no_fewer p x xs = subst (λ (n : ℕ). count_by p xs ≤ n) (sym (counts p x xs)) (by (p x))
  where
    by : (b : Bool) → count_by p xs ≤ cond b 1 0 + count_by p xs
    by true = omega arith
    by false = omega arith

counted : {A : Type 0} → (p : A → Bool) (xs : List A) (x : A) → Among x xs → p x ≡ true → 1 ≤ count_by p xs
counted p [] x h e = absurd h
counted {A} p (y ∷ ys) x (inl i) e = let one = first_counts p y ys (subst (λ (z : A). p z ≡ true) (sym i) e) in omega (arith, one)
counted p (y ∷ ys) x (inr h) e = let more = counted p ys x h e in let no = no_fewer p y ys in omega (arith, more, no)

-- where at most one passes, it is that one
pub only_one : {A : Type 0} → (p : A → Bool) (xs : List A) (x y : A) → count_by p xs ≤ 1 → Among x xs → Among y xs → p x ≡ true → p y ≡ true → x ≡ y
only_one p [] x y most h k e f = absurd h
only_one p (z ∷ zs) x y most (inl h) (inl k) e f = sym h ∙ k
only_one {A} p (z ∷ zs) x y most (inl h) (inr k) e f =
    let one = first_counts p z zs (subst (λ (w : A). p w ≡ true) (sym h) e) in
    let more = counted p zs y k f in absurd (omega (arith, most, one, more))
only_one {A} p (z ∷ zs) x y most (inr h) (inl k) e f =
    let one = first_counts p z zs (subst (λ (w : A). p w ≡ true) (sym k) f) in
    let more = counted p zs x h e in absurd (omega (arith, most, one, more))
only_one p (z ∷ zs) x y most (inr h) (inr k) e f = let no = no_fewer p z zs in only_one p zs x y (omega (arith, most, no)) h k e f

-- ---- filters

pub filters_commute : {A : Type 0} → (p q : A → Bool) (xs : List A) → filter p (filter q xs) ≡ filter q (filter p xs)
filters_commute p q [] = refl
filters_commute {A} p q (x ∷ xs) = by (p x) (q x) refl refl (filters_commute p q xs)
  where
    by : (b c : Bool) → p x ≡ b → q x ≡ c → filter p (filter q xs) ≡ filter q (filter p xs) → filter p (cond c (x ∷ filter q xs) (filter q xs)) ≡ filter q (cond b (x ∷ filter p xs) (filter p xs))
    by true true e f i = ap (λ t. cond t (x ∷ filter p (filter q xs)) (filter p (filter q xs))) e ∙ ap (λ ys. x ∷ ys) i ∙ sym (ap (λ t. cond t (x ∷ filter q (filter p xs)) (filter q (filter p xs))) f)
    by true false e f i = i ∙ sym (ap (λ t. cond t (x ∷ filter q (filter p xs)) (filter q (filter p xs))) f)
    by false true e f i = ap (λ t. cond t (x ∷ filter p (filter q xs)) (filter p (filter q xs))) e ∙ i
    by false false e f i = i

-- ---- the same elements, one exchange of neighbours after another

data Reordered {A : Type 0} : List A → List A → Type 0 where
  none : Reordered [] []
  under : (x : A) (xs ys : List A) → Reordered xs ys → Reordered (x ∷ xs) (x ∷ ys)
  exchanged : (x y : A) (xs : List A) → Reordered (x ∷ y ∷ xs) (y ∷ x ∷ xs)
  then : (xs ys zs : List A) → Reordered xs ys → Reordered ys zs → Reordered xs zs

itself : {A : Type 0} → (xs : List A) → Reordered xs xs
itself [] = none
itself (x ∷ xs) = under x xs xs (itself xs)

-- the first element goes to a place, and what is there to the front
to_place : {A : Type 0} → (x : A) (xs : List A) (k : ℕ) (d : A) → k < length xs → Reordered (x ∷ xs) (slice_index_or xs k d ∷ slice_set xs k x)
to_place x [] k d below = absurd (let none : k < 0 = below in omega (arith, none))
to_place x (y ∷ ys) zero d below = exchanged x y ys
to_place x (y ∷ ys) (suc k) d below = then _ _ _ (exchanged x y ys) (then _ _ _ (under y (x ∷ ys) _ (to_place x ys k d (omega (arith, below)))) (exchanged y (slice_index_or ys k d) (slice_set ys k x)))

two_places : {A : Type 0} → (xs : List A) (i j : ℕ) (d : A) → i < length xs → j < length xs → Reordered xs (slice_set (slice_set xs i (slice_index_or xs j d)) j (slice_index_or xs i d))
two_places [] i j d h k = absurd (let none : i < 0 = h in omega (arith, none))
two_places (x ∷ xs) zero zero d h k = itself (x ∷ xs)
two_places (x ∷ xs) zero (suc j) d h k = to_place x xs j d (omega (arith, k))
two_places (x ∷ xs) (suc i) zero d h k = to_place x xs i d (omega (arith, h))
two_places (x ∷ xs) (suc i) (suc j) d h k = under x xs _ (two_places xs i j d (omega (arith, h)) (omega (arith, k)))

swapped : {A : Type 0} → (xs : List A) (i j : ℕ) → i < length xs → j < length xs → Reordered xs (swap xs i j)
swapped [] i j h k = none
swapped (x ∷ xs) i j h k = two_places (x ∷ xs) i j x h k

reordered : {A : Type 0} → (xs ys : List A) → IsPermutation xs ys → Reordered xs ys
reordered {A} xs ys h = IsPermutation-keeps xs (λ (zs : List A). Reordered xs zs) (itself xs) (λ l i j p q r. then xs l (swap l i j) r (swapped l i j p q)) ys h

permuted : {A : Type 0} {xs ys : List A} → Reordered xs ys → IsPermutation xs ys
permuted none = IsPermutation-refl []
permuted (under x xs ys h) = IsPermutation-cons x xs ys (permuted h)
permuted (exchanged x y xs) = IsPermutation-append_left xs (x ∷ y ∷ []) (y ∷ x ∷ []) (IsPermutation-append_comm (x ∷ []) (y ∷ []))
permuted (then xs ys zs h k) = IsPermutation-trans xs ys zs (permuted h) (permuted k)

one_kept : {A : Type 0} → (b : Bool) (x : A) (xs ys : List A) → Reordered xs ys → Reordered (cond b (x ∷ xs) xs) (cond b (x ∷ ys) ys)
one_kept true x xs ys r = under x xs ys r
one_kept false x xs ys r = r

two_kept : {A : Type 0} → (b c : Bool) (x y : A) (xs : List A) → Reordered (cond b (x ∷ cond c (y ∷ xs) xs) (cond c (y ∷ xs) xs)) (cond c (y ∷ cond b (x ∷ xs) xs) (cond b (x ∷ xs) xs))
two_kept true true x y xs = exchanged x y xs
two_kept true false x y xs = itself (x ∷ xs)
two_kept false true x y xs = itself (y ∷ xs)
two_kept false false x y xs = itself xs

kept_reordered : {A : Type 0} {xs ys : List A} → (p : A → Bool) → Reordered xs ys → Reordered (filter p xs) (filter p ys)
kept_reordered p none = none
kept_reordered p (under x xs ys h) = one_kept (p x) x (filter p xs) (filter p ys) (kept_reordered p h)
kept_reordered p (exchanged x y xs) = two_kept (p x) (p y) x y (filter p xs)
kept_reordered p (then xs ys zs h k) = then (filter p xs) (filter p ys) (filter p zs) (kept_reordered p h) (kept_reordered p k)

-- a filter of lists with the same elements
pub filter_permuted : {A : Type 0} → (p : A → Bool) (xs ys : List A) → IsPermutation xs ys → IsPermutation (filter p xs) (filter p ys)
filter_permuted p xs ys h = permuted (kept_reordered p (reordered xs ys h))
