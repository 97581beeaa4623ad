-- Members of lists, and of sets that are kept as lists.
use Rattle.std.proofs.Common.{◌≡◌, ℕ, ◌<◌, ◌⊎◌, inl, inr, Bool, true, false, nat_eq, ◌||◌, if◌then◌else◌, List, [], ◌∷◌, ◌++◌, length, slice_get, Some, zero, suc, ap, ◌∙◌, sym, refl, subst, append_assoc, append-nil, arith}
use Rattle.std.specs.List.{list_any}
use Rattle.std.proofs.lemmas.Bool.Decides.{nat_tests}
use Rattle.indexmap.specs.IndexSet.{insert_key, insert_all}
use Rattle.scope_rules.specs.NameRules.{IsOne}

pub one_left : {A : Type 0} (x : A) (xs ys : List A) → IsOne x xs → IsOne x (xs ++ ys)
one_left x [] ys h = absurd h
one_left x (y ∷ xs) ys (inl e) = inl e
one_left x (y ∷ xs) ys (inr h) = inr (one_left x xs ys h)

pub one_right : {A : Type 0} (x : A) (xs ys : List A) → IsOne x ys → IsOne x (xs ++ ys)
one_right x [] ys h = h
one_right x (y ∷ xs) ys h = inr (one_right x xs ys h)

pub one_split : {A : Type 0} (x : A) (xs ys : List A) → IsOne x (xs ++ ys) → IsOne x xs ⊎ IsOne x ys
one_split x [] ys h = inr h
one_split x (y ∷ xs) ys (inl e) = inl (inl e)
one_split x (y ∷ xs) ys (inr h) = elim (one_split x xs ys h) [ inl l ↦ inl (inr l) | inr r ↦ inr r ]

-- one at a place is a member, and each member has a place
pub one_at : {A : Type 0} (xs : List A) (i : ℕ) (x : A) → slice_get xs i ≡ Some x → IsOne x xs
one_at [] i x e = absurd cc
one_at (y ∷ xs) zero x e = inl cc
one_at (y ∷ xs) (suc i) x e = inr (one_at xs i x e)

pub place_of : {A : Type 0} (x : A) (xs : List A) → IsOne x xs → (i : ℕ) × ((i < length xs) × (slice_get xs i ≡ Some x))
place_of x [] h = absurd h
place_of x (y ∷ xs) (inl e) = (zero, (omega arith, ap Some (sym e)))
place_of x (y ∷ xs) (inr h) = let w = place_of x xs h in (suc w.0, (let l : w.0 < length xs = w.1.0 in omega arith, w.1.1))

pub get_left : {A : Type 0} (xs ys : List A) (i : ℕ) → i < length xs → slice_get (xs ++ ys) i ≡ slice_get xs i
get_left [] ys i h = absurd (omega arith)
get_left (x ∷ xs) ys zero h = refl
get_left (x ∷ xs) ys (suc i) h = get_left xs ys i (omega arith)

equal_from : (x y : ℕ) → nat_eq x y ≡ true → x ≡ y
equal_from x y e = grind (arith, nat_tests)

equal_test : (x y : ℕ) → x ≡ y → nat_eq x y ≡ true
equal_test x y e = grind (arith, nat_tests)

-- the test of a set
pub one_tested : (x : ℕ) (xs : List ℕ) → list_any (nat_eq x) xs ≡ true → IsOne x xs
one_tested x [] e = absurd cc
one_tested x (y ∷ xs) e = by (nat_eq x y) refl e (one_tested x xs)
  where
    by : (b : Bool) → nat_eq x y ≡ b → (b || list_any (nat_eq x) xs) ≡ true → (list_any (nat_eq x) xs ≡ true → IsOne x xs) → (x ≡ y) ⊎ IsOne x xs
    by true f g rest = inl (equal_from x y f)
    by false f g rest = inr (rest g)

pub tested : (x : ℕ) (xs : List ℕ) → IsOne x xs → list_any (nat_eq x) xs ≡ true
tested x [] h = absurd h
tested x (y ∷ xs) (inl e) = rw (equal_test x y e) refl
tested x (y ∷ xs) (inr h) = by (nat_eq x y) (tested x xs h)
  where
    by : (b : Bool) → list_any (nat_eq x) xs ≡ true → (b || list_any (nat_eq x) xs) ≡ true
    by true rest = refl
    by false rest = rest

-- a list became another where these were added behind it
pub record Added (xs old new : List ℕ) : Type 0 where
  pub more : List ℕ
  pub grown : new ≡ old ++ more
  pub there : (x : ℕ) → IsOne x xs → IsOne x new
  pub only : (x : ℕ) → IsOne x new → IsOne x old ⊎ IsOne x xs

pub added_kept : (xs old new : List ℕ) → Added xs old new → (x : ℕ) → IsOne x old → IsOne x new
added_kept xs old new a x h = subst (IsOne x) (sym a.grown) (one_left x old a.more h)

alone : (x y : ℕ) → IsOne x (y ∷ []) → x ≡ y
alone x y (inl e) = e
alone x y (inr h) = absurd h

added_key : (k : ℕ) (ks : List ℕ) → Added (k ∷ []) ks (insert_key nat_eq ks k)
added_key k ks = by (list_any (nat_eq k) ks) refl
  where
    by : (b : Bool) → list_any (nat_eq k) ks ≡ b → Added (k ∷ []) ks (if b then ks else ks ++ k ∷ [])
    by true e = record { more = []; grown = sym (append-nil ks); there = λ x h. subst (λ y. IsOne y ks) (sym (alone x k h)) (one_tested k ks e); only = λ x h. inl h }
    by false e = record { more = k ∷ []; grown = refl; there = λ x h. one_right x ks (k ∷ []) h; only = λ x h. one_split x ks (k ∷ []) h }

pub added_all : (xs ks : List ℕ) → Added xs ks (insert_all nat_eq ks xs)
added_all [] ks = record { more = []; grown = sym (append-nil ks); there = λ x h. absurd h; only = λ x h. inl h }
added_all (k ∷ xs) ks =
    let a = added_key k ks in
    let b = added_all xs (insert_key nat_eq ks k) in
    record {
      more = a.more ++ b.more;
      grown = b.grown ∙ ap (λ l. l ++ b.more) a.grown ∙ append_assoc ks a.more b.more;
      there = λ x h. elim h [ inl e ↦ added_kept xs (insert_key nat_eq ks k) (insert_all nat_eq (insert_key nat_eq ks k) xs) b x (a.there x (inl e)) | inr m ↦ b.there x m ];
      only = λ x h. elim (b.only x h) [ inl o ↦ (elim (a.only x o) [ inl p ↦ inl p | inr q ↦ inr (elim q [ inl e ↦ inl e | inr n ↦ absurd n ]) ]) | inr m ↦ inr (inr m) ];
    }
