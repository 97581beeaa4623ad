-- Lists whose items all are so, and how many of a list's items are so.
use Rattle.std.proofs.Common.{◌≡◌, ◌∙◌, ℕ, zero, suc, ◌+◌, Bool, true, false, List, [], ◌∷◌, ◌++◌, Some, refl, ap, sym, subst, arith, append_assoc}
use Rattle.std.specs.Prelude.{slice_get}
use Rattle.std.specs.List.{flat_map}

abbrev pub Each : {A : Type 0} → (A → Type 0) → List A → Type 0
Each P [] = Unit {0}
Each P (x ∷ xs) = P x × Each P xs

pub each_append : {A : Type 0} (P : A → Type 0) (xs ys : List A) → Each P xs → Each P ys → Each P (xs ++ ys)
each_append P [] ys h k = k
each_append P (x ∷ xs) ys h k = (h.0, each_append P xs ys h.1 k)

pub each_front : {A : Type 0} (P : A → Type 0) (xs ys : List A) → Each P (xs ++ ys) → Each P xs
each_front P [] ys h = tt
each_front P (x ∷ xs) ys h = (h.0, each_front P xs ys h.1)

pub each_back : {A : Type 0} (P : A → Type 0) (xs ys : List A) → Each P (xs ++ ys) → Each P ys
each_back P [] ys h = h
each_back P (x ∷ xs) ys h = each_back P xs ys h.1

pub each_other : {A : Type 0} (P Q : A → Type 0) → ((x : A) → P x → Q x) → (xs : List A) → Each P xs → Each Q xs
each_other P Q f [] h = tt
each_other P Q f (x ∷ xs) h = (f x h.0, each_other P Q f xs h.1)

pub each_flat : {A B : Type 0} (Q : A → Type 0) (P : B → Type 0) (f : A → List B) → ((x : A) → Q x → Each P (f x)) → (xs : List A) → Each Q xs → Each P (flat_map f xs)
each_flat Q P f h [] k = tt
each_flat Q P f h (x ∷ xs) k = each_append P (f x) (flat_map f xs) (h x k.0) (each_flat Q P f h xs k.1)

pub each_at : {A : Type 0} (P : A → Type 0) (xs : List A) (n : ℕ) (x : A) → Each P xs → slice_get xs n ≡ Some x → P x
each_at P [] n x h e = absurd (cc)
each_at P (y ∷ xs) zero x h e = let same : y ≡ x = cc in subst P same h.0
each_at P (y ∷ xs) (suc n) x h e = each_at P xs n x h.1 e

pub flat-append : {A B : Type 0} (f : A → List B) (xs ys : List A) → flat_map f (xs ++ ys) ≡ flat_map f xs ++ flat_map f ys
flat-append f [] ys = refl
flat-append f (x ∷ xs) ys = ap (λ zs. f x ++ zs) (flat-append f xs ys) ∙ sym (append_assoc (f x) (flat_map f xs) (flat_map f ys))

-- one where something is so
abbrev pub one_if : Bool → ℕ
one_if true = 1
one_if false = 0

-- how many are so
abbrev pub count : {A : Type 0} → (A → Bool) → List A → ℕ
count t [] = 0
count t (x ∷ xs) = one_if (t x) + count t xs

pub count-append : {A : Type 0} (t : A → Bool) (xs ys : List A) → count t (xs ++ ys) ≡ count t xs + count t ys
count-append t [] ys = omega arith
count-append t (x ∷ xs) ys = let e = count-append t xs ys in omega (arith, e)

pub none_counted : {A : Type 0} (t : A → Bool) (xs : List A) → count t xs ≡ 0 → Each (λ x. t x ≡ false) xs
none_counted t [] e = tt
none_counted {A} t (x ∷ xs) e = (by (t x) e, none_counted t xs (omega (arith, e)))
  where
    by : (b : Bool) → one_if b + count t xs ≡ 0 → b ≡ false
    by true e = absurd (omega (arith, e))
    by false e = refl

pub ruleset lists = (count-append, flat-append)
