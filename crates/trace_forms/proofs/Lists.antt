-- What holds of each element of a list, and what is one of its elements.
use Rattle.std.proofs.Common.{◌≡◌, ℕ, zero, suc, Bool, true, false, ◌&&◌, List, [], ◌∷◌, ◌++◌, map, Some, refl, ap, sym, subst, cond, inl, inr}
use Rattle.std.specs.Prelude.{filter, flat_map, slice_get}
use Rattle.std.specs.List.{AllByRecursion, list_all}
use Rattle.scope_rules.specs.NameRules.{IsOne}
use Rattle.estelle_model_legality.proofs.Members.{Has}

-- ---- each element

module _ {A : Type 0} (P : A → Type 0) where
  pub all_append : (xs ys : List A) → AllByRecursion P xs → AllByRecursion P ys → AllByRecursion P (xs ++ ys)
  all_append [] ys h k = k
  all_append (x ∷ xs) ys h k = (h.0, all_append xs ys h.1 k)

  -- what holds of all holds of the first ones
  pub all_front : (xs ys : List A) → AllByRecursion P (xs ++ ys) → AllByRecursion P xs
  all_front [] ys h = tt
  all_front (x ∷ xs) ys h = (h.0, all_front xs ys h.1)

  -- and of the last ones
  pub all_back : (xs ys : List A) → AllByRecursion P (xs ++ ys) → AllByRecursion P ys
  all_back [] ys h = h
  all_back (x ∷ xs) ys h = all_back xs ys h.1

  pub all_filter : (test : A → Bool) (xs : List A) → AllByRecursion P xs → AllByRecursion P (filter test xs)
  all_filter test [] h = tt
  all_filter test (x ∷ xs) h = by (test x) (all_filter test xs h.1)
    where
      by : (b : Bool) → AllByRecursion P (filter test xs) → AllByRecursion P (cond b (x ∷ filter test xs) (filter test xs))
      by true rest = (h.0, rest)
      by false rest = rest

  pub all_at : (xs : List A) (n : ℕ) (x : A) → AllByRecursion P xs → slice_get xs n ≡ Some x → P x
  all_at [] n x h e = absurd (cc)
  all_at (y ∷ ys) zero x h e = let is : y ≡ x = cc in subst P is h.0
  all_at (y ∷ ys) (suc n) x h e = all_at ys n x h.1 e

  pub all_has : (Q : A → Type 0) (xs : List A) → ((x : A) → Has xs x → Q x → P x) → AllByRecursion Q xs → AllByRecursion P xs
  all_has Q [] h q = tt
  all_has Q (x ∷ xs) h q = (h x (inl refl) q.0, all_has Q xs (λ y k. h y (inr k)) q.1)

pub all_map : {A B : Type 0} (Q : A → Type 0) (P : B → Type 0) (f : A → B) → ((a : A) → Q a → P (f a)) → (xs : List A) → AllByRecursion Q xs → AllByRecursion P (map f xs)
all_map Q P f h [] k = tt
all_map Q P f h (x ∷ xs) k = (h x k.0, all_map Q P f h xs k.1)

pub all_flat : {A B : Type 0} (P : B → Type 0) (f : A → List B) → ((a : A) → AllByRecursion P (f a)) → (xs : List A) → AllByRecursion P (flat_map f xs)
all_flat P f h [] = tt
all_flat P f h (x ∷ xs) = all_append P (f x) (flat_map f xs) (h x) (all_flat P f h xs)

pub all_flat_of : {A B : Type 0} (Q : A → Type 0) (P : B → Type 0) (f : A → List B) → ((a : A) → Q a → AllByRecursion P (f a)) → (xs : List A) → AllByRecursion Q xs → AllByRecursion P (flat_map f xs)
all_flat_of Q P f h [] k = tt
all_flat_of Q P f h (x ∷ xs) k = all_append P (f x) (flat_map f xs) (h x k.0) (all_flat_of Q P f h xs k.1)

-- the tests of a list, one after another
pub all_tests : {A : Type 0} (f : A → Bool) (xs : List A) → list_all (λ b. b) (map f xs) ≡ list_all f xs
all_tests f [] = refl
all_tests f (x ∷ xs) = ap (λ b. f x && b) (all_tests f xs)

-- ---- one element

-- what holds of all holds of one of them
pub one_of_all : {A : Type 0} (P : A → Type 0) (xs : List A) (x : A) → AllByRecursion P xs → IsOne x xs → P x
one_of_all P [] x h o = absurd o
one_of_all P (y ∷ xs) x h (inl e) = subst P (sym e) h.0
one_of_all P (y ∷ xs) x h (inr o) = one_of_all P xs x h.1 o

-- what holds of each one holds of all
pub all_ones : {A : Type 0} (P : A → Type 0) (xs : List A) → ((x : A) → IsOne x xs → P x) → AllByRecursion P xs
all_ones P [] h = tt
all_ones P (x ∷ xs) h = (h x (inl refl), all_ones P xs (λ y o. h y (inr o)))

pub one_front : {A : Type 0} (x : A) (xs ys : List A) → IsOne x xs → IsOne x (xs ++ ys)
one_front x [] ys h = absurd h
one_front x (y ∷ xs) ys (inl e) = inl e
one_front x (y ∷ xs) ys (inr h) = inr (one_front x xs ys h)

pub one_back : {A : Type 0} (x : A) (xs ys : List A) → IsOne x ys → IsOne x (xs ++ ys)
one_back x [] ys h = h
one_back x (y ∷ xs) ys h = inr (one_back x xs ys h)

pub one_flat : {A B : Type 0} (f : A → List B) (x : A) (y : B) (xs : List A) → IsOne x xs → IsOne y (f x) → IsOne y (flat_map f xs)
one_flat f x y [] h g = absurd h
one_flat f x y (z ∷ xs) (inl e) g = one_front y (f z) (flat_map f xs) (subst (λ w. IsOne y (f w)) e g)
one_flat f x y (z ∷ xs) (inr h) g = one_back y (f z) (flat_map f xs) (one_flat f x y xs h g)
