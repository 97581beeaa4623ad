-- Pairs of which no instance is another's or above it.
use Rattle.std.proofs.Common.{◌≡◌, ℕ, zero, suc, false, List, [], ◌∷◌, ◌++◌, Some, refl, sym, ap, subst, inl, inr}
use Rattle.std.specs.Prelude.{◌≢◌, slice_get, Contains}
use Rattle.estelle_tree.specs.declared.transition.Pair.{Pair}
use Rattle.estelle_tree.specs.Paths.{is_inside}
use Rattle.estelle_model_legality.proofs.Lists.{in_none, in_cases}
use Rattle.estelle_model_legality.proofs.Members.{Has, has_got, contains_has, has_append}

-- of two at different places neither is inside the other
abbrev pub Apart : List Pair → Type 0
Apart xs = (i j : ℕ) (p q : Pair) → i ≢ j → slice_get xs i ≡ Some p → slice_get xs j ≡ Some q → is_inside p.path q.path ≡ false

pub index_of : (xs : List Pair) (p : Pair) → Contains xs p → (k : ℕ) × (slice_get xs k ≡ Some p)
index_of [] p c = absurd (in_none Pair p c)
index_of (x ∷ xs) p c = elim (in_cases Pair p x xs c) [
  | inl e ↦ (0, ap (λ (y : Pair). Some y) (sym e))
  | inr d ↦ let k = index_of xs p d in (suc k.0, k.1)
]

pub apart_tail : (x : Pair) (xs : List Pair) → Apart (x ∷ xs) → Apart xs
apart_tail x xs h i j p q n a b = h (suc i) (suc j) p q (λ e. n (predecessor_same i j e)) a b
  where
    predecessor_same : (a b : ℕ) → suc a ≡ suc b → a ≡ b
    predecessor_same a b e = cc

-- ---- the same, one after another

abbrev pub AreApart : Pair → Pair → Type 0
AreApart p q = (is_inside p.path q.path ≡ false) × (is_inside q.path p.path ≡ false)

abbrev pub AllApart : List Pair → Type 0
AllApart [] = Unit {0}
AllApart (x ∷ xs) = ((y : Pair) → Has xs y → AreApart x y) × AllApart xs

pub all_of_apart : (xs : List Pair) → Apart xs → AllApart xs
all_of_apart [] h = tt
all_of_apart (x ∷ xs) h = (
  λ y has. let k = index_of xs y (contains_has xs y has) in (h 0 (suc k.0) x y (λ e. absurd (cc)) refl k.1, h (suc k.0) 0 y x (λ e. absurd (cc)) k.1 refl),
  all_of_apart xs (apart_tail x xs h),
)

pub apart_of_all : (xs : List Pair) → AllApart xs → Apart xs
apart_of_all [] a i j p q n e f = absurd (cc)
apart_of_all (x ∷ xs) a zero zero p q n e f = absurd (n refl)
apart_of_all (x ∷ xs) a zero (suc j) p q n e f = let is : x ≡ p = cc in subst (λ (y : Pair). is_inside y.path q.path ≡ false) is (a.0 q (has_got xs j q f)).0
apart_of_all (x ∷ xs) a (suc i) zero p q n e f = let is : x ≡ q = cc in subst (λ (y : Pair). is_inside p.path y.path ≡ false) is (a.0 p (has_got xs i p e)).1
apart_of_all (x ∷ xs) a (suc i) (suc j) p q n e f = apart_of_all xs a.1 i j p q (λ m. n (ap (λ (k : ℕ). suc k) m)) e f

pub all_append : (xs ys : List Pair) → AllApart xs → AllApart ys → ((x y : Pair) → Has xs x → Has ys y → AreApart x y) → AllApart (xs ++ ys)
all_append [] ys a b c = b
all_append (x ∷ xs) ys a b c = (
  λ y h. elim (has_append xs ys y h) [ inl k ↦ a.0 y k | inr k ↦ c x y (inl refl) k ],
  all_append xs ys a.1 b (λ p q h k. c p q (inr h) k),
)
