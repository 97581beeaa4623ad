-- The latest value at a place, by its number.
use Rattle.std.proofs.Common.{◌≡◌, ◌∙◌, ℕ, ◌<◌, Bool, true, false, nat_eq, cond, List, [], ◌∷◌, ◌++◌, refl, ap, sym, length, arith, zero, suc, Option, Some, None}
use Rattle.std.specs.Prelude.{reverse, option_map, if◌then◌else◌}
use Rattle.std.specs.List.{slice_get}
use Rattle.std.specs.Map.{lookup}
use Rattle.std.proofs.lemmas.Bool.Decides.{nat_tests}
use Rattle.std.proofs.lemmas.List.{reverse-reverse, reverse-append, length-reverse}
use Rattle.place_table.specs.Latest.{before_latest, AreLatest}

-- the value with a number
abbrev pub value_at : {V : Type 0} → List (ℕ × V) → Option ℕ → Option V
value_at es None = None
value_at es (Some i) = option_map (λ e. e.1) (slice_get es i)

at_end : {A : Type 0} (xs : List A) (x : A) → slice_get (xs ++ x ∷ []) (length xs) ≡ Some x
at_end [] x = refl
at_end (y ∷ ys) x = at_end ys x

before_end : {A : Type 0} (xs : List A) (x : A) (i : ℕ) → i < length xs → slice_get (xs ++ x ∷ []) i ≡ slice_get xs i
before_end [] x i h = absurd (omega arith)
before_end (y ∷ ys) x zero h = refl
before_end (y ∷ ys) x (suc i) h = before_end ys x i (omega arith)

same_test : (a b : ℕ) → nat_eq a b ≡ nat_eq b a
same_test a b = grind (arith, nat_tests)

module _ {V : Type 0} where
  within : (place : ℕ) (es : List (ℕ × V)) (i : ℕ) → before_latest place es ≡ Some i → i < length es
  within place [] i h = absurd cc
  within place (e ∷ es) i h = by (nat_eq e.0 place) (within place es i) h
    where
      by : (b : Bool) → (before_latest place es ≡ Some i → i < length es) → (if b then Some (length es) else before_latest place es) ≡ Some i → i < suc (length es)
      by true more h = let n : length es ≡ i = cc in omega arith
      by false more h = let n = more h in omega arith

  kept : (es : List (ℕ × V)) (e : ℕ × V) (o : Option ℕ) → ((i : ℕ) → o ≡ Some i → i < length es) → value_at (es ++ e ∷ []) o ≡ value_at es o
  kept es e None h = refl
  kept es e (Some i) h = ap (option_map (λ x. x.1)) (before_end es e i (h i refl))

  latest_is : (place : ℕ) (es : List (ℕ × V)) → value_at (reverse es) (before_latest place es) ≡ lookup (nat_eq place) es
  latest_is place [] = refl
  latest_is place (e ∷ es) = by (nat_eq e.0 place) (latest_is place es) ∙ ap (λ b. cond b (Some e.1) (lookup (nat_eq place) es)) (same_test e.0 place)
    where
      turned : reverse (e ∷ es) ≡ reverse es ++ e ∷ []
      turned = reverse-append (e ∷ []) es

      last : slice_get (reverse es ++ e ∷ []) (length es) ≡ Some e
      last = ap (slice_get (reverse es ++ e ∷ [])) (sym (length-reverse es)) ∙ at_end (reverse es) e

      by : (b : Bool) → value_at (reverse es) (before_latest place es) ≡ lookup (nat_eq place) es → value_at (reverse (e ∷ es)) (if b then Some (length es) else before_latest place es) ≡ cond b (Some e.1) (lookup (nat_eq place) es)
      by true more = ap (λ xs. option_map (λ x. x.1) (slice_get xs (length es))) turned ∙ ap (option_map (λ x. x.1)) last
      by false more = ap (λ xs. value_at xs (before_latest place es)) turned ∙ kept (reverse es) e (before_latest place es) (λ i h. rw length-reverse (within place es i h)) ∙ more

  -- what stands at a place is the value with the latest number
  pub latest_value : (place : ℕ) (es : List (ℕ × V)) (latest : List (ℕ × ℕ)) → AreLatest es latest → value_at es (lookup (nat_eq place) latest) ≡ lookup (nat_eq place) (reverse es)
  latest_value place es latest h =
      ap (value_at es) (h place) ∙ ap (λ xs. value_at xs (before_latest place (reverse es))) (sym (reverse-reverse es)) ∙ latest_is place (reverse es)
