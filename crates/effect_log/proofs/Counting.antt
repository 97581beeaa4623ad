-- What effects need, one effect after another.
use Rattle.std.proofs.Common.{◌≡◌, ℕ, ◌+◌, ◌<◌, ◌≤◌, Bool, true, false, List, [], ◌∷◌, ◌++◌, length, take, get_or, refl, sym, ap, subst, ◌∙◌, arith}
use Rattle.std.specs.Prelude.{◌||◌, sum_by, All}
use Rattle.std.specs.List.{list_any}
use Rattle.std.proofs.lemmas.List.{take_more}
use Rattle.std.proofs.lemmas.List.Elements.{All-push}
use Rattle.std.proofs.lemmas.List.Folds.{list_any-append}
use Rattle.std.proofs.lemmas.List.Sums.{sum_by-append}

module _ {A : Type 0} (xs : List A) (i : ℕ) (x : A) (within : i < length xs) (is : x ≡ get_or xs i x) where
  next-is : take (i + 1) xs ≡ take i xs ++ x ∷ []
  next-is = take_more xs i x within ∙ ap (λ (y : A). take i xs ++ y ∷ []) (sym is)

  pub sum-next : (f : A → ℕ) (n m : ℕ) → m ≡ n + f x → n ≡ sum_by f (take i xs) → m ≡ sum_by f (take (i + 1) xs)
  sum-next f n m e h = e ∙ ap (λ k. k + f x) h ∙ sym (ap (sum_by f) next-is ∙ sum_by-append f (take i xs) (x ∷ []) ∙ one)
    where
      one : sum_by f (take i xs) + sum_by f (x ∷ []) ≡ sum_by f (take i xs) + f x
      one = omega arith

  pub any-next : (p : A → Bool) (b c : Bool) → c ≡ (b || p x) → b ≡ list_any p (take i xs) → c ≡ list_any p (take (i + 1) xs)
  any-next p b c e h = e ∙ ap (λ a. a || p x) h ∙ sym (ap (list_any p) next-is ∙ list_any-append p (take i xs) (x ∷ []) ∙ ap (λ a. list_any p (take i xs) || a) (one (p x)))
    where
      one : (a : Bool) → (a || false) ≡ a
      one true = refl
      one false = refl

  pub most-next : (f : A → ℕ) (n m : ℕ) → n ≤ m → f x ≤ m → All (λ y. f y ≤ n) (take i xs) → All (λ y. f y ≤ m) (take (i + 1) xs)
  most-next f n m le last h = subst (All (λ (y : A). f y ≤ m)) (sym next-is) (All-push (λ (y : A). f y ≤ m) (take i xs) x (λ k d less. let below = h k d less in omega (arith, below, le)) last)
