-- Texts of items with their numbers, one after another.
use Rattle.std.proofs.Common.{◌≡◌, ◌∙◌, ℕ, suc, ◌+◌, ◌<◌, List, [], ◌∷◌, ◌++◌, ap, sym, length, get_or, drop, arith, append_assoc, add-one, flat_map}
use Rattle.std.specs.List.{enumerate_from}
use Rattle.std.proofs.Math.Seq.{drop-cons}

module _ {X : Type 0} (f : ℕ × X → List ℕ) where
  -- the texts of the items, numbered from a first number on
  abbrev pub texts : ℕ → List X → List ℕ
  texts n xs = flat_map f (enumerate_from n xs)

  -- what is written before an item, with the texts from there on, is what is written behind it, with the texts behind it
  pub one_more : (xs : List X) (n i : ℕ) (x : X) (old new all : List ℕ) → i < length xs → x ≡ get_or xs i x → new ≡ old ++ f (n + i, x) → old ++ texts (n + i) (drop i xs) ≡ all → new ++ texts (n + (i + 1)) (drop (i + 1) xs) ≡ all
  one_more xs n i x old new all within at written before =
      let front : drop i xs ≡ x ∷ drop (i + 1) xs = rw add-one (drop-cons xs i x within ∙ ap (λ y. y ∷ drop (suc i) xs) (sym at)) in
      let number : n + (i + 1) ≡ n + i + 1 = omega arith in
      ap (λ t. t ++ texts (n + (i + 1)) (drop (i + 1) xs)) written
      ∙ (append_assoc old (f (n + i, x)) (texts (n + (i + 1)) (drop (i + 1) xs))
      ∙ (ap (λ k. old ++ (f (n + i, x) ++ texts k (drop (i + 1) xs))) number
      ∙ (ap (λ ys. old ++ texts (n + i) ys) (sym front) ∙ before)))

  -- the second of two lists is numbered on
  pub texts_append : (n : ℕ) (xs ys : List X) → texts n (xs ++ ys) ≡ texts n xs ++ texts (n + length xs) ys
  texts_append n [] ys = let number : n ≡ n + 0 = omega arith in ap (λ k. texts k ys) number
  texts_append n (x ∷ xs) ys =
      let number : n + 1 + length xs ≡ n + suc (length xs) = omega arith in
      ap (λ t. f (n, x) ++ t) (texts_append (n + 1) xs ys ∙ ap (λ k. texts (n + 1) xs ++ texts k ys) number)
      ∙ sym (append_assoc (f (n, x)) (texts (n + 1) xs) (texts (n + suc (length xs)) ys))
