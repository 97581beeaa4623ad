-- The topmost items of a stack that is kept with the topmost last.
use Rattle.std.proofs.Common.{◌≡◌, ◌∙◌, sym, ap, ap₂, ℕ, zero, suc, ◌-◌, ◌≤◌, ◌<◌, Bool, cond, List, ◌∷◌, ◌++◌, length, take, drop, reverse, Option, Some, None, arith}
use Rattle.std.proofs.lemmas.Bool.{le-leb, lt-leb}
use Rattle.std.proofs.lemmas.List.{reverse-append, reverse-reverse, take-append-drop, take_at, drop_at, length-reverse, length-drop}
use Rattle.body_machine.specs.Machine.{Item}
use Rattle.body_machine.specs.Steps.{taken_from}

module _ (xs : List Item) (k : ℕ) where
  abbrev below : List Item
  below = take (length xs - k) xs

  abbrev above : List Item
  above = drop (length xs - k) xs

  parted : reverse xs ≡ reverse above ++ reverse below
  parted = ap reverse (sym (take-append-drop (length xs - k) xs)) ∙ reverse-append below above

  many : k ≤ length xs → length (reverse above) ≡ k
  many less = let n = length-reverse above in let m = length-drop (length xs - k) xs in omega (arith, n, m, less)

  top_is : k ≤ length xs → reverse (take k (reverse xs)) ≡ above
  top_is less = ap (λ (ys : List Item). reverse (take k ys)) parted ∙ ap reverse (take_at (reverse above) (reverse below) k (many less)) ∙ reverse-reverse above

  rest_is : k ≤ length xs → drop k (reverse xs) ≡ reverse below
  rest_is less = ap (drop k) parted ∙ drop_at (reverse above) (reverse below) k (many less)

  abbrev chosen : Bool → Option (List Item × List Item)
  chosen b = cond b (Some (reverse (take k (reverse xs)), drop k (reverse xs))) None

  -- so many are there
  pub enough : k ≤ length xs → taken_from k (reverse xs) ≡ Some (above, reverse below)
  enough less = let n = length-reverse xs in ap chosen (le-leb k (length (reverse xs)) (omega (arith, n, less))) ∙ ap₂ (λ a b. Some (a, b)) (top_is less) (rest_is less)

  -- fewer are there
  pub too_few : length xs < k → taken_from k (reverse xs) ≡ None
  too_few less = let n = length-reverse xs in ap chosen (lt-leb k (length (reverse xs)) (omega (arith, n, less)))

  -- with the items above turned round
  abbrev round : List Item
  round = below ++ reverse above

  apart : reverse round ≡ above ++ reverse below
  apart = reverse-append below (reverse above) ∙ ap (λ (ys : List Item). ys ++ reverse below) (reverse-reverse above)

  long : k ≤ length xs → length above ≡ k
  long less = let m = length-drop (length xs - k) xs in omega (arith, m, less)

  pub turned : k ≤ length xs → taken_from k (reverse xs) ≡ Some (take k (reverse round), drop k (reverse round))
  turned less = enough less ∙ ap₂ (λ a b. Some (a, b))
      (sym (ap (take k) apart ∙ take_at above (reverse below) k (long less)))
      (sym (ap (drop k) apart ∙ drop_at above (reverse below) k (long less)))

-- ---- one item more

pub take_one : (k : ℕ) (i : Item) (xs : List Item) → 0 < k → take k (i ∷ xs) ≡ i ∷ take (k - 1) xs
take_one zero i xs more = absurd (omega (arith, more))
take_one (suc k) i xs more = ap (λ n. i ∷ take n xs) {y = suc k - 1} (omega arith)

pub drop_one : (k : ℕ) (i : Item) (xs : List Item) → 0 < k → drop k (i ∷ xs) ≡ drop (k - 1) xs
drop_one zero i xs more = absurd (omega (arith, more))
drop_one (suc k) i xs more = ap (λ n. drop n xs) {y = suc k - 1} (omega arith)
