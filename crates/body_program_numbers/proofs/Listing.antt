-- Places with numbers, one after another.
use Rattle.std.proofs.Common.{◌≡◌, ◌∙◌, ap, sym, ℕ, zero, suc, ◌+◌, ◌<◌, List, [], ◌∷◌, ◌++◌, map, take, drop, get_or, length, refl, arith, add-one, append-nil, append_assoc}
use Rattle.std.proofs.lemmas.List.{map-append}
use Rattle.body_program_numbers.specs.Places.{Number, list_from, lists_from, rising}

-- one more place of a list
pub one_listed : (k n : ℕ) (places : List ℕ) (i : ℕ) → i < length places → list_from k n (take (i + 1) places) ≡ list_from k n (take i places) ++ (get_or places i 0, (k, n + i)) ∷ []
one_listed k n places i h = rw add-one (by k n places i h)
  where
    by : (k n : ℕ) (places : List ℕ) (i : ℕ) → i < length places → list_from k n (take (suc i) places) ≡ list_from k n (take i places) ++ (get_or places i 0, (k, n + i)) ∷ []
    by k n [] i h = absurd (omega arith)
    by k n (p ∷ ps) zero h = let same : n ≡ n + 0 = omega arith in λ j. (p, (k, same j)) ∷ []
    by k n (p ∷ ps) (suc i) h = let same : suc n + i ≡ n + suc i = omega arith in ap (λ es. (p, (k, n)) ∷ es) (by k (suc n) ps i (omega arith) ∙ ap (λ m. list_from k (suc n) (take i ps) ++ (get_or ps i 0, (k, m)) ∷ []) same)

-- one more list
pub one_list_more : (k : ℕ) (lists : List (List ℕ)) (i : ℕ) (places : List ℕ) → i < length lists → places ≡ get_or lists i places → lists_from k (take (i + 1) lists) ≡ lists_from k (take i lists) ++ list_from (k + i) 0 places
one_list_more k lists i places h e = rw add-one (by k lists i places h e)
  where
    by : (k : ℕ) (lists : List (List ℕ)) (i : ℕ) (places : List ℕ) → i < length lists → places ≡ get_or lists i places → lists_from k (take (suc i) lists) ≡ lists_from k (take i lists) ++ list_from (k + i) 0 places
    by k [] i places h e = absurd (omega arith)
    by k (l ∷ ls) zero places h e =
        let same : k ≡ k + 0 = omega arith in
        append-nil (list_from k 0 l) ∙ ap (list_from k 0) (sym e) ∙ ap (λ m. list_from m 0 places) same
    by k (l ∷ ls) (suc i) places h e =
        let same : suc k + i ≡ k + suc i = omega arith in
        ap (λ es. list_from k 0 l ++ es) (by (suc k) ls i places (omega arith) e ∙ ap (λ m. lists_from (suc k) (take i ls) ++ list_from m 0 places) same)
        ∙ sym (append_assoc (list_from k 0 l) (lists_from (suc k) (take i ls)) (list_from (k + suc i) 0 places))

-- one more number
pub one_risen : (n i : ℕ) → rising n (i + 1) ≡ rising n i ++ (n + i) ∷ []
one_risen n i = rw add-one (by n i)
  where
    by : (n i : ℕ) → rising n (suc i) ≡ rising n i ++ (n + i) ∷ []
    by n zero = let same : n ≡ n + 0 = omega arith in λ j. same j ∷ []
    by n (suc i) = let same : suc n + i ≡ n + suc i = omega arith in ap (λ ns. n ∷ ns) (by (suc n) i ∙ ap (λ m. rising (suc n) i ++ m ∷ []) same)

-- the places of a list with numbers
pub places_listed : (k n : ℕ) (places : List ℕ) → map (λ (e : ℕ × Number). e.0) (list_from k n places) ≡ places
places_listed k n [] = refl
places_listed k n (p ∷ ps) = ap (λ es. p ∷ es) (places_listed k (suc n) ps)

pub ruleset mapped = (map-append, append_assoc)
