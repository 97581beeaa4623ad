-- Numbers that rise: what is put one after another is what is sorted.
use Rattle.std.proofs.Common.{◌≡◌, ℕ, zero, suc, ◌+◌, ◌<◌, ◌≤◌, Bool, true, false, cond, List, [], ◌∷◌, ◌++◌, length, get_or, refl, ap, ◌∙◌, arith}
use Rattle.std.specs.Prelude.{nat_lt, ◌==◌, fold, IsPermutation, IsSorted, if◌then◌else◌}
use Rattle.std.specs.Ordering.{nat_cmp}
use Rattle.std.proofs.lemmas.Bool.Decides.{nat_tests}
use Rattle.std.proofs.lemmas.List.Sums.{sum_by-cons, sum_by-append}
use Rattle.std.proofs.lemmas.List.Sorted.{IsNonDecreasingBy-from_sort, sum_by-IsPermutation}
use Rattle.estelle_model.specs.Situation.{put_number}
use Rattle.effect_log.specs.Underway.{times, AllFrom, Rises}

pub times-cons : (n m : ℕ) (ms : List ℕ) → times n (m ∷ ms) ≡ cond (m == n) 1 0 + times n ms
times-cons n m ms = sum_by-cons (λ k. cond (k == n) 1 0) m ms

pub times-append : (n : ℕ) (ms ks : List ℕ) → times n (ms ++ ks) ≡ times n ms + times n ks
times-append n ms ks = sum_by-append (λ k. cond (k == n) 1 0) ms ks

pub times-permuted : (n : ℕ) (ms ks : List ℕ) → IsPermutation ms ks → times n ks ≡ times n ms
times-permuted n ms ks h = sum_by-IsPermutation (λ k. cond (k == n) 1 0) ms ks h

-- ---- one more

times-put : (n m : ℕ) (ks : List ℕ) → times n (put_number ks m) ≡ cond (m == n) 1 0 + times n ks
times-put n m [] = times-cons n m []
times-put n m (k ∷ ks) = by (nat_lt m k) (times-put n m ks)
  where
    by : (b : Bool) → times n (put_number ks m) ≡ cond (m == n) 1 0 + times n ks → times n (if b then m ∷ k ∷ ks else k ∷ put_number ks m) ≡ cond (m == n) 1 0 + times n (k ∷ ks)
    by true rest = times-cons n m (k ∷ ks)
    by false rest = let a = times-cons n k (put_number ks m) in let b = times-cons n k ks in omega (arith, a, b, rest)

from-less : (m k : ℕ) (ns : List ℕ) → k ≤ m → AllFrom m ns → AllFrom k ns
from-less m k [] le h = tt
from-less m k (n ∷ ns) le h = (omega (arith, h.0), from-less m k ns le h.1)

from-put : (m n : ℕ) (ks : List ℕ) → m ≤ n → AllFrom m ks → AllFrom m (put_number ks n)
from-put m n [] le h = (le, tt)
from-put m n (k ∷ ks) le h = by (nat_lt n k) (from-put m n ks le h.1)
  where
    by : (b : Bool) → AllFrom m (put_number ks n) → AllFrom m (if b then n ∷ k ∷ ks else k ∷ put_number ks n)
    by true rest = (le, h)
    by false rest = (h.0, rest)

rises-put : (n : ℕ) (ks : List ℕ) → Rises ks → Rises (put_number ks n)
rises-put n [] h = (tt, tt)
rises-put n (k ∷ ks) h = by (nat_lt n k) refl (rises-put n ks h.1)
  where
    by : (b : Bool) → nat_lt n k ≡ b → Rises (put_number ks n) → Rises (if b then n ∷ k ∷ ks else k ∷ put_number ks n)
    by true e rest = let less : n < k = grind (arith, nat_tests) in ((omega (arith, less), from-less k n ks (omega (arith, less)) h.0), h)
    by false e rest = let most : k ≤ n = grind (arith, nat_tests) in (from-put k n ks most h.0, rest)

-- ---- more

pub rises-all : (ns ks : List ℕ) → Rises ks → Rises (fold put_number ks ns)
rises-all [] ks h = h
rises-all (n ∷ ns) ks h = rises-all ns (put_number ks n) (rises-put n ks h)

pub times-all : (m : ℕ) (ns ks : List ℕ) → times m (fold put_number ks ns) ≡ times m ks + times m ns
times-all m [] ks = omega arith
times-all m (n ∷ ns) ks = let a = times-all m ns (put_number ks n) in let b = times-put m n ks in let c = times-cons m n ns in omega (arith, a, b, c)

-- ---- rising lists with the same numbers

from-times : (n m : ℕ) (ns : List ℕ) → AllFrom m ns → 1 ≤ times n ns → m ≤ n
from-times n m [] h some = absurd (omega (arith, some))
from-times n m (k ∷ ks) h some = by (k == n) refl (times-cons n k ks) (from-times n m ks h.1)
  where
    by : (b : Bool) → (k == n) ≡ b → times n (k ∷ ks) ≡ cond b 1 0 + times n ks → (1 ≤ times n ks → m ≤ n) → m ≤ n
    by true e c rest = let same : k ≡ n = grind (arith, nat_tests) in omega (arith, h.0, same)
    by false e c rest = rest (omega (arith, some, c))

own-times : (n : ℕ) (ns : List ℕ) → 1 ≤ times n (n ∷ ns)
own-times n ns = let c = times-cons n n ns in let e : (n == n) ≡ true = grind (arith, nat_tests) in let d : ◌≡◌ {A = ℕ} (cond (n == n) 1 0) 1 = ap (λ b. cond b 1 0) e in omega (arith, c, d)

-- no less than the first of a rising list
from-first : (n m : ℕ) (ns : List ℕ) → AllFrom m ns → 1 ≤ times n (m ∷ ns) → m ≤ n
from-first n m ns h some = from-times n m (m ∷ ns) (omega arith, h) some

pub same-rising : (ms ns : List ℕ) → Rises ms → Rises ns → ((k : ℕ) → times k ms ≡ times k ns) → ms ≡ ns
same-rising [] [] h k same = refl
same-rising [] (n ∷ ns) h k same = let some = own-times n ns in let none = same n in absurd (omega (arith, some, none))
same-rising (m ∷ ms) [] h k same = let some = own-times m ms in let none = same m in absurd (omega (arith, some, none))
same-rising (m ∷ ms) (n ∷ ns) h k same =
    let low : n ≤ m = from-first m n ns k.0 (let some = own-times m ms in omega (arith, some, same m)) in
    let high : m ≤ n = from-first n m ms h.0 (let some = own-times n ns in omega (arith, some, same n)) in
    let first : m ≡ n = omega (arith, low, high) in
    let rest : (j : ℕ) → times j ms ≡ times j ns =
    λ j. let a = times-cons j m ms in let b = times-cons j n ns in let c : ◌≡◌ {A = ℕ} (cond (m == j) 1 0) (cond (n == j) 1 0) = ap (λ i. cond (i == j) 1 0) first in omega (arith, a, b, c, same j) in
    λ i. first i ∷ same-rising ms ns h.1 k.1 rest i

-- ---- what is sorted rises

rises-of : (ns : List ℕ) → ((i j : ℕ) (d : ℕ) → i ≤ j → j < length ns → get_or ns i d ≤ get_or ns j d) → Rises ns
rises-of [] h = tt
rises-of (n ∷ ns) h = (above ns (λ j less. h zero (suc j) 0 (omega arith) (omega (arith, less))), rises-of ns (λ i j d le less. h (suc i) (suc j) d (omega (arith, le)) (omega (arith, less))))
  where
    above : (ks : List ℕ) → ((j : ℕ) → j < length ks → n ≤ get_or ks j 0) → AllFrom n ks
    above [] h = tt
    above (k ∷ ks) h = (h zero (omega arith), above ks (λ j less. h (suc j) (omega (arith, less))))

pub rises-sorted : (ns : List ℕ) → IsSorted nat_cmp ns → Rises ns
rises-sorted ns sorted = rises-of ns (IsNonDecreasingBy-from_sort (λ n. n) ns sorted)

-- sorting gives what putting one number after another gives
pub sorted-is : (ns ks all : List ℕ) → IsPermutation ks ns → IsSorted nat_cmp ns → Rises all → ((m : ℕ) → times m ks ≡ times m all) → ns ≡ all
sorted-is ns ks all permuted sorted rises same = same-rising ns all (rises-sorted ns sorted) rises (λ m. times-permuted m ks ns permuted ∙ same m)
