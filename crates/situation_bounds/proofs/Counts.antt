-- How many of a list pass a test where one element is set, and bounds by a product.
use Rattle.std.proofs.Common.{◌≡◌, ◌≤◌, ◌+◌, ◌*◌, ℕ, Bool, true, false, List, get_or, Some, cond, ap, ◌∙◌, arith}
use Rattle.std.specs.Prelude.{count_by, slice_get, slice_set}
use Rattle.std.proofs.lemmas.List.Sums.{sum_by-set}
use Rattle.std.proofs.lemmas.Option.{slice_get_within, get_or_from_slice_get}

-- one that passed is set to one that does not
pub count_set : {A : Type 0} (test : A → Bool) (xs : List A) (at : ℕ) (x z : A) → slice_get xs at ≡ Some x → test x ≡ true → test z ≡ false → count_by test (slice_set xs at z) + 1 ≡ count_by test xs
count_set {A} test xs at x z there passes fails =
    let one : A → ℕ = λ y. cond (test y) 1 0 in
    let before : one (get_or xs at x) ≡ 1 = ap one (get_or_from_slice_get xs at x x there) ∙ ap (λ b. cond b 1 0) passes in
    let after : one z ≡ 0 = ap (λ b. cond b 1 0) fails in
    omega (arith, sum_by-set one xs at z x (slice_get_within xs at x there), before, after)

-- what is bounded does not grow
pub bound_stays : (n l x n' l' x' : ℕ) → n' ≡ n → l' ≡ l → x' ≤ x → x ≤ n * l → x' ≤ n' * l'
bound_stays n l x n' l' x' same_n same_l less bound = rw (same_n, same_l) (omega arith)

-- a part of it grows to at most the one factor, and the other factor grows by one
pub bound_grows : (n l x a n' l' x' a' : ℕ) → n' ≡ n + 1 → l' ≡ l → x' ≡ x → a' ≤ l' → x + a ≤ n * l → x' + a' ≤ n' * l'
bound_grows n l x a n' l' x' a' more same_l same_x less bound = rw (more, same_l, same_x) (omega arith)
