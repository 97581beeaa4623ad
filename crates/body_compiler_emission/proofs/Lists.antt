-- What a loop over a list comes to.
use Rattle.std.proofs.Common.{◌≡◌, ◌∙◌, ℕ, zero, suc, ◌+◌, ◌<◌, ◌≤◌, List, [], ◌∷◌, length, fold, get_or, take, drop, refl, sym, ap, arith}

all_taken : {X : Type 0} (xs : List X) (i : ℕ) → length xs ≤ i → take i xs ≡ xs
all_taken [] zero h = refl
all_taken [] (suc i) h = refl
all_taken (x ∷ xs) zero h = absurd (omega (arith, h))
all_taken (x ∷ xs) (suc i) h = ap (λ l. x ∷ l) (all_taken xs i (omega (arith, h)))

-- over all of it
pub fold_all : {X Y : Type 0} (f : Y → X → Y) (a : Y) (xs : List X) (i : ℕ) → length xs ≤ i → fold f a (take i xs) ≡ fold f a xs
fold_all f a xs i h = ap (λ l. fold f a l) (all_taken xs i h)

-- an item, and what is behind it
behind : {X : Type 0} (xs : List X) (i : ℕ) (x : X) → i < length xs → x ≡ get_or xs i x → drop i xs ≡ x ∷ drop (suc i) xs
behind [] i x some at = absurd (omega (arith, some))
behind (y ∷ xs) zero x some at = ap (λ z. z ∷ xs) (sym at)
behind (y ∷ xs) (suc i) x some at = behind xs i x (omega (arith, some)) at

pub opened : {X : Type 0} (xs : List X) (i : ℕ) (x : X) → i < length xs → x ≡ get_or xs i x → drop i xs ≡ x ∷ drop (i + 1) xs
opened xs i x some at = behind xs i x some at ∙ ap (λ n. x ∷ drop n xs) (let e : suc i ≡ i + 1 = omega arith in e)

pub all_dropped : {X : Type 0} (xs : List X) (i : ℕ) → length xs ≤ i → drop i xs ≡ []
all_dropped [] zero h = refl
all_dropped [] (suc i) h = refl
all_dropped (x ∷ xs) zero h = absurd (omega (arith, h))
all_dropped (x ∷ xs) (suc i) h = all_dropped xs i (omega (arith, h))
