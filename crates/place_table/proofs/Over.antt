-- What a place has last in tables one over another.
use Rattle.std.proofs.Common.{◌≡◌, ◌∙◌, ℕ, ◌+◌, ◌-◌, ◌<◌, ◌≤◌, Bool, true, false, nat_eq, cond, List, [], ◌∷◌, ◌++◌, refl, ap, take, get_or, length, reverse, sym, append_assoc, arith, Some, None}
use Rattle.std.specs.Prelude.{fold}
use Rattle.std.specs.List.{flat_map}
use Rattle.std.specs.Option.{option_or}
use Rattle.std.specs.Map.{lookup}
use Rattle.std.proofs.lemmas.List.{reverse-append, take_more, append-nil}
use Rattle.std.proofs.lemmas.Grind.{flat_map-append}
use Rattle.place_table.specs.Latest.{latest}

lookup_over : {V : Type 0} (place : ℕ) (xs ys : List (ℕ × V)) → lookup (nat_eq place) (xs ++ ys) ≡ option_or (lookup (nat_eq place) xs) (lookup (nat_eq place) ys)
lookup_over place [] ys = refl
lookup_over place (x ∷ xs) ys = by (nat_eq place x.0) (lookup_over place xs ys)
  where
    by : (b : Bool) → lookup (nat_eq place) (xs ++ ys) ≡ option_or (lookup (nat_eq place) xs) (lookup (nat_eq place) ys) → cond b (Some x.1) (lookup (nat_eq place) (xs ++ ys)) ≡ option_or (cond b (Some x.1) (lookup (nat_eq place) xs)) (lookup (nat_eq place) ys)
    by true more = refl
    by false more = more

-- what is declared later goes first
pub latest_over : {V : Type 0} (place : ℕ) (xs ys : List (ℕ × V)) → latest place (xs ++ ys) ≡ option_or (latest place ys) (latest place xs)
latest_over place xs ys = ap (lookup (nat_eq place)) (reverse-append xs ys) ∙ lookup_over place (reverse ys) (reverse xs)

-- the uppermost of some tables, and those below it
pub latest_in_upper : {V R : Type 0} (f : R → List (ℕ × V)) (place : ℕ) (ts : List R) (i : ℕ) (t : R) → 0 < i → i ≤ length ts → t ≡ get_or ts (i - 1) t → latest place (flat_map f (take i ts)) ≡ option_or (latest place (f t)) (latest place (flat_map f (take (i - 1) ts)))
latest_in_upper f place ts i t more within e =
    let below = flat_map f (take (i - 1) ts) in
    let i_is : i ≡ (i - 1) + 1 = omega arith in
    ap (λ n. latest place (flat_map f (take n ts))) i_is
    ∙ ap (λ xs. latest place (flat_map f xs)) (take_more ts (i - 1) t (omega arith))
    ∙ ap (latest place) (flat_map-append f (take (i - 1) ts) (get_or ts (i - 1) t ∷ []) ∙ ap (λ xs. below ++ xs) (append-nil (f (get_or ts (i - 1) t))))
    ∙ latest_over place below (f (get_or ts (i - 1) t))
    ∙ ap (λ x. option_or (latest place (f x)) (latest place below)) (sym e)

-- what items tell one after another, they tell together
pub told_together : {A K V : Type 0} (step : K → A → K) (known : List V → K) (f : A → List V) → ((vs : List V) (x : A) → step (known vs) x ≡ known (vs ++ f x)) → (vs : List V) (xs : List A) → fold step (known vs) xs ≡ known (vs ++ flat_map f xs)
told_together step known f tells vs [] = ap known (sym (append-nil vs))
told_together step known f tells vs (x ∷ xs) =
    ap (λ k. fold step k xs) (tells vs x) ∙ told_together step known f tells (vs ++ f x) xs ∙ ap known (append_assoc vs (f x) (flat_map f xs))

-- one more is the first of those in reverse
pub latest_first : {A : Type 0} (xs : List A) (x : A) → reverse (xs ++ x ∷ []) ≡ x ∷ reverse xs
latest_first xs x = reverse-append xs (x ∷ [])
