-- The greatest number that passes a test.
use Rattle.std.proofs.Common.{◌≡◌, ◌≢◌, ◌<◌, ◌≤◌, ℕ, zero, suc, ◌-◌, Bool, true, false, cond, true≢false, refl, sym, ap, ◌∙◌, arith, inl, inr}
use Rattle.std.proofs.lemmas.Bool.{cases_eq}
use Rattle.module_tree.specs.Nodes.{latest}

pub latest_le : (P : ℕ → Bool) (n : ℕ) → latest P n ≤ n
latest_le P zero = omega arith
latest_le P (suc n) = by (P (suc n)) (latest_le P n)
  where
    by : (b : Bool) → latest P n ≤ n → cond b (suc n) (latest P n) ≤ suc n
    by true h = omega arith
    by false h = omega arith

pub latest_ge : (P : ℕ → Bool) (n k : ℕ) → P k ≡ true → k ≤ n → k ≤ latest P n
latest_ge P zero k h w = omega arith
latest_ge P (suc n) k h w = by (P (suc n)) refl (λ l. latest_ge P n k h l)
  where
    by : (b : Bool) → P (suc n) ≡ b → (k ≤ n → k ≤ latest P n) → k ≤ cond b (suc n) (latest P n)
    by true e rest = w
    by false e rest = elim (cases_eq k (suc n)) [
      | inl is ↦ absurd (true≢false (sym h ∙ ap P is ∙ e))
      | inr is ↦ rest (omega arith)
    ]

-- what is found passes
pub latest_passes : (P : ℕ → Bool) (n k : ℕ) → latest P n ≡ suc k → P (suc k) ≡ true
latest_passes P zero k h = absurd (omega arith)
latest_passes P (suc n) k h = by (P (suc n)) refl h (λ r. latest_passes P n k r)
  where
    by : (b : Bool) → P (suc n) ≡ b → cond b (suc n) (latest P n) ≡ suc k → (latest P n ≡ suc k → P (suc k) ≡ true) → P (suc k) ≡ true
    by true e h rest = ap P (sym h) ∙ e
    by false e h rest = rest h

pub latest_there : (P : ℕ → Bool) (n : ℕ) → latest P n ≢ 0 → P (latest P n) ≡ true
latest_there P n some = by (latest P n) refl some
  where
    by : (k : ℕ) → latest P n ≡ k → k ≢ 0 → P k ≡ true
    by zero e h = absurd (h refl)
    by (suc k) e h = latest_passes P n k e

pub latest_top : (P : ℕ → Bool) (k : ℕ) → P k ≡ true → 0 < k → latest P k ≡ k
latest_top P k h positive = let low = latest_ge P k k h (omega arith) in let high = latest_le P k in omega arith

pub latest_alike : (P Q : ℕ → Bool) (n : ℕ) → ((j : ℕ) → 0 < j → j ≤ n → P j ≡ Q j) → latest P n ≡ latest Q n
latest_alike P Q zero h = refl
latest_alike P Q (suc n) h = λ i. cond (h (suc n) (omega arith) (omega arith) i) (suc n) (latest_alike P Q n (λ j a b. h j a (omega arith)) i)

-- without a number that is not the greatest, the greatest stays
pub latest_without_other : (P Q : ℕ → Bool) (n k : ℕ) → ((j : ℕ) → j ≢ k → Q j ≡ P j) → Q k ≡ false → latest P n ≢ k → latest Q n ≡ latest P n
latest_without_other P Q zero k alike gone other = refl
latest_without_other P Q (suc n) k alike gone other = by (P (suc n)) refl other (λ o. latest_without_other P Q n k alike gone o)
  where
    by : (b : Bool) → P (suc n) ≡ b → cond b (suc n) (latest P n) ≢ k → (latest P n ≢ k → latest Q n ≡ latest P n) → cond (Q (suc n)) (suc n) (latest Q n) ≡ cond b (suc n) (latest P n)
    by true e o rest = ap (λ b. cond b (suc n) (latest Q n)) (alike (suc n) o ∙ e)
    by false e o rest = ap (λ b. cond b (suc n) (latest Q n)) (elim (cases_eq (suc n) k) [ inl is ↦ ap Q is ∙ gone | inr is ↦ alike (suc n) is ∙ e ]) ∙ rest o

-- without the greatest, it is the greatest below
pub latest_without_it : (P Q : ℕ → Bool) (n k : ℕ) → ((j : ℕ) → j ≢ k → Q j ≡ P j) → Q k ≡ false → 0 < k → latest P n ≡ k → latest Q n ≡ latest P (k - 1)
latest_without_it P Q zero k alike gone positive is = absurd (omega arith)
latest_without_it P Q (suc n) k alike gone positive is = by (P (suc n)) refl is (λ r. latest_without_it P Q n k alike gone positive r)
  where
    below : suc n ≡ k → latest Q n ≡ latest P (k - 1)
    below e = latest_alike Q P n (λ j a b. alike j (λ s. omega arith)) ∙ ap (latest P) (omega arith)

    by : (b : Bool) → P (suc n) ≡ b → cond b (suc n) (latest P n) ≡ k → (latest P n ≡ k → latest Q n ≡ latest P (k - 1)) → cond (Q (suc n)) (suc n) (latest Q n) ≡ latest P (k - 1)
    by true e h rest = ap (λ b. cond b (suc n) (latest Q n)) (ap Q h ∙ gone) ∙ below h
    by false e h rest =
        let low = latest_le P n in
        ap (λ b. cond b (suc n) (latest Q n)) (alike (suc n) (λ s. omega arith) ∙ e) ∙ rest h
