-- The numbers of two passes.
use Rattle.std.proofs.Common.{◌≡◌, ℕ, zero, suc, ◌<◌, ◌≤◌, [], ◌∷◌, arith}
use Rattle.std.specs.Prelude.{Contains}

pub both : (a b n : ℕ) → a ≡ 1 → b ≡ 2 → n ≡ 2 → (number : ℕ) → 0 < number → number ≤ n → Contains (a ∷ b ∷ []) number
both a b n x y is zero low high = absurd (omega arith)
both a b n x y is (suc zero) low high = (0, omega arith, x)
both a b n x y is (suc (suc zero)) low high = (1, omega arith, y)
both a b n x y is (suc (suc (suc k))) low high = absurd (omega arith)
