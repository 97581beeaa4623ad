-- Counts of faults, and why a call failed.
use Rattle.std.specs.Prelude.{◌≡◌, ℕ, ◌+◌, ◌-◌, ◌^◌, ◌≤◌, min, Result, OnErr, MatchResult}

-- the count one higher: a counter of 64 bits stands still at its last value
abbrev pub next_count : ℕ → ℕ
next_count count = min (count + 1) (2 ^ 64 - 1)

-- the count rose, or stands at the last value of its counter
abbrev pub Rose : ℕ → ℕ → Type 0
Rose before now = next_count before ≤ now

-- a call never lowers the count, and fails only where the count rose
pub record HasCause {T E : Type 0} (before now : ℕ) (result : Result T E) : Type 0 where
  pub later : before ≤ now
  pub failed : OnErr result (Rose before now)

-- a call counts one fault where it fails, and else none
abbrev pub CountsFault : {T E : Type 0} → ℕ → ℕ → Result T E → Type 0
CountsFault before now result = MatchResult result (λ _. now ≡ before) (λ _. now ≡ next_count before)
