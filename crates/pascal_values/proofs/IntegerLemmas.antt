-- The remainder of a division.
use Rattle.std.proofs.Common.{◌≡◌, ℕ, zero, suc, ◌+◌, ◌-◌, ◌*◌, ◌/◌, ◌%◌, ◌<◌, Bool, false, cond, ap, arith, ℤ, pos, negsuc, ◌+ℤ◌, ◌*ℤ◌, neg_ℤ, Result, Ok, Err}
use Rattle.std.specs.Int.{int_rem_euclid}
use Rattle.std.specs.Int.RustNames.{int_le}
use Rattle.std.proofs.lemmas.Bool.Decides.{nat_tests}
use Rattle.std.proofs.lemmas.Int.{ints}
use Rattle.pascal_values.specs.declared.fault.Fault.{Fault}
use Rattle.pascal_values.specs.declared.fault.Fault.TheVariants.{ModNotPositive}
use Rattle.pascal_values.specs.Integers.{remainder_of}

abbrev remainder_by : ℤ → Bool → Result ℤ Fault
remainder_by r b = cond b (Err ModNotPositive) (Ok r)

divisor : (b : ℕ) → 0 < b → int_le (pos b) (pos 0) ≡ false
divisor b lt = grind (arith, nat_tests, ints)

remainder_is : (a : ℤ) (b : ℕ) → 0 < b → remainder_of a (pos b) ≡ Ok (int_rem_euclid a (pos b))
remainder_is a b lt = ap (remainder_by (int_rem_euclid a (pos b))) (divisor b lt)

below_zero : (n x y r b : ℕ) → x ≡ y + b → n ≡ y + r → r < b → negsuc n ≡ neg_ℤ (pos x) +ℤ pos (b - 1 - r)
below_zero n x y r b x_is n_is lt = omega (arith, ints)

pub remainder_law : (a : ℤ) (b : ℕ) → 0 < b → (k : ℤ) × (r : ℕ) × (remainder_of a (pos b) ≡ Ok (pos r)) × (r < b) × (a ≡ (k *ℤ pos b) +ℤ pos r)
remainder_law a zero lt = absurd (omega arith)
remainder_law (pos n) (suc b) lt =
    let d : n ≡ (n / suc b) * suc b + n % suc b = grind arith in
    (pos (n / suc b), n % suc b, remainder_is (pos n) (suc b) lt, omega arith, ap pos d)
remainder_law (negsuc n) (suc b) lt =
    let x : suc (n / suc b) * suc b ≡ (n / suc b) * suc b + suc b = grind arith in
    let d : n ≡ (n / suc b) * suc b + n % suc b = grind arith in
    (negsuc (n / suc b), suc b - 1 - n % suc b, remainder_is (negsuc n) (suc b) lt, omega arith, below_zero n (suc (n / suc b) * suc b) ((n / suc b) * suc b) (n % suc b) (suc b) x d (omega arith))
