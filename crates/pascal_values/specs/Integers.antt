-- The type integer and its operations (ISO 7185, 6.7.2.2), each with its value or its one fault.
use Rattle.std.specs.Prelude.{◌≡◌, ℕ, ◌<◌, ◌-◌, ◌^◌, Bool, if◌then◌else◌, ◌&&◌, ℤ, pos, negsuc, ◌+ℤ◌, ◌-ℤ◌, ◌*ℤ◌, Result, Ok, Err}
use Rattle.std.specs.Int.{int_rem_euclid}
use Rattle.std.specs.Int.RustNames.{int_div, int_le}
use Rattle.pascal_values.specs.declared.fault.Fault.{Fault}
use Rattle.pascal_values.specs.declared.fault.Fault.TheVariants.{Overflow, DivideByZero, ModNotPositive}

-- a number lies from low to high
abbrev pub is_between : ℤ → ℤ → ℤ → Bool
is_between low high z = int_le low z && int_le z high

-- a number is an integer: it lies from -maxint to maxint, which is 2 ^ 63 - 1
abbrev pub is_integer : ℤ → Bool
is_integer z = is_between (negsuc (2 ^ 63 - 2)) (pos (2 ^ 63 - 1)) z

-- a result, where it is an integer
abbrev pub integer : ℤ → Result ℤ Fault
integer z = if is_integer z then Ok z else Err Overflow

abbrev pub sum_of : ℤ → ℤ → Result ℤ Fault
sum_of a b = integer (a +ℤ b)

abbrev pub difference_of : ℤ → ℤ → Result ℤ Fault
difference_of a b = integer (a -ℤ b)

abbrev pub product_of : ℤ → ℤ → Result ℤ Fault
product_of a b = integer (a *ℤ b)

-- `a div b`, which truncates toward zero
abbrev pub quotient_of : ℤ → ℤ → Result ℤ Fault
quotient_of a b = if is_between (pos 0) (pos 0) b then Err DivideByZero else integer (int_div a b)

-- `a mod b`, which lies in 0..b-1 and differs from a by a multiple of b
abbrev pub remainder_of : ℤ → ℤ → Result ℤ Fault
remainder_of a b = if int_le b (pos 0) then Err ModNotPositive else Ok (int_rem_euclid a b)

-- `a mod b` is the one number of 0..b-1 from which a differs by a multiple of b
abbrev pub IsRemainder : Type 0
IsRemainder = (a : ℤ) (b : ℕ) → 0 < b → (k : ℤ) × (r : ℕ) × (remainder_of a (pos b) ≡ Ok (pos r)) × (r < b) × (a ≡ (k *ℤ pos b) +ℤ pos r)
