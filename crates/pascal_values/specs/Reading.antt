-- Reading a value from a text.
use Rattle.std.specs.Prelude.{◌≡◌, ℕ, ◌≤◌, List, ◌++◌, length, drop, Result, Ok, Err}
use Rattle.pascal_values.specs.declared.value.Value.{Value}
use Rattle.pascal_values.specs.declared.failing.ValueError.{ValueError}
use Rattle.pascal_values.specs.declared.failing.ValueError.TheVariants.{NoValue, Memory}
use Rattle.pascal_values.specs.Texts.{text, HasForm, IsReadable, NoDigit}

-- the value, nested so deep at most, with the longest text that begins here, and what follows it
pub record Reads (depth : ℕ) (bytes : List ℕ) (v : Value) (rest : List ℕ) : Type 0 where
  pub form : HasForm depth v
  pub is : bytes ≡ text v ++ rest
  pub longest : (w : Value) (more : List ℕ) → HasForm depth w → bytes ≡ text w ++ more → length (text w) ≤ length (text v)

-- no value's text begins here
abbrev pub HasNone : ℕ → List ℕ → Type 0
HasNone depth bytes = (v : Value) (rest : List ℕ) → HasForm depth v → ¬ (bytes ≡ text v ++ rest)

-- what reading at a place answers: a value and the place after its text, or none; want of memory says nothing
abbrev pub IsReading : ℕ → List ℕ → ℕ → Result (Value × ℕ) ValueError → Type 0
IsReading depth bytes at_ (Ok r) = (at_ ≤ r.1) × (r.1 ≤ length bytes) × Reads depth (drop at_ bytes) r.0 (drop r.1 bytes)
IsReading depth bytes at_ (Err NoValue) = HasNone depth (drop at_ bytes)
IsReading depth bytes at_ (Err Memory) = Unit {0}

-- no text has two readings
abbrev pub HasOneReading : Type 0
HasOneReading = (v w : Value) → IsReadable v → IsReadable w → text v ≡ text w → v ≡ w

-- what is written is read again as the same value, whatever follows that does not begin with a digit
abbrev pub IsReadAgain : Type 0
IsReadAgain = (v : Value) (rest : List ℕ) → IsReadable v → NoDigit rest →
    (¬ HasNone 200 (text v ++ rest)) × ((w : Value) (more : List ℕ) → Reads 200 (text v ++ rest) w more → (w ≡ v) × (more ≡ rest))
