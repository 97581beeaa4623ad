-- What the reader's own steps find in a text.
use Rattle.pascal_values.specs.declared.value.Value.{Value}
use Rattle.std.specs.Prelude.{◌≡◌, ◌⊎◌, ◌≢◌, ℕ, ◌+◌, ◌*◌, ◌<◌, ◌≤◌, Bool, if◌then◌else◌, List, [], ◌∷◌, ◌++◌, length, map, drop, IsTrue, Option, Some, None, Result, Ok, Err, Vec}
use Rattle.std.specs.declared.alloc.Global.{Global}
use Rattle.std.specs.List.{AllByRecursion, join_with_byte}
use Rattle.pascal_values.specs.declared.failing.ValueError.{ValueError}
use Rattle.pascal_values.specs.declared.failing.ValueError.TheVariants.{NoValue, Memory}
use Rattle.std.specs.Fmt.{decimal}
use Rattle.pascal_values.specs.Texts.{text, HasForm, is_printable, NoDigit}

-- a byte stands at a place
pub record Stands (bytes : List ℕ) (at_ c : ℕ) : Type 0 where
  pub within : at_ < length bytes
  pub is : drop at_ bytes ≡ c ∷ drop (at_ + 1) bytes

-- a word stands at a place
pub record StandsWord (bytes : List ℕ) (at_ : ℕ) (word : List ℕ) : Type 0 where
  pub within : at_ + length word ≤ length bytes
  pub is : drop at_ bytes ≡ word ++ drop (at_ + length word) bytes

abbrev pub NoWord : List ℕ → ℕ → List ℕ → Type 0
NoWord bytes at_ word = (rest : List ℕ) → ¬ (drop at_ bytes ≡ word ++ rest)

-- a character that stands between quotes as it is
abbrev pub IsPlain : ℕ → Type 0
IsPlain c = (c ≢ 39) × IsTrue (is_printable c)

-- such a character stands between quotes at a place
pub record StandsQuoted (bytes : List ℕ) (at_ c : ℕ) : Type 0 where
  pub plain : IsPlain c
  pub within : at_ + 3 ≤ length bytes
  pub is : drop at_ bytes ≡ 39 ∷ c ∷ 39 ∷ drop (at_ + 3) bytes

abbrev pub NoQuoted : List ℕ → ℕ → Type 0
NoQuoted bytes at_ = (c : ℕ) (rest : List ℕ) → IsPlain c → ¬ (drop at_ bytes ≡ 39 ∷ c ∷ 39 ∷ rest)

-- a byte that begins no text but a natural number's
abbrev pub IsOther : ℕ → Type 0
IsOther c = (c ≢ 63) × (c ≢ 45) × (c ≢ 116) × (c ≢ 102) × (c ≢ 39) × (c ≢ 99) × (c ≢ 35) × (c ≢ 91) × (c ≢ 40) × (c ≢ 123)

-- a digit's value
pub record StandsDigit (bytes : List ℕ) (at_ d : ℕ) : Type 0 where
  pub below_ten : d < 10
  pub stands : Stands bytes at_ (48 + d)

-- no digit can be added to a number: none follows, it has a leading zero, or it grows too great
abbrev pub IsFull : ℕ → ℕ → List ℕ → Type 0
IsFull greatest n rest = (d : ℕ) (more : List ℕ) → d < 10 → rest ≡ (48 + d) ∷ more → 0 < n → n * 10 + d ≤ greatest → ⊥

-- a digit is added to a number
pub record TakesDigit (greatest n : ℕ) (bytes : List ℕ) (at_ m : ℕ) : Type 0 where
  pub digit : ℕ
  pub stands : StandsDigit bytes at_ digit
  pub not_zero : 0 < n
  pub is : m ≡ n * 10 + digit
  pub fits : m ≤ greatest

-- the longest decimal number that does not pass the greatest, and the place after it
pub record IsNumber (greatest : ℕ) (bytes : List ℕ) (at_ n end_ : ℕ) : Type 0 where
  pub fits : n ≤ greatest
  pub goes : at_ < end_
  pub within : end_ ≤ length bytes
  pub is : drop at_ bytes ≡ decimal n ++ drop end_ bytes
  pub full : IsFull greatest n (drop end_ bytes)

-- ---- items with commas between them, before a bracket that closes

-- the items that follow one, and what stands behind the bracket
abbrev pub listed : {X : Type 0} → (X → List ℕ) → ℕ → List X → List ℕ → List ℕ
listed f close [] q = close ∷ q
listed f close (y ∷ ys) q = 44 ∷ (f y ++ listed f close ys q)

-- the byte behind an item
abbrev pub separator : ℕ → Bool → ℕ
separator close last = if last then close else 44

abbrev pub NoSeparator : ℕ → List ℕ → Type 0
NoSeparator close s = (last : Bool) (t : List ℕ) → ¬ (s ≡ separator close last ∷ t)

-- an item and its separator stand at a place, and no other item can stand there before text that no digit begins
pub record IsItem {X : Type 0} (f : X → List ℕ) (IsPart : X → Type 0) (close : ℕ) (bytes : List ℕ) (at_ : ℕ) (v : X) (next : ℕ) (last : Bool) : Type 0 where
  pub form : IsPart v
  pub goes : at_ < next
  pub within : next ≤ length bytes
  pub is : drop at_ bytes ≡ f v ++ separator close last ∷ drop next bytes
  pub only : (y : X) (t : List ℕ) → IsPart y → NoDigit t → drop at_ bytes ≡ f y ++ t → (v ≡ y) × (separator close last ∷ drop next bytes ≡ t)

-- no item stands here
abbrev pub NoItem : {X : Type 0} → (X → List ℕ) → (X → Type 0) → ℕ → List ℕ → Type 0
NoItem {X} f IsPart close s = (y : X) (ys : List X) (q : List ℕ) → IsPart y → ¬ (s ≡ f y ++ listed f close ys q)

-- items up to the bracket, one at least, stand at a place
pub record IsItems {X : Type 0} (f : X → List ℕ) (IsPart : X → Type 0) (close : ℕ) (bytes : List ℕ) (at_ : ℕ) (xs : List X) (end_ : ℕ) : Type 0 where
  pub form : AllByRecursion IsPart xs
  pub some : 0 < length xs
  pub goes : at_ < end_
  pub within : end_ ≤ length bytes
  pub is : drop at_ bytes ≡ join_with_byte 44 (map f xs) ++ close ∷ drop end_ bytes

abbrev pub NoItems : {X : Type 0} → (X → List ℕ) → (X → Type 0) → ℕ → List ℕ → Type 0
NoItems {X} f IsPart close s = (xs : List X) (q : List ℕ) → AllByRecursion IsPart xs → 0 < length xs → ¬ (s ≡ join_with_byte 44 (map f xs) ++ close ∷ q)

-- an ordinal that a set may have
abbrev pub IsOrdinal : ℕ → Type 0
IsOrdinal n = n < 256

-- what reading the ordinals of a set answers
abbrev pub AreOrdinals : List ℕ → ℕ → Result (Vec ℕ Global × ℕ) ValueError → Type 0
AreOrdinals bytes at_ (Ok r) = IsItems decimal IsOrdinal 93 bytes at_ r.0.items r.1
AreOrdinals bytes at_ (Err NoValue) = NoItems decimal IsOrdinal 93 (drop at_ bytes)
AreOrdinals bytes at_ (Err Memory) = Unit {0}

-- what reading an item of an array or a record answers, nested so deep at most
abbrev pub IsPartReading : ℕ → ℕ → List ℕ → ℕ → Result (Value × ℕ × Bool) ValueError → Type 0
IsPartReading depth close bytes at_ (Ok r) = IsItem text (HasForm depth) close bytes at_ r.0 r.1 r.2
IsPartReading depth close bytes at_ (Err NoValue) = NoItem text (HasForm depth) close (drop at_ bytes)
IsPartReading depth close bytes at_ (Err Memory) = Unit {0}

-- what reading the items up to the bracket answers
abbrev pub ArePartsRead : ℕ → ℕ → List ℕ → ℕ → Result (List Value × ℕ) ValueError → Type 0
ArePartsRead depth close bytes at_ (Ok r) = IsItems text (HasForm depth) close bytes at_ r.0 r.1
ArePartsRead depth close bytes at_ (Err NoValue) = NoItems text (HasForm depth) close (drop at_ bytes)
ArePartsRead depth close bytes at_ (Err Memory) = Unit {0}

-- a bracket that closes an array or a record
abbrev pub IsCloser : ℕ → Type 0
IsCloser close = (57 < close) ⊎ (close < 44)

-- a part with the place behind its separator, if there is one
abbrev pub separated_of : Value → ℕ → Option Bool → Result (Value × ℕ × Bool) ValueError
separated_of part end_ None = Err NoValue
separated_of part end_ (Some last) = Ok (part, end_ + 1, last)
