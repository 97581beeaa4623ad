-- The text of a value.
use Rattle.std.specs.Prelude.{◌≡◌, ◌⊎◌, ℕ, zero, suc, ◌<◌, ◌^◌, ◌==◌, nat_le, Bool, IsTrue, ◌&&◌, if◌then◌else◌, List, [], ◌∷◌, ◌++◌, length, take, map, codes}
use Rattle.std.specs.List.{AllByRecursion, join_with_byte}
use Rattle.std.specs.Fmt.{decimal, signed_decimal}
use Rattle.pascal_values.specs.declared.value.Value.{Value, out-Value}
use Rattle.pascal_values.specs.declared.value.Value.TheFolds.{fold-Value}
use Rattle.pascal_values.specs.declared.value.Value.TheOpen.{Value-F}
use Rattle.pascal_values.specs.Integers.{is_integer}
use Rattle.pascal_values.specs.Sets.{IsSet}

-- what is written begins with what was written before
abbrev pub Extends : List ℕ → List ℕ → Type 0
Extends old new = take (length old) new ≡ old

-- the comma before each text but the first
abbrev pub comma_before : ℕ → List ℕ
comma_before zero = []
comma_before (suc place) = 44 ∷ []

-- texts with a comma between each two, in brackets
abbrev pub enclosed : ℕ → List (List ℕ) → ℕ → List ℕ
enclosed open_with texts close_with = open_with ∷ join_with_byte 44 texts ++ close_with ∷ []

-- a character that is printed as it is
abbrev pub is_printable : ℕ → Bool
is_printable c = nat_le 32 c && nat_le c 126

-- a character in quotes: the quote is written twice, and one that cannot be printed by its code
abbrev pub char_text : ℕ → List ℕ
char_text c =
    if c == 39 then codes "''''"
    else (if is_printable c then 39 ∷ c ∷ 39 ∷ []
    else codes "chr(" ++ decimal c ++ codes ")")

abbrev pub text_step : Value-F (List ℕ) → List ℕ
text_step Value-F.Unset = codes "?"
text_step (Value-F.Int n) = signed_decimal n
text_step (Value-F.Bool b) = if b then codes "true" else codes "false"
text_step (Value-F.Char c) = char_text c
text_step (Value-F.Enum n) = 35 ∷ decimal n
text_step (Value-F.Set ns) = enclosed 91 (map decimal ns) 93
text_step (Value-F.Array texts) = enclosed 40 texts 41
text_step (Value-F.Fields texts) = enclosed 123 texts 125

-- the text of a value, in which the texts of its parts stand
unfoldable pub text : Value → List ℕ
text = fold-Value (List ℕ) text_step

-- no digit stands first
abbrev pub NoDigit : List ℕ → Type 0
NoDigit [] = Unit {0}
NoDigit (c ∷ cs) = (c < 48) ⊎ (57 < c)

-- a value is in the form that a text has, where `IsPart` says it of its parts
abbrev pub IsFormed : (Value → Type 0) → Value-F Value → Type 0
IsFormed IsPart Value-F.Unset = Unit {0}
IsFormed IsPart (Value-F.Int n) = IsTrue (is_integer n)
IsFormed IsPart (Value-F.Bool b) = Unit {0}
IsFormed IsPart (Value-F.Char c) = c < 256
IsFormed IsPart (Value-F.Enum n) = n < 2 ^ 32
IsFormed IsPart (Value-F.Set ns) = IsSet ns
IsFormed IsPart (Value-F.Array parts) = (0 < length parts) × AllByRecursion IsPart parts
IsFormed IsPart (Value-F.Fields parts) = (0 < length parts) × AllByRecursion IsPart parts

-- a value in which arrays and records, none of them empty, nest at most so deep
abbrev pub HasForm : ℕ → Value → Type 0
HasForm zero v = IsFormed (λ _. ⊥) (out-Value v)
HasForm (suc depth) v = IsFormed (HasForm depth) (out-Value v)

-- a value that can be read: arrays and records nest at most 200 deep
abbrev pub IsReadable : Value → Type 0
IsReadable v = HasForm 200 v
