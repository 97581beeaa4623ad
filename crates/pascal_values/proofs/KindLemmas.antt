-- The kind of a value, which the first byte of its text tells.
use Rattle.std.proofs.Common.{◌≡◌, ℕ, suc, ◌+◌, ◌<◌, ◌^◌, ◌%◌, ◌==◌, nat_le, Bool, true, false, ◌&&◌, ◌||◌, if◌then◌else◌, List, [], ◌∷◌, ◌++◌, ap, subst, ◌∙◌, sym, refl, arith, pos, negsuc}
use Rattle.std.specs.Fmt.{decimal}
use Rattle.std.proofs.lemmas.Fmt.{decimal_by_steps}
use Rattle.std.proofs.lemmas.Bool.Decides.{nat_tests}
use Rattle.pascal_values.specs.declared.value.Value.{Value, Value-F, out-Value, roll-Value, roll-out-Value, map-Value}
use Rattle.std.specs.Prelude.{IsTrue}
use Rattle.pascal_values.specs.Integers.{is_integer}
use Rattle.pascal_values.specs.Texts.{text, text_step, char_text, IsFormed}
use Rattle.pascal_values.proofs.TextLemmas.{text_out}

abbrev pub kind : {X : Type 0} → Value-F X → ℕ
kind Value-F.Unset = 0
kind (Value-F.Int n) = 1
kind (Value-F.Bool b) = 2
kind (Value-F.Char c) = 3
kind (Value-F.Enum n) = 4
kind (Value-F.Set ns) = 5
kind (Value-F.Array vs) = 6
kind (Value-F.Fields vs) = 7

-- the kind of the values whose text begins with a byte
abbrev pub kind_at : ℕ → ℕ
kind_at c =
    if c == 63 then 0
    else (if c == 45 || (nat_le 48 c && nat_le c 57) then 1
    else (if c == 116 || c == 102 then 2
    else (if c == 39 || c == 99 then 3
    else (if c == 35 then 4
    else (if c == 91 then 5
    else (if c == 40 then 6
    else (if c == 123 then 7 else 8)))))))

digit_kind : (d : ℕ) → d < 10 → kind_at (48 + d) ≡ 1
digit_kind d lt = grind (arith, nat_tests)

abbrev FirstDigit : ℕ → List ℕ → Type 0
FirstDigit n ds = (d : ℕ) × (t : List ℕ) × (d < 10) × (ds ≡ (48 + d) ∷ t)

-- a decimal text begins with a digit
pub first_digit : (n : ℕ) → n < 2 ^ 64 → FirstDigit n (decimal n)
first_digit n n_in = decimal_by_steps FirstDigit (λ d lt. (d, [], lt, refl)) (λ m ds le before. (before.0, before.1 ++ (48 + m % 10) ∷ [], before.2, ap (λ t. t ++ (48 + m % 10) ∷ []) before.3)) n n_in

char_first : (c : ℕ) → (f : ℕ) × (t : List ℕ) × (char_text c ≡ f ∷ t) × (kind_at f ≡ 3)
char_first c = by_quote (c == 39) (nat_le 32 c && nat_le c 126)
  where
    by_quote : (quote plain : Bool) → (f : ℕ) × (t : List ℕ) × ((if quote then (39 ∷ 39 ∷ 39 ∷ 39 ∷ []) else (if plain then 39 ∷ c ∷ 39 ∷ [] else (99 ∷ 104 ∷ 114 ∷ 40 ∷ []) ++ decimal c ++ 41 ∷ [])) ≡ f ∷ t) × (kind_at f ≡ 3)
    by_quote true plain = (39, 39 ∷ 39 ∷ 39 ∷ [], refl, refl)
    by_quote false true = (39, c ∷ 39 ∷ [], refl, refl)
    by_quote false false = (99, 104 ∷ 114 ∷ 40 ∷ decimal c ++ 41 ∷ [], refl, refl)

-- an integer's decimal texts have 64 bits
pub integer_in : (k : ℕ) → IsTrue (is_integer (pos k)) → k < 2 ^ 63
integer_in k h = grind (arith, nat_tests)

pub negative_in : (k : ℕ) → IsTrue (is_integer (negsuc k)) → suc k < 2 ^ 63
negative_in k h = grind (arith, nat_tests)

-- the text of a layer
abbrev pub text_at : Value-F Value → List ℕ
text_at l = text_step (map-Value Value (List ℕ) text l)

abbrev First : ℕ → List ℕ → Type 0
First k t = (c : ℕ) (s r : List ℕ) → t ++ s ≡ c ∷ r → kind_at c ≡ k

first_from : (k : ℕ) (t : List ℕ) (f : ℕ) (u : List ℕ) → t ≡ f ∷ u → kind_at f ≡ k → First k t
first_from k t f u is at_ c s r e =
    let h : f ∷ (u ++ s) ≡ c ∷ r = sym (ap (λ x. x ++ s) is) ∙ e in
    let same : f ≡ c = cc in
    subst (λ x. kind_at x ≡ k) same at_

decimal_first : (n : ℕ) → n < 2 ^ 64 → First 1 (decimal n)
decimal_first n n_in = let d = first_digit n n_in in first_from 1 (decimal n) (48 + d.0) d.1 d.3 (digit_kind d.0 d.2)

-- the first byte of a text in the form
pub first_at : (IsPart : Value → Type 0) (l : Value-F Value) → IsFormed IsPart l → First (kind l) (text_at l)
first_at p Value-F.Unset h = first_from 0 _ 63 [] refl refl
first_at p (Value-F.Int (pos k)) h = decimal_first k (omega (arith, integer_in k h))
first_at p (Value-F.Int (negsuc k)) h = first_from 1 _ 45 (decimal (suc k)) refl refl
first_at p (Value-F.Bool true) h = first_from 2 _ 116 (114 ∷ 117 ∷ 101 ∷ []) refl refl
first_at p (Value-F.Bool false) h = first_from 2 _ 102 (97 ∷ 108 ∷ 115 ∷ 101 ∷ []) refl refl
first_at p (Value-F.Char c) h = let f = char_first c in first_from 3 _ f.0 f.1 f.2 f.3
first_at p (Value-F.Enum n) h = first_from 4 _ 35 (decimal n) refl refl
first_at p (Value-F.Set ns) h = first_from 5 _ 91 _ refl refl
first_at p (Value-F.Array vs) h = first_from 6 _ 40 _ refl refl
first_at p (Value-F.Fields vs) h = first_from 7 _ 123 _ refl refl

pub text_is : (v : Value) → text v ≡ text_at (out-Value v)
text_is v = text_out v

-- a value by its layer
pub from_out : (v w : Value) → out-Value v ≡ out-Value w → v ≡ w
from_out v w e = sym (roll-out-Value v) ∙ (ap roll-Value e ∙ roll-out-Value w)

long : (t : List ℕ) (f : ℕ) (u r : List ℕ) → t ≡ f ∷ u → t ++ r ≡ [] → ⊥
long t f u r is e = let h : f ∷ (u ++ r) ≡ [] = sym (ap (λ x. x ++ r) is) ∙ e in cc

-- no text is empty
pub no_nil : (IsPart : Value → Type 0) (l : Value-F Value) (r : List ℕ) → IsFormed IsPart l → text_at l ++ r ≡ [] → ⊥
no_nil p Value-F.Unset r h e = cc
no_nil p (Value-F.Int (pos k)) r h e = let d = first_digit k (omega (arith, integer_in k h)) in long (decimal k) (48 + d.0) d.1 r d.3 e
no_nil p (Value-F.Int (negsuc k)) r h e = cc
no_nil p (Value-F.Bool true) r h e = cc
no_nil p (Value-F.Bool false) r h e = cc
no_nil p (Value-F.Char c) r h e = let f = char_first c in long (char_text c) f.0 f.1 r f.2 e
no_nil p (Value-F.Enum n) r h e = cc
no_nil p (Value-F.Set ns) r h e = cc
no_nil p (Value-F.Array vs) r h e = cc
no_nil p (Value-F.Fields vs) r h e = cc
