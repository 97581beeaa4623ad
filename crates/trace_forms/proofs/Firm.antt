-- Types that are firm: the bounds of their ordinal types are integers, and of their host types, their enumerations have few values, and no record is empty. Those that nest at most 200 deep, and in which no array is empty, can be read.
use Rattle.std.proofs.Common.{◌≡◌, ◌∙◌, ℕ, zero, suc, ◌<◌, Bool, true, false, List, [], ◌∷◌, length, ℤ, pos, negsuc, Result, Ok, Err, Option, Some, None, refl, sym, ap, subst, arith, cond}
use Rattle.std.specs.Prelude.{◌^◌, ◌-◌, ◌≤ℤ◌, ◌-ℤ◌, nat_abs}
use Rattle.std.specs.List.{AllByRecursion}
use Rattle.std.proofs.lemmas.Bool.Decides.{nat_tests}
use Rattle.std.proofs.lemmas.Int.{ints}
use Rattle.pascal_values.specs.Integers.{is_between, is_integer, difference_of}
use Rattle.pascal_values.specs.declared.fault.Fault.TheVariants.{Overflow}
use Rattle.pascal_values.specs.declared.value.Value.{Value, Value-F, out-Value}
use Rattle.pascal_values.specs.declared.value.Value.TheVariants as value
use Rattle.estelle_tree.specs.declared.tree.type_expr.Sign.{Sign}
use Rattle.estelle_tree.specs.declared.tree.type_expr.Sign.TheVariants as sign
use Rattle.estelle_model.specs.Stops.{Stop}
use Rattle.estelle_model.specs.declared.denoter.Host.{Host}
use Rattle.estelle_model.specs.declared.denoter.Host.TheVariants as host
use Rattle.estelle_model.specs.declared.denoter.Denoter.{Denoter, out-Denoter}
use Rattle.estelle_model.specs.declared.denoter.Denoter.TheVariants as denoter
use Rattle.estelle_model.specs.declared.denoter.Denoter.TheOpen.{Denoter-F}
use Rattle.estelle_model.specs.declared.meaning.Meaning.{Meaning}
use Rattle.estelle_model.specs.declared.meaning.Meaning.TheVariants.{Constant, TypeName, Interaction}
use Rattle.estelle_model.specs.Types.{ordinal_of, ordinal_at, whole, least, greatest}
use Rattle.estelle_model.specs.Operators.{◌>>>◌, int_at, an_int, signed}
use Rattle.estelle_model.specs.Constants.{by_sign}
use Rattle.estelle_model.specs.Denoted.{bound_at}
use Rattle.type_rules.specs.declared.meanings.Meaning.{Meaning as RuleMeaning}
use Rattle.trace_forms.specs.Types.{IsOrdinalReadable, IsTypeFormed, NestsWithin, IsReadableType}
use Rattle.trace_forms.proofs.FilledTypes.{AreArraysFilled, FilledTo, HasFilledArrays}
use Rattle.trace_forms.proofs.Flat.{depth_of}
use Rattle.trace_forms.proofs.Nests.{IsNestLayer, NestsTo, Within}

-- ---- firm types

-- an enumeration has ordinals of 32 bits
abbrev pub IsSmall : Host → Type 0
IsSmall (host.Enumeration last) = last < 2 ^ 32
IsSmall _ = Unit {0}

-- the last ordinal of a type of characters or of an enumeration is one that its values can have
abbrev pub IsLast : Host → ℤ → Type 0
IsLast host.Integer n = Unit {0}
IsLast host.Boolean n = Unit {0}
IsLast host.Char n = nat_abs n < 256
IsLast (host.Enumeration last) n = nat_abs n < 2 ^ 32

abbrev pub IsFirmLayer : (Denoter → Type 0) → Denoter-F Denoter → Type 0
IsFirmLayer IsPart (Denoter-F.Ordinal h low high) = IsSmall h × (is_integer low ≡ true) × (is_integer high ≡ true) × IsLast h high
IsFirmLayer IsPart (Denoter-F.Set h low high) = Unit {0}
IsFirmLayer IsPart (Denoter-F.Array low high item) = IsPart item
IsFirmLayer IsPart (Denoter-F.Fields fields) = (0 < length fields) × AllByRecursion IsPart fields

-- so far down
abbrev pub FirmTo : ℕ → Denoter → Type 0
FirmTo zero t = Unit {0}
FirmTo (suc n) t = IsFirmLayer (FirmTo n) (out-Denoter t)

abbrev pub Firm : Denoter → Type 0
Firm t = (n : ℕ) → FirmTo n t

pub firm_ordinal : (h : Host) (low high : ℤ) → IsSmall h → is_integer low ≡ true → is_integer high ≡ true → IsLast h high → Firm (denoter.Ordinal h low high)
firm_ordinal h low high s a b l zero = tt
firm_ordinal h low high s a b l (suc n) = subst (IsFirmLayer (FirmTo n)) (sym (denoter.outs-Ordinal h low high)) (s, a, b, l)

pub firm_set : (h : Host) (low high : ℤ) → Firm (denoter.Set h low high)
firm_set h low high zero = tt
firm_set h low high (suc n) = subst (IsFirmLayer (FirmTo n)) (sym (denoter.outs-Set h low high)) tt

pub firm_array : (low high : ℤ) (item : Denoter) → Firm item → Firm (denoter.Array low high item)
firm_array low high item h zero = tt
firm_array low high item h (suc n) = subst (IsFirmLayer (FirmTo n)) (sym (denoter.outs-Array low high item)) (h n)

all_to : (n : ℕ) (ts : List Denoter) → AllByRecursion Firm ts → AllByRecursion (FirmTo n) ts
all_to n [] h = tt
all_to n (t ∷ ts) h = (h.0 n, all_to n ts h.1)

pub firm_fields : (ts : List Denoter) → 0 < length ts → AllByRecursion Firm ts → Firm (denoter.Fields ts)
firm_fields ts e h zero = tt
firm_fields ts e h (suc n) = subst (IsFirmLayer (FirmTo n)) (sym (denoter.outs-Fields ts)) (e, all_to n ts h)

-- ---- integers

pub natural_in : (n : ℕ) → n < 2 ^ 63 → is_integer (pos n) ≡ true
natural_in n h = grind (arith, nat_tests)

pub number_in : (n : ℤ) → (pos 0 ≤ℤ n) × (n ≤ℤ pos (2 ^ 63 - 1)) → is_integer n ≡ true
number_in (pos n) h = let a = h.1 in natural_in n (omega (arith, ints, a))
number_in (negsuc n) h = let a = h.0 in absurd (omega (arith, ints, a))

pub whole_firm : (h : Host) → IsSmall h → Firm (whole h)
whole_firm host.Integer s = firm_ordinal host.Integer (least host.Integer) (greatest host.Integer) s refl refl tt
whole_firm host.Boolean s = firm_ordinal host.Boolean (least host.Boolean) (greatest host.Boolean) s refl refl tt
whole_firm host.Char s = firm_ordinal host.Char (least host.Char) (greatest host.Char) s refl refl (omega arith)
whole_firm (host.Enumeration last) s = firm_ordinal (host.Enumeration last) (pos 0) (pos last) s refl (natural_in last (omega (arith, s))) s

-- ---- constants

abbrev pub BoundFirm : Value → Type 0
BoundFirm v = is_integer (bound_at (ordinal_of v)) ≡ true

abbrev pub ResultFirm : Result Value Stop → Type 0
ResultFirm (Ok v) = BoundFirm v
ResultFirm (Err e) = Unit {0}

pub int_firm : (n : ℤ) → is_integer n ≡ true → BoundFirm (value.Int n)
int_firm n h = ap (λ (l : Value-F Value). is_integer (bound_at (ordinal_at l))) (value.outs-Int n) ∙ h

pub bool_firm : (b : Bool) → BoundFirm (value.Bool b)
bool_firm true = ap (λ (l : Value-F Value). is_integer (bound_at (ordinal_at l))) (value.outs-Bool true)
bool_firm false = ap (λ (l : Value-F Value). is_integer (bound_at (ordinal_at l))) (value.outs-Bool false)

pub char_firm : (n : ℕ) → n < 2 ^ 63 → BoundFirm (value.Char n)
char_firm n h = ap (λ (l : Value-F Value). is_integer (bound_at (ordinal_at l))) (value.outs-Char n) ∙ natural_in n h

pub enum_firm : (n : ℕ) → n < 2 ^ 63 → BoundFirm (value.Enum n)
enum_firm n h = ap (λ (l : Value-F Value). is_integer (bound_at (ordinal_at l))) (value.outs-Enum n) ∙ natural_in n h

plus_firm : (l : Value-F Value) → is_integer (bound_at (ordinal_at l)) ≡ true → ResultFirm (int_at l >>> λ n. Ok (value.Int n))
plus_firm (Value-F.Int n) h = int_firm n h
plus_firm _ h = tt

minus_firm : (l : Value-F Value) → ResultFirm (int_at l >>> λ n. an_int (difference_of (pos 0) n))
minus_firm (Value-F.Int n) = by (is_integer (pos 0 -ℤ n)) refl
  where
    by : (b : Bool) → is_integer (pos 0 -ℤ n) ≡ b → ResultFirm (an_int (cond b (Ok (pos 0 -ℤ n)) (Err Overflow)))
    by true e = int_firm (pos 0 -ℤ n) e
    by false e = tt
minus_firm _ = tt

pub sign_firm : (s : Option Sign) (v : Value) → BoundFirm v → ResultFirm (by_sign s v)
unfolding signed
sign_firm None v h = h
sign_firm (Some sign.Plus) v h = plus_firm (out-Value v) h
sign_firm (Some sign.Minus) v h = minus_firm (out-Value v)

pub bound_firm : (r : Result Value Stop) → ResultFirm r → is_integer (bound_at (r >>> ordinal_of)) ≡ true
bound_firm (Ok v) h = h
bound_firm (Err e) h = refl

-- ---- constants of a host

-- a character, by its code
abbrev pub IsCharacter : Value-F Value → Type 0
IsCharacter (Value-F.Char n) = n < 256
IsCharacter _ = ⊥

-- a value of an enumeration, by its ordinal
abbrev pub IsListed : Value-F Value → Type 0
IsListed (Value-F.Enum n) = n < 2 ^ 32
IsListed _ = ⊥

-- a constant of type char is a character, and one of an enumeration is one of few
abbrev pub IsOfHost : Host → Value-F Value → Type 0
IsOfHost host.Integer l = Unit {0}
IsOfHost host.Boolean l = Unit {0}
IsOfHost host.Char l = IsCharacter l
IsOfHost (host.Enumeration last) l = IsListed l

-- what is no value is of every type
abbrev pub ResultOf : Host → Result Value Stop → Type 0
ResultOf h (Ok v) = IsOfHost h (out-Value v)
ResultOf h (Err e) = Unit {0}

-- a character is of type char
pub char_of : (n : ℕ) → n < 256 → IsCharacter (out-Value (value.Char n))
char_of n h = subst IsCharacter (sym (value.outs-Char n)) h

-- a value of an enumeration is of its type
pub enum_of : (n : ℕ) → n < 2 ^ 32 → IsListed (out-Value (value.Enum n))
enum_of n h = subst IsListed (sym (value.outs-Enum n)) h

-- of integers nothing is asked
pub any_integer : (r : Result Value Stop) → ResultOf host.Integer r
any_integer (Ok v) = tt
any_integer (Err e) = tt

-- nor of truth values
any_boolean : (r : Result Value Stop) → ResultOf host.Boolean r
any_boolean (Ok v) = tt
any_boolean (Err e) = tt

-- what is made of an integer alone is of no host of characters and of no enumeration
from_int : (h : Host) (f : ℤ → Result Value Stop) (l : Value-F Value) → IsOfHost h l → ResultOf h (int_at l >>> f)
from_int host.Integer f l o = any_integer (int_at l >>> f)
from_int host.Boolean f l o = any_boolean (int_at l >>> f)
from_int host.Char f (Value-F.Char n) o = tt
from_int host.Char f l o = absurd o
from_int (host.Enumeration last) f (Value-F.Enum n) o = tt
from_int (host.Enumeration last) f l o = absurd o

-- a plus sign keeps an integer, and gives nothing of another value
plus_of : (h : Host) (l : Value-F Value) → IsOfHost h l → ResultOf h (int_at l >>> λ n. Ok (value.Int n))
plus_of host.Integer l o = any_integer (int_at l >>> λ n. Ok (value.Int n))
plus_of host.Boolean l o = any_boolean (int_at l >>> λ n. Ok (value.Int n))
plus_of host.Char (Value-F.Char n) o = tt
plus_of host.Char l o = absurd o
plus_of (host.Enumeration last) (Value-F.Enum n) o = tt
plus_of (host.Enumeration last) l o = absurd o

-- a sign changes no host
pub sign_of : (h : Host) (s : Option Sign) (v : Value) → IsOfHost h (out-Value v) → ResultOf h (by_sign s v)
unfolding signed
sign_of h None v o = o
sign_of h (Some sign.Plus) v o = plus_of h (out-Value v) o
sign_of h (Some sign.Minus) v o = from_int h (λ n. an_int (difference_of (pos 0) n)) (out-Value v) o

-- the ordinal of a character
character_last : (l : Value-F Value) → IsCharacter l → nat_abs (bound_at (ordinal_at l)) < 256
character_last (Value-F.Char n) o = o
character_last l o = absurd o

-- the ordinal of a value of an enumeration
listed_last : (l : Value-F Value) → IsListed l → nat_abs (bound_at (ordinal_at l)) < 2 ^ 32
listed_last (Value-F.Enum n) o = o
listed_last l o = absurd o

-- a greater bound of the host type is a last ordinal
pub last_of : (h : Host) (r : Result Value Stop) → ResultOf h r → IsLast h (bound_at (r >>> ordinal_of))
last_of host.Integer r o = tt
last_of host.Boolean r o = tt
last_of host.Char (Ok v) o = character_last (out-Value v) o
last_of host.Char (Err e) o = omega arith
last_of (host.Enumeration last) (Ok v) o = listed_last (out-Value v) o
last_of (host.Enumeration last) (Err e) o = omega arith

-- ---- meanings

-- a type that nests no deeper than 200
abbrev pub Shallow : Denoter → Type 0
Shallow t = Firm t × NestsTo 200 t

-- a meaning is firm, and types nest no deeper than the rules know
abbrev pub MeaningFirm : RuleMeaning → Meaning → Type 0
MeaningFirm r (Constant v h) = IsSmall h × BoundFirm v × IsOfHost h (out-Value v)
MeaningFirm r (TypeName t) = Shallow t × Within (depth_of r) t
MeaningFirm r (Interaction kind) = AllByRecursion Shallow kind.parameters
MeaningFirm r _ = Unit {0}

-- ---- firm types that nest no deeper, and whose arrays are not empty, can be read

low_in : (low high n : ℤ) → is_integer low ≡ true → is_integer high ≡ true → is_between low high n ≡ true → is_integer n ≡ true
low_in low high n a b e = grind (arith, ints, nat_tests)

ordinal_readable : (h : Host) (low high : ℤ) → IsSmall h → is_integer low ≡ true → is_integer high ≡ true → IsLast h high → IsOrdinalReadable h low high
ordinal_readable host.Integer low high s a b u = λ n e. low_in low high n a b e
ordinal_readable host.Boolean low high s a b u = tt
ordinal_readable host.Char low high s a b u = u
ordinal_readable (host.Enumeration last) low high s a b u = u

module _ (P N F R : Denoter → Type 0) (each : (t : Denoter) → P t → N t → F t → R t) where
  all_parts : (ts : List Denoter) → AllByRecursion P ts → AllByRecursion N ts → AllByRecursion F ts → AllByRecursion R ts
  all_parts [] h n f = tt
  all_parts (t ∷ ts) h n f = (each t h.0 n.0 f.0, all_parts ts h.1 n.1 f.1)

  formed : (l : Denoter-F Denoter) → IsFirmLayer P l → IsNestLayer N l → AreArraysFilled F l → IsTypeFormed R l
  formed (Denoter-F.Ordinal h low high) p n f = ordinal_readable h low high p.0 p.1 p.2 p.3
  formed (Denoter-F.Set h low high) p n f = tt
  formed (Denoter-F.Array low high item) p n f = (f.0, each item p n f.1)
  formed (Denoter-F.Fields fields) p n f = (p.0, all_parts fields p.1 n f)

nests : (depth : ℕ) (t : Denoter) → FirmTo (suc depth) t → NestsTo depth t → FilledTo (suc depth) t → NestsWithin depth t
nests zero t p n f = formed (FirmTo zero) (λ _. ⊥) (FilledTo zero) (λ _. ⊥) (λ t p n f. n) (out-Denoter t) p n f
nests (suc depth) t p n f = formed (FirmTo (suc depth)) (NestsTo depth) (FilledTo (suc depth)) (NestsWithin depth) (nests depth) (out-Denoter t) p n f

pub types_readable : (ts : List Denoter) → AllByRecursion Shallow ts → AllByRecursion HasFilledArrays ts → AllByRecursion IsReadableType ts
types_readable [] h f = tt
types_readable (t ∷ ts) h f = (nests 200 t (h.0.0 201) h.0.1 (f.0 201), types_readable ts h.1 f.1)
