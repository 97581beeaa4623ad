-- Values of ordinal types by their ordinals: how they compare, which come next, and what may be assigned.
use Rattle.std.proofs.Common.{◌≡◌, ◌∙◌, refl, sym, ap, ap₂, ℕ, zero, suc, ◌^◌, ◌-◌, Bool, true, false, cond, ℤ, pos, negsuc, ◌+ℤ◌, ◌-ℤ◌, Result, Ok, Err, Some, arith}
use Rattle.std.proofs.lemmas.Int.{ints}
use Rattle.std.proofs.lemmas.Bool.Decides.{nat_tests}
use Rattle.std.specs.Prelude.{◌&&◌, ◌==◌, nat_abs, nat_eq, nat_le, nat_lt, int_lt, int_le}
use Rattle.std.specs.Ordering.{is_lt, is_le, is_gt, is_ge, nat_cmp, int_cmp, bool_cmp}
use Rattle.std.specs.declared.cmp.Ordering.{Ordering}
use Rattle.std.specs.declared.cmp.Ordering.TheVariants.{Less, Equal, Greater}
use Rattle.pascal_values.specs.declared.fault.Fault.{Fault}
use Rattle.pascal_values.specs.declared.fault.Fault.TheVariants.{Unset, Range, Overflow}
use Rattle.pascal_values.specs.declared.value.Value.{Value, out-Value}
use Rattle.pascal_values.specs.declared.value.Value.TheVariants as pascal
use Rattle.pascal_values.specs.declared.value.Value.TheVariants.{outs-Int, outs-Bool, outs-Char, outs-Enum}
use Rattle.pascal_values.specs.declared.value.Value.TheOpen.{Value-F}
use Rattle.pascal_values.specs.declared.value.Shape.TheVariants as shape
use Rattle.pascal_values.specs.declared.value.Shape.TheVariants.{outs-Int as outs-IntShape, outs-Bool as outs-BoolShape, outs-Char as outs-CharShape, outs-Enum as outs-EnumShape}
use Rattle.pascal_values.specs.declared.value.Shape.TheOpen.{Shape-F}
use Rattle.pascal_values.specs.declared.value.Relation.{Relation}
use Rattle.pascal_values.specs.Integers.{is_between}
use Rattle.pascal_values.specs.Order.{holds, compares, compares_at}
use Rattle.pascal_values.specs.Shapes.{bool_ordinal, is_unset_at, within_at, is_within}
use Rattle.pascal_values.proofs.KindLemmas.{from_out}
use Rattle.pascal_values.proofs.ShapeLemmas.{within_out}
use Rattle.estelle_tree.specs.declared.tree.statement.Direction.{Direction}
use Rattle.estelle_tree.specs.declared.tree.statement.Direction.TheVariants as direction
use Rattle.estelle_model.specs.declared.denoter.Host.{Host}
use Rattle.estelle_model.specs.declared.denoter.Host.TheVariants as host
use Rattle.estelle_model.specs.Loops.{next_of, comes_to}
use Rattle.estelle_model.specs.Places.{set_value}
use Rattle.estelle_model.specs.Stops.{Stop, Faults, stopping}
use Rattle.estelle_model.specs.Operators.{◌>>>◌, stepped, host_told, told_at, succeeding, preceding}
use Rattle.estelle_model.specs.Types.{least, greatest, ordinal_at, ordinal_of, value_of, value_in, shape_of, ordinal_shape, whole, assignable}
use Rattle.estelle_model.proofs.Fitting.{shape_ordinal, assignable_ordinal}
use Rattle.body_compiler_pieces.specs.StatementCode.{is_word}

-- ---- orders

pub above : (n m : ℤ) → int_lt m n ≡ true → int_le n m ≡ false
above n m h = grind (arith, ints)

pub not_above : (n m : ℤ) → int_lt m n ≡ false → int_le n m ≡ true
not_above n m h = grind (arith, ints)

less_at_most : (n m : ℤ) → int_lt n m ≡ true → int_le n m ≡ true
less_at_most n m h = grind (arith, ints)

pub at_most_is : (n m : ℤ) → is_le (int_cmp n m) ≡ int_le n m
at_most_is n m = by (int_lt n m) refl (int_lt m n) refl
  where
    by : (s : Bool) → int_lt n m ≡ s → (t : Bool) → int_lt m n ≡ t → is_le (cond s Less (cond t Greater Equal)) ≡ int_le n m
    by true e t f = sym (less_at_most n m e)
    by false e true f = sym (above n m f)
    by false e false f = sym (not_above n m f)

pub at_least_is : (n m : ℤ) → is_ge (int_cmp n m) ≡ int_le m n
at_least_is n m = by (int_lt n m) refl (int_lt m n) refl
  where
    by : (s : Bool) → int_lt n m ≡ s → (t : Bool) → int_lt m n ≡ t → is_ge (cond s Less (cond t Greater Equal)) ≡ int_le m n
    by true e t f = sym (above m n e)
    by false e true f = sym (less_at_most m n f)
    by false e false f = sym (not_above m n e)

-- the numbers from one to another in a direction, so many of them behind the first
abbrev pub Counts : Direction → ℤ → ℕ → ℤ → Type 0
Counts direction.To n k last = last ≡ n +ℤ pos k
Counts direction.Downto n k last = n ≡ last +ℤ pos k

abbrev pub goes_on_at : Direction → Ordering → Bool
goes_on_at direction.To o = is_lt o
goes_on_at direction.Downto o = is_gt o

abbrev pub begins_at : Direction → Ordering → Bool
begins_at direction.To o = is_le o
begins_at direction.Downto o = is_ge o

pub begins_is : (dir : Direction) (n m : ℤ) → begins_at dir (int_cmp n m) ≡ comes_to dir n m
begins_is direction.To n m = at_most_is n m
begins_is direction.Downto n m = at_least_is n m

not_less : (n : ℤ) → int_lt n n ≡ false
not_less n = grind (arith, ints)

no_more_up : (n m : ℤ) → m ≡ n +ℤ pos 0 → int_lt n m ≡ false
no_more_up n m h = grind (arith, ints)

more_up : (n m : ℤ) (k : ℕ) → m ≡ n +ℤ pos (suc k) → int_lt n m ≡ true
more_up n m k h = grind (arith, ints)

more_up_not : (n m : ℤ) (k : ℕ) → m ≡ n +ℤ pos (suc k) → int_lt m n ≡ false
more_up_not n m k h = grind (arith, ints)

no_more_up_not : (n m : ℤ) → m ≡ n +ℤ pos 0 → int_lt m n ≡ false
no_more_up_not n m h = grind (arith, ints)

pub ends_there : (dir : Direction) (n last : ℤ) → Counts dir n 0 last → goes_on_at dir (int_cmp n last) ≡ false
ends_there direction.To n last h = ap₂ (λ s t. is_lt (cond s Less (cond t Greater Equal))) (no_more_up n last h) (no_more_up_not n last h)
ends_there direction.Downto n last h = ap₂ (λ s t. is_gt (cond s Less (cond t Greater Equal))) (no_more_up_not last n h) (no_more_up last n h)

pub goes_there : (dir : Direction) (n last : ℤ) (k : ℕ) → Counts dir n (suc k) last → goes_on_at dir (int_cmp n last) ≡ true
goes_there direction.To n last k h = ap (λ s. is_lt (cond s Less (cond (int_lt last n) Greater Equal))) (more_up n last k h)
goes_there direction.Downto n last k h = ap₂ (λ s t. is_gt (cond s Less (cond t Greater Equal))) (more_up_not last n k h) (more_up last n k h)

next_up : (n m : ℤ) (k : ℕ) → m ≡ n +ℤ pos (suc k) → m ≡ (n +ℤ pos 1) +ℤ pos k
next_up n m k h = omega (arith, ints, h)

next_down : (n m : ℤ) (k : ℕ) → n ≡ m +ℤ pos (suc k) → n -ℤ pos 1 ≡ m +ℤ pos k
next_down n m k h = omega (arith, ints, h)

pub counts_next : (dir : Direction) (n last : ℤ) (k : ℕ) → Counts dir n (suc k) last → Counts dir (next_of dir n) k last
counts_next direction.To n last k h = next_up n last k h
counts_next direction.Downto n last k h = next_down n last k h

apart : (n m d : ℤ) → int_le n m ≡ true → m -ℤ n ≡ d → m ≡ n +ℤ pos (nat_abs d)
apart n m (pos k) h e = omega (arith, ints, e)
apart n m (negsuc k) h e = grind (arith, ints)

apart_down : (n m d : ℤ) → int_le m n ≡ true → m -ℤ n ≡ d → n ≡ m +ℤ pos (nat_abs d)
apart_down n m (pos k) h e = grind (arith, ints)
apart_down n m (negsuc k) h e = omega (arith, ints, e)

pub counts_first : (dir : Direction) (n last : ℤ) → comes_to dir n last ≡ true → Counts dir n (nat_abs (last -ℤ n)) last
counts_first direction.To n last h = apart n last (last -ℤ n) h refl
counts_first direction.Downto n last h = apart_down n last (last -ℤ n) h refl

-- ---- values of a host type

-- it has this ordinal
abbrev pub IsIn : Host → ℤ → Type 0
IsIn h n = (int_le (least h) n ≡ true) × (int_le n (greatest h) ≡ true)

between_next : (low high n m : ℤ) (k : ℕ) → int_le low n ≡ true → int_le m high ≡ true → m ≡ n +ℤ pos (suc k) → (int_le low (n +ℤ pos 1) ≡ true) × (int_le (n +ℤ pos 1) high ≡ true)
between_next low high n m k a b h = (grind (arith, ints), grind (arith, ints))

between_before : (low high n m : ℤ) (k : ℕ) → int_le n high ≡ true → int_le low m ≡ true → n ≡ m +ℤ pos (suc k) → (int_le low (n -ℤ pos 1) ≡ true) × (int_le (n -ℤ pos 1) high ≡ true)
between_before low high n m k a b h = (grind (arith, ints), grind (arith, ints))

pub next_in : (h : Host) (dir : Direction) (n last : ℤ) (k : ℕ) → IsIn h n → IsIn h last → Counts dir n (suc k) last → IsIn h (next_of dir n)
next_in h direction.To n last k a b e = between_next (least h) (greatest h) n last k a.0 b.1 e
next_in h direction.Downto n last k a b e = between_before (least h) (greatest h) n last k a.1 b.0 e

pub value_there : (h : Host) (n : ℤ) → IsIn h n → value_in h n ≡ Ok (value_of h n)
value_there h n a = ap₂ (λ s t. cond (s && t) (Ok (value_of h n)) (Err (Faults Range))) a.0 a.1

pub value_set : (h : Host) (n : ℤ) → set_value (Some (value_of h n)) ≡ Ok (value_of h n)
value_set host.Integer n = ap (λ (l : Value-F Value). cond (is_unset_at l) (Err (Faults Unset)) (Ok (pascal.Int n))) (outs-Int n)
value_set host.Boolean n = ap (λ (l : Value-F Value). cond (is_unset_at l) (Err (Faults Unset)) (Ok (pascal.Bool (nat_eq (nat_abs n) 1)))) (outs-Bool (nat_eq (nat_abs n) 1))
value_set host.Char n = ap (λ (l : Value-F Value). cond (is_unset_at l) (Err (Faults Unset)) (Ok (pascal.Char (nat_abs n)))) (outs-Char (nat_abs n))
value_set (host.Enumeration last) n = ap (λ (l : Value-F Value). cond (is_unset_at l) (Err (Faults Unset)) (Ok (pascal.Enum (nat_abs n)))) (outs-Enum (nat_abs n))

-- ---- what may be assigned

abbrev layer : Host → ℤ → ℤ → Shape-F (Value → Bool)
layer host.Integer low high = Shape-F.Int low high
layer host.Boolean low high = Shape-F.Bool (nat_abs low) (nat_abs high)
layer host.Char low high = Shape-F.Char (nat_abs low) (nat_abs high)
layer (host.Enumeration last) low high = Shape-F.Enum (nat_abs low) (nat_abs high)

within_layer : (h : Host) (low high : ℤ) (v : Value) → is_within (ordinal_shape h low high) v ≡ within_at (layer h low high) (out-Value v)
within_layer host.Integer low high v = within_out (shape.Int low high) v ∙ simp outs-IntShape
within_layer host.Boolean low high v = within_out (shape.Bool (nat_abs low) (nat_abs high)) v ∙ simp outs-BoolShape
within_layer host.Char low high v = within_out (shape.Char (nat_abs low) (nat_abs high)) v ∙ simp outs-CharShape
within_layer (host.Enumeration last) low high v = within_out (shape.Enum (nat_abs low) (nat_abs high)) v ∙ simp outs-EnumShape

abbrev passes : Host → Value-F Value → Result (Unit {0}) Fault
passes h l = cond (is_unset_at l) (Err Unset) (cond (within_at (layer h (least h) (greatest h)) l) (Ok (tt {0})) (Err Range))

assignable_is : (h : Host) (v : Value) → assignable (shape_of (whole h)) v ≡ passes h (out-Value v)
assignable_is h v = ap (λ s. assignable s v) (shape_ordinal h (least h) (greatest h)) ∙ assignable_ordinal h (least h) (greatest h) v
    ∙ ap (λ b. cond (is_unset_at (out-Value v)) (Err Unset) (cond b (Ok (tt {0})) (Err Range))) (within_layer h (least h) (greatest h) v)

-- an ordinal value of a type is the one with its ordinal
pub record IsBound (h : Host) (v : Value) : Type 0 where
  pub ordinal : ℤ
  pub of : ordinal_of v ≡ Ok ordinal
  pub is : v ≡ value_of h ordinal
  pub there : IsIn h ordinal

test_holds : (b : Bool) → stopping (cond b (Ok (tt {0})) (Err Range)) ≡ Ok (tt {0}) → b ≡ true
test_holds true e = refl
test_holds false e = absurd (cc)

left_holds : (a b : Bool) → (a && b) ≡ true → a ≡ true
left_holds true b h = refl
left_holds false b h = absurd (cc)

right_holds : (a b : Bool) → (a && b) ≡ true → b ≡ true
right_holds true b h = h
right_holds false b h = absurd (cc)

at_most_last : (n last : ℕ) → nat_le n last ≡ true → int_le (pos n) (pos last) ≡ true
at_most_last n last h = grind (arith, ints, nat_tests)

from_nothing : (n : ℕ) → int_le (pos 0) (pos n) ≡ true
from_nothing n = grind (arith, ints)

pub bound_is : (h : Host) (v : Value) → stopping (assignable (shape_of (whole h)) v) ≡ Ok (tt {0}) → IsBound h v
bound_is h v e = by h (out-Value v) refl (sym (ap stopping (assignable_is h v)) ∙ e)
  where
    by : (h : Host) (l : Value-F Value) → out-Value v ≡ l → stopping (passes h l) ≡ Ok (tt {0}) → IsBound h v
    by host.Integer (Value-F.Int n) is f = let t : is_between (least host.Integer) (greatest host.Integer) n ≡ true = test_holds (is_between (least host.Integer) (greatest host.Integer) n) f in
        record { ordinal = n; of = ap ordinal_at is; is = from_out v (pascal.Int n) (is ∙ sym (outs-Int n)); there = (left_holds (int_le (least host.Integer) n) (int_le n (greatest host.Integer)) t, right_holds (int_le (least host.Integer) n) (int_le n (greatest host.Integer)) t) }
    by host.Boolean (Value-F.Bool true) is f = record { ordinal = pos 1; of = ap ordinal_at is; is = from_out v (pascal.Bool true) (is ∙ sym (outs-Bool true)); there = (refl, refl) }
    by host.Boolean (Value-F.Bool false) is f = record { ordinal = pos 0; of = ap ordinal_at is; is = from_out v (pascal.Bool false) (is ∙ sym (outs-Bool false)); there = (refl, refl) }
    by host.Char (Value-F.Char n) is f = record { ordinal = pos n; of = ap ordinal_at is; is = from_out v (pascal.Char n) (is ∙ sym (outs-Char n)); there = (from_nothing n, at_most_last n 255 (right_holds (nat_le 0 n) (nat_le n 255) (test_holds (nat_le 0 n && nat_le n 255) f))) }
    by (host.Enumeration last) (Value-F.Enum n) is f = record { ordinal = pos n; of = ap ordinal_at is; is = from_out v (pascal.Enum n) (is ∙ sym (outs-Enum n)); there = (from_nothing n, at_most_last n last (right_holds (nat_le 0 n) (nat_le n last) (test_holds (nat_le 0 n && nat_le n last) f))) }
    by _ _ is f = absurd (cc)

-- ---- numbers of a type that begins with zero

natural : (n : ℤ) → int_le (pos 0) n ≡ true → n ≡ pos (nat_abs n)
natural (pos n) h = refl
natural (negsuc n) h = absurd (let no : false ≡ true = h in cc)

zero_or_one : (n : ℤ) → int_le (pos 0) n ≡ true → int_le n (pos 1) ≡ true → n ≡ pos (bool_ordinal (nat_eq (nat_abs n) 1))
zero_or_one (pos zero) a b = refl
zero_or_one (pos (suc zero)) a b = refl
zero_or_one (pos (suc (suc n))) a b = absurd (let no : int_le (pos (suc (suc n))) (pos 1) ≡ false = grind (arith, ints) in cc)
zero_or_one (negsuc n) a b = absurd (let no : false ≡ true = a in cc)

small : (n : ℤ) (last : ℕ) → int_le (pos 0) n ≡ true → int_le n (pos last) ≡ true → (nat_le 0 (nat_abs n) && nat_le (nat_abs n) last) ≡ true
small (pos n) last a b = grind (arith, ints, nat_tests)
small (negsuc n) last a b = absurd (let no : false ≡ true = a in cc)

pub value_ordinal : (h : Host) (n : ℤ) → IsIn h n → ordinal_of (value_of h n) ≡ Ok n
value_ordinal host.Integer n a = ap ordinal_at (outs-Int n)
value_ordinal host.Boolean n a = ap ordinal_at (outs-Bool (nat_eq (nat_abs n) 1)) ∙ ap Ok (sym (zero_or_one n a.0 a.1))
value_ordinal host.Char n a = ap ordinal_at (outs-Char (nat_abs n)) ∙ ap Ok (sym (natural n a.0))
value_ordinal (host.Enumeration last) n a = ap ordinal_at (outs-Enum (nat_abs n)) ∙ ap Ok (sym (natural n a.0))

pub value_fits : (h : Host) (n : ℤ) → IsIn h n → assignable (shape_of (whole h)) (value_of h n) ≡ Ok (tt {0})
value_fits h n a = assignable_is h (value_of h n) ∙ by h a
  where
    bool_fits : (b : Bool) → passes host.Boolean (Value-F.Bool b) ≡ Ok (tt {0})
    bool_fits true = refl
    bool_fits false = refl

    by : (h : Host) → IsIn h n → passes h (out-Value (value_of h n)) ≡ Ok (tt {0})
    by host.Integer a = ap (passes host.Integer) (outs-Int n) ∙ ap₂ (λ s t. cond (s && t) (Ok (tt {0})) (Err Range)) a.0 a.1
    by host.Boolean a = ap (passes host.Boolean) (outs-Bool (nat_eq (nat_abs n) 1)) ∙ bool_fits (nat_eq (nat_abs n) 1)
    by host.Char a = ap (passes host.Char) (outs-Char (nat_abs n)) ∙ ap (λ b. cond b (Ok (tt {0})) (Err Range)) (small n 255 a.0 a.1)
    by (host.Enumeration last) a = ap (passes (host.Enumeration last)) (outs-Enum (nat_abs n)) ∙ ap (λ b. cond b (Ok (tt {0})) (Err Range)) (small n last a.0 a.1)

-- ---- the next one

abbrev told : Host → Host
told (host.Enumeration last) = host.Enumeration (2 ^ 32 - 1)
told h = h

told_is : (h : Host) (n : ℤ) → host_told (value_of h n) ≡ told h
told_is host.Integer n = ap told_at (outs-Int n)
told_is host.Boolean n = ap told_at (outs-Bool (nat_eq (nat_abs n) 1))
told_is host.Char n = ap told_at (outs-Char (nat_abs n))
told_is (host.Enumeration last) n = ap told_at (outs-Enum (nat_abs n))

enum_word : (n : ℤ) (last : ℕ) → nat_lt last (2 ^ 32) ≡ true → int_le n (pos last) ≡ true → int_le n (pos (2 ^ 32 - 1)) ≡ true
enum_word n last w b = grind (arith, ints, nat_tests)

stepped_is : (h : Host) (n : ℤ) → is_word h ≡ true → IsIn h n → stepped (told h) n ≡ Ok (value_of h n)
stepped_is host.Integer n w a = ap₂ (λ s t. cond (s && t) (Ok (value_of host.Integer n)) (Err (Faults Overflow))) a.0 a.1
stepped_is host.Boolean n w a = ap₂ (λ s t. cond (s && t) (Ok (value_of host.Boolean n)) (Err (Faults Range))) a.0 a.1
stepped_is host.Char n w a = ap₂ (λ s t. cond (s && t) (Ok (value_of host.Char n)) (Err (Faults Range))) a.0 a.1
stepped_is (host.Enumeration last) n w a = ap₂ (λ s t. cond (s && t) (Ok (pascal.Enum (nat_abs n))) (Err (Faults Range))) a.0 (enum_word n last w a.1)

abbrev pub stepping : Direction → Value → Result Value Stop
stepping direction.To = succeeding
stepping direction.Downto = preceding

pub next_value : (h : Host) (dir : Direction) (n : ℤ) → is_word h ≡ true → IsIn h n → IsIn h (next_of dir n) → stepping dir (value_of h n) ≡ Ok (value_of h (next_of dir n))
next_value h direction.To n w a b = ap₂ (λ (o : Result ℤ Stop) (g : Host). o >>> λ k. stepped g (k +ℤ pos 1)) (value_ordinal h n a) (told_is h n) ∙ stepped_is h (n +ℤ pos 1) w b
next_value h direction.Downto n w a b = ap₂ (λ (o : Result ℤ Stop) (g : Host). o >>> λ k. stepped g (k -ℤ pos 1)) (value_ordinal h n a) (told_is h n) ∙ stepped_is h (n -ℤ pos 1) w b

-- ---- comparisons

naturals_compare : (n m : ℕ) → nat_cmp n m ≡ int_cmp (pos n) (pos m)
naturals_compare n m = by (nat_lt n m) refl (nat_lt m n) refl
  where
    by : (s : Bool) → nat_lt n m ≡ s → (t : Bool) → nat_lt m n ≡ t → cond (nat_lt n m) Less (cond (n == m) Equal Greater) ≡ cond (int_lt (pos n) (pos m)) Less (cond (int_lt (pos m) (pos n)) Greater Equal)
    by true e t f = ap (λ b. cond b Less (cond (n == m) Equal Greater)) e ∙ sym (ap (λ b. cond b Less (cond (int_lt (pos m) (pos n)) Greater Equal)) (let i : int_lt (pos n) (pos m) ≡ true = grind (arith, ints, nat_tests) in i))
    by false e true f = ap₂ (λ a b. cond a Less (cond b Equal Greater)) e (let i : (n == m) ≡ false = grind (arith, nat_tests) in i)
        ∙ sym (ap₂ (λ a b. cond a Less (cond b Greater Equal)) (let i : int_lt (pos n) (pos m) ≡ false = grind (arith, ints, nat_tests) in i) (let i : int_lt (pos m) (pos n) ≡ true = grind (arith, ints, nat_tests) in i))
    by false e false f = ap₂ (λ a b. cond a Less (cond b Equal Greater)) e (let i : (n == m) ≡ true = grind (arith, nat_tests) in i)
        ∙ sym (ap₂ (λ a b. cond a Less (cond b Greater Equal)) (let i : int_lt (pos n) (pos m) ≡ false = grind (arith, ints, nat_tests) in i) (let i : int_lt (pos m) (pos n) ≡ false = grind (arith, ints, nat_tests) in i))

truths_compare : (a b : Bool) → bool_cmp a b ≡ int_cmp (pos (bool_ordinal a)) (pos (bool_ordinal b))
truths_compare true true = refl
truths_compare true false = refl
truths_compare false true = refl
truths_compare false false = refl

pub values_compare : (op : Relation) (h : Host) (n m : ℤ) → IsIn h n → IsIn h m → compares op (value_of h n) (value_of h m) ≡ holds op (int_cmp n m)
values_compare op host.Integer n m a b = ap₂ (compares_at op) (outs-Int n) (outs-Int m)
values_compare op host.Boolean n m a b = ap₂ (compares_at op) (outs-Bool (nat_eq (nat_abs n) 1)) (outs-Bool (nat_eq (nat_abs m) 1)) ∙ ap (holds op) (truths_compare (nat_eq (nat_abs n) 1) (nat_eq (nat_abs m) 1) ∙ sym (ap₂ int_cmp (zero_or_one n a.0 a.1) (zero_or_one m b.0 b.1)))
values_compare op host.Char n m a b = ap₂ (compares_at op) (outs-Char (nat_abs n)) (outs-Char (nat_abs m)) ∙ ap (holds op) (naturals_compare (nat_abs n) (nat_abs m) ∙ sym (ap₂ int_cmp (natural n a.0) (natural m b.0)))
values_compare op (host.Enumeration last) n m a b = ap₂ (compares_at op) (outs-Enum (nat_abs n)) (outs-Enum (nat_abs m)) ∙ ap (holds op) (naturals_compare (nat_abs n) (nat_abs m) ∙ sym (ap₂ int_cmp (natural n a.0) (natural m b.0)))
