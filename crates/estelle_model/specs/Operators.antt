-- The operators and the required functions (ISO 7185, 6.7.2 and 6.6.6).
use Rattle.std.specs.Prelude.{ℕ, ◌-◌, ◌^◌, nat_abs, Bool, not, ◌&&◌, if◌then◌else◌, List, [], ℤ, pos, ◌+ℤ◌, ◌-ℤ◌, Result, Ok, Err}
use Rattle.std.specs.Int.RustNames.{int_le}
use Rattle.pascal_values.specs.declared.fault.Fault.{Fault}
use Rattle.pascal_values.specs.declared.fault.Fault.TheVariants.{Overflow, Range}
use Rattle.pascal_values.specs.declared.value.Value.{Value, out-Value}
use Rattle.pascal_values.specs.declared.value.Value.TheVariants as value
use Rattle.pascal_values.specs.declared.value.Value.TheOpen.{Value-F}
use Rattle.pascal_values.specs.declared.value.Relation.{Relation as Comparing}
use Rattle.pascal_values.specs.declared.value.Relation.TheVariants as comparing
use Rattle.pascal_values.specs.Integers.{is_between, sum_of, difference_of, product_of, quotient_of, remainder_of}
use Rattle.pascal_values.specs.Sets.{is_member, union, intersection, difference, interval}
use Rattle.pascal_values.specs.Order.{compares}
use Rattle.estelle_tree.specs.declared.tree.type_expr.Sign.{Sign}
use Rattle.estelle_tree.specs.declared.tree.type_expr.Sign.TheVariants as sign
use Rattle.estelle_tree.specs.declared.tree.expression.Relation.{Relation}
use Rattle.estelle_tree.specs.declared.tree.expression.Relation.TheVariants as relation
use Rattle.estelle_model.specs.declared.denoter.Host.{Host}
use Rattle.estelle_model.specs.declared.denoter.Host.TheVariants as host
use Rattle.estelle_model.specs.Stops.{Stop, Faults, Broken, stopping}
use Rattle.estelle_model.specs.Types.{least, greatest, ordinal_of, value_of, shape_of, whole, assignable}
use Rattle.estelle_tree.specs.declared.required.Required.{Required}
use Rattle.estelle_tree.specs.declared.required.Required.TheVariants.{Abs, Sqr, Odd, Succ, Pred, Ord, Chr}

-- ---- operands. An accepted tree has none of another kind; here it breaks a rule.

infixl 10 ◌>>>◌
abbrev pub ◌>>>◌ : {A B E : Type 0} → Result A E → (A → Result B E) → Result B E
(Ok a) >>> f = f a
(Err e) >>> f = Err e

abbrev pub int_at : Value-F Value → Result ℤ Stop
int_at (Value-F.Int n) = Ok n
int_at _ = Err Broken

abbrev pub int_of : Value → Result ℤ Stop
int_of v = int_at (out-Value v)

abbrev pub bool_at : Value-F Value → Result Bool Stop
bool_at (Value-F.Bool b) = Ok b
bool_at _ = Err Broken

abbrev pub bool_of : Value → Result Bool Stop
bool_of v = bool_at (out-Value v)

abbrev pub set_at : Value-F Value → Result (List ℕ) Stop
set_at (Value-F.Set ns) = Ok ns
set_at _ = Err Broken

abbrev pub set_of_value : Value → Result (List ℕ) Stop
set_of_value v = set_at (out-Value v)

abbrev pub an_int : Result ℤ Fault → Result Value Stop
an_int r = stopping r >>> λ n. Ok (value.Int n)

abbrev pub two_ints : (ℤ → ℤ → Result ℤ Fault) → Value → Value → Result Value Stop
two_ints f v w = int_of v >>> λ m. int_of w >>> λ n. an_int (f m n)

-- an operator that is one of integers, or of sets where the left operand is a set
abbrev pub by_kind : (ℤ → ℤ → Result ℤ Fault) → (List ℕ → List ℕ → List ℕ) → Value → Value → Value-F Value → Result Value Stop
by_kind on_ints on_sets v w (Value-F.Set a) = set_of_value w >>> λ b. Ok (value.Set (on_sets a b))
by_kind on_ints on_sets v w _ = two_ints on_ints v w

-- ---- operators that evaluate both operands

unfoldable pub plus : Value → Value → Result Value Stop
plus v w = by_kind sum_of union v w (out-Value v)

unfoldable pub minus : Value → Value → Result Value Stop
minus v w = by_kind difference_of difference v w (out-Value v)

unfoldable pub times : Value → Value → Result Value Stop
times v w = by_kind product_of intersection v w (out-Value v)

unfoldable pub divided : Value → Value → Result Value Stop
divided v w = two_ints quotient_of v w

unfoldable pub modulo : Value → Value → Result Value Stop
modulo v w = two_ints remainder_of v w

-- a sign in front of a term
unfoldable pub signed : Sign → Value → Result Value Stop
signed sign.Plus v = int_of v >>> λ n. Ok (value.Int n)
signed sign.Minus v = int_of v >>> λ n. an_int (difference_of (pos 0) n)

unfoldable pub negation : Value → Result Value Stop
negation v = bool_of v >>> λ b. Ok (value.Bool (not b))

-- `in`: no ordinal outside 0..255 is a member
abbrev pub contains : ℤ → List ℕ → Bool
contains n ns = is_between (pos 0) (pos 255) n && is_member (nat_abs n) ns

abbrev pub compared : Comparing → Value → Value → Result Value Stop
compared op v w = Ok (value.Bool (compares op v w))

unfoldable pub related : Relation → Value → Value → Result Value Stop
related relation.Equal v w = compared comparing.Eq v w
related relation.NotEqual v w = compared comparing.Ne v w
related relation.Less v w = compared comparing.Lt v w
related relation.AtMost v w = compared comparing.Le v w
related relation.Greater v w = compared comparing.Gt v w
related relation.AtLeast v w = compared comparing.Ge v w
related relation.Member v w = ordinal_of v >>> λ n. set_of_value w >>> λ ns. Ok (value.Bool (contains n ns))

-- ---- members of a set constructor (ISO 7185, 6.7.1)

abbrev pub in_base : ℤ → Bool
in_base n = is_between (pos 0) (pos 255) n

-- one member
unfoldable pub one_member : ℤ → Result (List ℕ) Stop
one_member n = if in_base n then Ok (interval (nat_abs n) (nat_abs n)) else Err (Faults Range)

-- `a..b`, which has no member where a is greater than b
unfoldable pub members_from : ℤ → ℤ → Result (List ℕ) Stop
members_from a b = if int_le a b then (if in_base a && in_base b then Ok (interval (nat_abs a) (nat_abs b)) else Err (Faults Range)) else Ok []

-- ---- required functions

-- beyond its host type there is no value: of integers that is Overflow, of other types Range
abbrev pub beyond : Host → Fault
beyond host.Integer = Overflow
beyond _ = Range

-- the value of a host type with an ordinal, if there is one
abbrev pub stepped : Host → ℤ → Result Value Stop
stepped h n = if is_between (least h) (greatest h) n then Ok (value_of h n) else Err (Faults (beyond h))

-- the host of a value; one of an enumeration does not tell the last of its type, so that of all counts
abbrev pub told_at : Value-F Value → Host
told_at (Value-F.Bool b) = host.Boolean
told_at (Value-F.Char n) = host.Char
told_at (Value-F.Enum n) = host.Enumeration (2 ^ 32 - 1)
told_at _ = host.Integer

abbrev pub host_told : Value → Host
host_told v = told_at (out-Value v)

-- the value with the next ordinal, or the one before
abbrev pub succeeding : Value → Result Value Stop
succeeding v = ordinal_of v >>> λ n. stepped (host_told v) (n +ℤ pos 1)

abbrev pub preceding : Value → Result Value Stop
preceding v = ordinal_of v >>> λ n. stepped (host_told v) (n -ℤ pos 1)

-- a value of an enumeration is tested against its type
abbrev pub in_host : Host → Value → Result Value Stop
in_host (host.Enumeration last) v = stopping (assignable (shape_of (whole (host.Enumeration last))) v) >>> λ ok. Ok v
in_host _ v = Ok v

abbrev pub is_odd : ℤ → Result Bool Fault
is_odd n = remainder_of n (pos 2) >>> λ r. Ok (is_between (pos 1) (pos 1) r)

abbrev pub magnitude : ℤ → Result ℤ Fault
magnitude n = if int_le (pos 0) n then Ok n else difference_of (pos 0) n

-- what a required function gives of an argument whose type has this host
unfoldable pub required_value : Required → Host → Value → Result Value Stop
required_value Abs h v = int_of v >>> λ n. an_int (magnitude n)
required_value Sqr h v = int_of v >>> λ n. an_int (product_of n n)
required_value Odd h v = int_of v >>> λ n. stopping (is_odd n) >>> λ b. Ok (value.Bool b)
required_value Succ h v = succeeding v >>> in_host h
required_value Pred h v = preceding v >>> in_host h
required_value Ord h v = ordinal_of v >>> λ n. Ok (value.Int n)
required_value Chr h v = int_of v >>> λ n. stepped host.Char n

-- the host type of a required function's result
abbrev pub required_host : Required → Host → Host
required_host Odd h = host.Boolean
required_host Succ h = h
required_host Pred h = h
required_host Chr h = host.Char
required_host _ h = host.Integer
