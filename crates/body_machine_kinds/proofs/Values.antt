-- What is computed of values of good kinds.
use Rattle.std.proofs.Common.{◌≡◌, ◌∙◌, refl, sym, ap, subst, ℕ, Bool, true, false, not, cond, List, [], ℤ, pos, Result, Ok, Err, arith}
use Rattle.std.specs.Prelude.{IsTrue, nat_abs, nat_eq, ◌&&◌, ◌-◌, ◌^◌, ◌+ℤ◌, ◌-ℤ◌}
use Rattle.std.specs.Int.RustNames.{int_le}
use Rattle.pascal_values.specs.declared.fault.Fault.TheVariants.{Range}
use Rattle.pascal_values.specs.declared.fault.Fault.{Fault}
use Rattle.pascal_values.specs.declared.value.Value.{Value, out-Value}
use Rattle.pascal_values.specs.declared.value.Value.TheVariants as value
use Rattle.pascal_values.specs.declared.value.Value.TheOpen.{Value-F}
use Rattle.pascal_values.specs.Integers.{sum_of, difference_of, product_of, quotient_of, remainder_of}
use Rattle.pascal_values.specs.Sets.{IsSet, union, intersection, difference, interval}
use Rattle.pascal_values.proofs.SetLemmas.{IsSet-set_of}
use Rattle.estelle_tree.specs.declared.tree.expression.Relation.{Relation}
use Rattle.estelle_tree.specs.declared.tree.expression.Relation.TheVariants as relation
use Rattle.estelle_model.specs.declared.denoter.Host.{Host}
use Rattle.estelle_model.specs.declared.denoter.Host.TheVariants as host
use Rattle.estelle_model.specs.Belonging.{rises}
use Rattle.estelle_model.specs.Stops.{Stop, Faults, Broken, stopping}
use Rattle.estelle_model.specs.Types.{ordinal_at, ordinal_of, value_of, least, greatest}
use Rattle.pascal_values.specs.Integers.{is_between}
use Rattle.estelle_model.specs.Operators.{◌>>>◌, int_at, int_of, bool_at, set_at, set_of_value, an_int, two_ints, by_kind, plus, minus, times, divided, modulo, signed, negation, contains, related, in_base, one_member, members_from, stepped, beyond, host_told, told_at, is_odd, magnitude, required_value}
use Rattle.estelle_model.proofs.Fitting.{is_rises}
use Rattle.body_machine.specs.declared.operators.Unary.TheVariants as unary
use Rattle.body_machine.specs.declared.operators.Binary.TheVariants as binary
use Rattle.body_machine.specs.Operations.{a_set, unary_value, binary_value}
use Rattle.body_kinds.specs.Kinds.{Kind, Integer, Boolean, Character, Enumerated, Members, is_of_at, is_of, is_ordinal, is_added}

-- ---- operands

pub int_operand : (v : Value) → is_of Integer v ≡ true → (n : ℤ) × (out-Value v ≡ Value-F.Int n)
int_operand v h = by (out-Value v) refl h
  where
    by : (o : Value-F Value) → out-Value v ≡ o → is_of_at Integer v o ≡ true → (n : ℤ) × (out-Value v ≡ Value-F.Int n)
    by (Value-F.Int n) e g = (n, e)
    by _ e g = absurd (cc)

pub bool_operand : (v : Value) → is_of Boolean v ≡ true → (b : Bool) × (out-Value v ≡ Value-F.Bool b)
bool_operand v h = by (out-Value v) refl h
  where
    by : (o : Value-F Value) → out-Value v ≡ o → is_of_at Boolean v o ≡ true → (b : Bool) × (out-Value v ≡ Value-F.Bool b)
    by (Value-F.Bool b) e g = (b, e)
    by _ e g = absurd (cc)

pub set_operand : (v : Value) → is_of Members v ≡ true → (ns : List ℕ) × (out-Value v ≡ Value-F.Set ns) × (rises 0 ns ≡ true)
set_operand v h = by (out-Value v) refl h
  where
    by : (o : Value-F Value) → out-Value v ≡ o → is_of_at Members v o ≡ true → (ns : List ℕ) × (out-Value v ≡ Value-F.Set ns) × (rises 0 ns ≡ true)
    by (Value-F.Set ns) e g = (ns, e, g)
    by _ e g = absurd (cc)

-- a value of a kind with ordinals has one
pub ordinal_operand : (k : Kind) → IsTrue (is_ordinal k) → (v : Value) → is_of k v ≡ true → (n : ℤ) × (ordinal_of v ≡ Ok n)
ordinal_operand k o v h = by k o (out-Value v) refl h
  where
    by : (j : Kind) → IsTrue (is_ordinal j) → (x : Value-F Value) → out-Value v ≡ x → is_of_at j v x ≡ true → (n : ℤ) × (ordinal_of v ≡ Ok n)
    by Integer i (Value-F.Int n) e g = (n, ap ordinal_at e)
    by Boolean i (Value-F.Bool b) e g = (_, ap ordinal_at e)
    by Character i (Value-F.Char n) e g = (_, ap ordinal_at e)
    by Enumerated i (Value-F.Enum n) e g = (_, ap ordinal_at e)
    by _ i _ e g = absurd (cc)

-- ---- results

-- a value of the kind, or a fault
abbrev pub Gives : Kind → Result Value Stop → Type 0
Gives k (Ok v) = is_of k v ≡ true
Gives k (Err (Faults f)) = Unit {0}
Gives k (Err Broken) = ⊥

pub an_integer : (n : ℤ) → is_of Integer (value.Int n) ≡ true
an_integer n = ap (is_of_at Integer (value.Int n)) (value.outs-Int n)

pub a_boolean : (b : Bool) → is_of Boolean (value.Bool b) ≡ true
a_boolean b = ap (is_of_at Boolean (value.Bool b)) (value.outs-Bool b)

pub some_members : (ns : List ℕ) → IsSet ns → is_of Members (value.Set ns) ≡ true
some_members ns h = ap (is_of_at Members (value.Set ns)) (value.outs-Set ns) ∙ is_rises 0 ns h

gives_int : (r : Result ℤ Fault) → Gives Integer (an_int r)
gives_int (Ok n) = an_integer n
gives_int (Err f) = tt

by_ints : (f : ℤ → ℤ → Result ℤ Fault) (v w : Value) → is_of Integer v ≡ true → is_of Integer w ≡ true → Gives Integer (two_ints f v w)
by_ints f v w h k =
    let a = int_operand v h in
    let b = int_operand w k in
    subst (Gives Integer) (sym (ap (λ (x : Value-F Value). int_at x >>> λ m. int_of w >>> λ n. an_int (f m n)) a.1 ∙ ap (λ (x : Value-F Value). int_at x >>> λ n. an_int (f a.0 n)) b.1)) (gives_int (f a.0 b.0))

by_kind_ints : (f : ℤ → ℤ → Result ℤ Fault) (g : List ℕ → List ℕ → List ℕ) (v w : Value) → is_of Integer v ≡ true → is_of Integer w ≡ true → Gives Integer (by_kind f g v w (out-Value v))
by_kind_ints f g v w h k = subst (λ (o : Value-F Value). Gives Integer (by_kind f g v w o)) (sym (int_operand v h).1) (by_ints f v w h k)

by_kind_sets : (f : ℤ → ℤ → Result ℤ Fault) (g : List ℕ → List ℕ → List ℕ) (v w : Value) → ((a b : List ℕ) → IsSet (g a b)) → is_of Members v ≡ true → is_of Members w ≡ true → Gives Members (by_kind f g v w (out-Value v))
by_kind_sets f g v w rise h k =
    let a = set_operand v h in
    let b = set_operand w k in
    subst (λ (o : Value-F Value). Gives Members (by_kind f g v w o)) (sym a.1)
    (subst (λ (o : Value-F Value). Gives Members (set_at o >>> λ ns. Ok (value.Set (g a.0 ns)))) (sym b.1) (some_members (g a.0 b.0) (rise a.0 b.0)))

is_union : (a b : List ℕ) → IsSet (union a b)
unfolding union
is_union a b = IsSet-set_of _

is_intersection : (a b : List ℕ) → IsSet (intersection a b)
unfolding intersection
is_intersection a b = IsSet-set_of _

is_difference : (a b : List ℕ) → IsSet (difference a b)
unfolding difference
is_difference a b = IsSet-set_of _

is_interval : (a b : ℕ) → IsSet (interval a b)
unfolding interval
is_interval a b = IsSet-set_of _

-- members, or a fault
abbrev GivesMembers : Result (List ℕ) Stop → Type 0
GivesMembers (Ok ns) = IsSet ns
GivesMembers (Err (Faults f)) = Unit {0}
GivesMembers (Err Broken) = ⊥

gives_set : (r : Result (List ℕ) Stop) → GivesMembers r → Gives Members (a_set r)
gives_set (Ok ns) h = some_members ns h
gives_set (Err (Faults f)) h = tt
gives_set (Err Broken) h = h

gives_one : (n : ℤ) → GivesMembers (one_member n)
unfolding one_member
gives_one n = by (in_base n)
  where
    by : (b : Bool) → GivesMembers (cond b (Ok (interval (nat_abs n) (nat_abs n))) (Err (Faults Range)))
    by true = is_interval (nat_abs n) (nat_abs n)
    by false = tt

gives_span : (a b : ℤ) → GivesMembers (members_from a b)
unfolding members_from
gives_span a b = by (int_le a b) (in_base a && in_base b)
  where
    by : (c d : Bool) → GivesMembers (cond c (cond d (Ok (interval (nat_abs a) (nat_abs b))) (Err (Faults Range))) (Ok []))
    by true true = is_interval (nat_abs a) (nat_abs b)
    by true false = tt
    by false d = omega arith

-- ---- required functions

abbrev pub is_membership : Relation → Bool
is_membership relation.Member = true
is_membership _ = false

-- of a kind with ordinals
abbrev host_for : Kind → Host
host_for Boolean = host.Boolean
host_for Character = host.Char
host_for Enumerated = host.Enumeration (2 ^ 32 - 1)
host_for _ = host.Integer

told_is : (k : Kind) → IsTrue (is_ordinal k) → (v : Value) → is_of k v ≡ true → host_told v ≡ host_for k
told_is k o v h = by k o (out-Value v) refl h
  where
    by : (j : Kind) → IsTrue (is_ordinal j) → (x : Value-F Value) → out-Value v ≡ x → is_of_at j v x ≡ true → host_told v ≡ host_for j
    by Integer i (Value-F.Int n) e g = ap told_at e
    by Boolean i (Value-F.Bool b) e g = ap told_at e
    by Character i (Value-F.Char n) e g = ap told_at e
    by Enumerated i (Value-F.Enum n) e g = ap told_at e
    by _ i _ e g = absurd (cc)

gives_stepped : (k : Kind) → IsTrue (is_ordinal k) → (n : ℤ) → Gives k (stepped (host_for k) n)
gives_stepped k o n = by (is_between (least (host_for k)) (greatest (host_for k)) n) k o
  where
    by : (b : Bool) (j : Kind) → IsTrue (is_ordinal j) → Gives j (cond b (Ok (value_of (host_for j) n)) (Err (Faults (beyond (host_for j)))))
    by true Integer i = an_integer n
    by true Boolean i = a_boolean (nat_eq (nat_abs n) 1)
    by true Character i = ap (is_of_at Character (value.Char (nat_abs n))) (value.outs-Char (nat_abs n))
    by true Enumerated i = ap (is_of_at Enumerated (value.Enum (nat_abs n))) (value.outs-Enum (nat_abs n))
    by true _ i = absurd (cc)
    by false j i = tt

pub neg_gives : (v : Value) → is_of Integer v ≡ true → Gives Integer (unary_value unary.Neg v)
unfolding signed
neg_gives v h = let a = int_operand v h in subst (λ (o : Value-F Value). Gives Integer (int_at o >>> λ n. an_int (difference_of (pos 0) n))) (sym a.1) (gives_int (difference_of (pos 0) a.0))

pub abs_gives : (v : Value) → is_of Integer v ≡ true → Gives Integer (unary_value unary.Abs v)
unfolding required_value
abs_gives v h = let a = int_operand v h in subst (λ (o : Value-F Value). Gives Integer (int_at o >>> λ n. an_int (magnitude n))) (sym a.1) (gives_int (magnitude a.0))

pub sqr_gives : (v : Value) → is_of Integer v ≡ true → Gives Integer (unary_value unary.Sqr v)
unfolding required_value
sqr_gives v h = let a = int_operand v h in subst (λ (o : Value-F Value). Gives Integer (int_at o >>> λ n. an_int (product_of n n))) (sym a.1) (gives_int (product_of a.0 a.0))

pub odd_gives : (v : Value) → is_of Integer v ≡ true → Gives Boolean (unary_value unary.Odd v)
unfolding required_value
odd_gives v h = let a = int_operand v h in subst (λ (o : Value-F Value). Gives Boolean (int_at o >>> λ n. stopping (is_odd n) >>> λ b. Ok (value.Bool b))) (sym a.1) (by (is_odd a.0))
  where
    by : (r : Result Bool Fault) → Gives Boolean (stopping r >>> λ b. Ok (value.Bool b))
    by (Ok b) = a_boolean b
    by (Err f) = tt

pub chr_gives : (v : Value) → is_of Integer v ≡ true → Gives Character (unary_value unary.Chr v)
unfolding required_value
chr_gives v h = let a = int_operand v h in subst (λ (o : Value-F Value). Gives Character (int_at o >>> λ n. stepped host.Char n)) (sym a.1) (gives_stepped Character refl a.0)

pub not_gives : (v : Value) → is_of Boolean v ≡ true → Gives Boolean (unary_value unary.Not v)
unfolding negation
not_gives v h = let a = bool_operand v h in subst (λ (o : Value-F Value). Gives Boolean (bool_at o >>> λ b. Ok (value.Bool (not b)))) (sym a.1) (a_boolean (not a.0))

pub ord_gives : (k : Kind) → IsTrue (is_ordinal k) → (v : Value) → is_of k v ≡ true → Gives Integer (unary_value unary.Ord v)
unfolding required_value
ord_gives k o v h = let a = ordinal_operand k o v h in subst (λ (r : Result ℤ Stop). Gives Integer (r >>> λ n. Ok (value.Int n))) (sym a.1) (an_integer a.0)

pub succ_gives : (k : Kind) → IsTrue (is_ordinal k) → (v : Value) → is_of k v ≡ true → Gives k (unary_value unary.Succ v)
succ_gives k o v h =
    let a = ordinal_operand k o v h in
    subst (λ (r : Result ℤ Stop). Gives k (r >>> λ n. stepped (host_told v) (n +ℤ pos 1))) (sym a.1)
    (subst (λ (x : Host). Gives k (stepped x (a.0 +ℤ pos 1))) (sym (told_is k o v h)) (gives_stepped k o (a.0 +ℤ pos 1)))

pub pred_gives : (k : Kind) → IsTrue (is_ordinal k) → (v : Value) → is_of k v ≡ true → Gives k (unary_value unary.Pred v)
pred_gives k o v h =
    let a = ordinal_operand k o v h in
    subst (λ (r : Result ℤ Stop). Gives k (r >>> λ n. stepped (host_told v) (n -ℤ pos 1))) (sym a.1)
    (subst (λ (x : Host). Gives k (stepped x (a.0 -ℤ pos 1))) (sym (told_is k o v h)) (gives_stepped k o (a.0 -ℤ pos 1)))

pub one_gives : (k : Kind) → IsTrue (is_ordinal k) → (v : Value) → is_of k v ≡ true → Gives Members (unary_value unary.One v)
one_gives k o v h = let a = ordinal_operand k o v h in subst (λ (r : Result ℤ Stop). Gives Members (a_set (r >>> one_member))) (sym a.1) (gives_set (one_member a.0) (gives_one a.0))

-- ---- operators on two values

pub add_gives : (v w : Value) → is_of Integer v ≡ true → is_of Integer w ≡ true → Gives Integer (binary_value binary.Plus v w)
unfolding plus
add_gives v w h k = by_kind_ints sum_of union v w h k

pub sub_gives : (v w : Value) → is_of Integer v ≡ true → is_of Integer w ≡ true → Gives Integer (binary_value binary.Minus v w)
unfolding minus
sub_gives v w h k = by_kind_ints difference_of difference v w h k

pub mul_gives : (v w : Value) → is_of Integer v ≡ true → is_of Integer w ≡ true → Gives Integer (binary_value binary.Times v w)
unfolding times
mul_gives v w h k = by_kind_ints product_of intersection v w h k

pub div_gives : (v w : Value) → is_of Integer v ≡ true → is_of Integer w ≡ true → Gives Integer (binary_value binary.Div v w)
unfolding divided
div_gives v w h k = by_ints quotient_of v w h k

pub mod_gives : (v w : Value) → is_of Integer v ≡ true → is_of Integer w ≡ true → Gives Integer (binary_value binary.Mod v w)
unfolding modulo
mod_gives v w h k = by_ints remainder_of v w h k

pub unite_gives : (v w : Value) → is_of Members v ≡ true → is_of Members w ≡ true → Gives Members (binary_value binary.Plus v w)
unfolding plus
unite_gives v w h k = by_kind_sets sum_of union v w is_union h k

pub minus_gives : (v w : Value) → is_of Members v ≡ true → is_of Members w ≡ true → Gives Members (binary_value binary.Minus v w)
unfolding minus
minus_gives v w h k = by_kind_sets difference_of difference v w is_difference h k

pub meet_gives : (v w : Value) → is_of Members v ≡ true → is_of Members w ≡ true → Gives Members (binary_value binary.Times v w)
unfolding times
meet_gives v w h k = by_kind_sets product_of intersection v w is_intersection h k

pub plus_gives : (k : Kind) → IsTrue (is_added k) → (v w : Value) → is_of k v ≡ true → is_of k w ≡ true → Gives k (binary_value binary.Plus v w)
plus_gives Integer o v w h i = add_gives v w h i
plus_gives Members o v w h i = unite_gives v w h i
plus_gives _ o v w h i = absurd (cc)

pub difference_gives : (k : Kind) → IsTrue (is_added k) → (v w : Value) → is_of k v ≡ true → is_of k w ≡ true → Gives k (binary_value binary.Minus v w)
difference_gives Integer o v w h i = sub_gives v w h i
difference_gives Members o v w h i = minus_gives v w h i
difference_gives _ o v w h i = absurd (cc)

pub times_gives : (k : Kind) → IsTrue (is_added k) → (v w : Value) → is_of k v ≡ true → is_of k w ≡ true → Gives k (binary_value binary.Times v w)
times_gives Integer o v w h i = mul_gives v w h i
times_gives Members o v w h i = meet_gives v w h i
times_gives _ o v w h i = absurd (cc)

pub span_gives : (k : Kind) → IsTrue (is_ordinal k) → (v w : Value) → is_of Integer v ≡ true → is_of k w ≡ true → Gives Members (binary_value binary.Span v w)
span_gives k o v w h i =
    let a = ordinal_operand Integer refl v h in
    let b = ordinal_operand k o w i in
    subst (λ (r : Result ℤ Stop). Gives Members (a_set (r >>> λ m. ordinal_of w >>> λ n. members_from m n))) (sym a.1)
    (subst (λ (r : Result ℤ Stop). Gives Members (a_set (r >>> λ n. members_from a.0 n))) (sym b.1) (gives_set (members_from a.0 b.0) (gives_span a.0 b.0)))

pub has_gives : (k : Kind) → IsTrue (is_ordinal k) → (v w : Value) → is_of k v ≡ true → is_of Members w ≡ true → Gives Boolean (binary_value (binary.Compare relation.Member) v w)
unfolding related
has_gives k o v w h i =
    let a = ordinal_operand k o v h in
    let b = set_operand w i in
    subst (λ (r : Result ℤ Stop). Gives Boolean (r >>> λ n. set_of_value w >>> λ ns. Ok (value.Bool (contains n ns)))) (sym a.1)
    (subst (λ (x : Value-F Value). Gives Boolean (set_at x >>> λ ns. Ok (value.Bool (contains a.0 ns)))) (sym b.1) (a_boolean (contains a.0 b.0)))

-- a comparison that is none of membership
pub compare_gives : (op : Relation) → is_membership op ≡ false → (v w : Value) → Gives Boolean (binary_value (binary.Compare op) v w)
unfolding related
compare_gives relation.Equal h v w = a_boolean _
compare_gives relation.NotEqual h v w = a_boolean _
compare_gives relation.Less h v w = a_boolean _
compare_gives relation.AtMost h v w = a_boolean _
compare_gives relation.Greater h v w = a_boolean _
compare_gives relation.AtLeast h v w = a_boolean _
compare_gives relation.Member h v w = absurd (cc)
