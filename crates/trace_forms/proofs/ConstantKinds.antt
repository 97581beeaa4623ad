-- Constants are of one kind of ordinal type, and have one value, for the rules and for the model.
use Rattle.std.proofs.Common.{◌≡◌, ◌∙◌, ℕ, Bool, true, false, Option, Some, None, Result, Ok, Err, refl, ap, sym, subst, arith, inl, inr, ◌⊎◌, cond, ℤ, pos, ◌-ℤ◌}
use Rattle.std.specs.Prelude.{if◌then◌else◌}
use Rattle.std.proofs.lemmas.Bool.Decides.{nat_tests}
use Rattle.std.proofs.lemmas.Int.{ints}
use Rattle.pascal_values.specs.declared.fault.Fault.TheVariants.{Overflow}
use Rattle.pascal_values.specs.declared.value.Value.{Value as PascalValue, Value-F, out-Value}
use Rattle.pascal_values.specs.declared.value.Value.TheVariants as pascal
use Rattle.pascal_values.specs.Integers.{is_integer, difference_of}
use Rattle.estelle_tree.specs.declared.tree.name.Name.{Name}
use Rattle.estelle_tree.specs.declared.tree.type_expr.Sign.{Sign}
use Rattle.estelle_tree.specs.declared.tree.type_expr.Sign.TheVariants as sign
use Rattle.estelle_tree.specs.declared.tree.type_expr.Const.{Const}
use Rattle.estelle_tree.specs.declared.tree.type_expr.Const.TheVariants as const
use Rattle.type_rules.specs.declared.types.Host.{Host as RuleHost}
use Rattle.type_rules.specs.declared.types.Host.TheVariants as rule
use Rattle.type_rules.specs.declared.types.Value.{Value}
use Rattle.type_rules.specs.declared.meanings.Meaning.{Meaning as RuleMeaning}
use Rattle.type_rules.specs.Types.{same_host}
use Rattle.type_rules.specs.Meanings.{Env, known, const_value, constant_value, constant, signed_value, signed_number, negated_number, is_integer_host, with_host}
use Rattle.estelle_model.specs.Stops.{Stop}
use Rattle.estelle_model.specs.declared.denoter.Host.{Host}
use Rattle.estelle_model.specs.declared.denoter.Host.TheVariants as host
use Rattle.estelle_model.specs.declared.meaning.Meaning.{Meaning}
use Rattle.estelle_model.specs.declared.meaning.Meaning.TheVariants as mean
use Rattle.estelle_model.specs.Types.{ordinal_at, ordinal_of}
use Rattle.estelle_model.specs.Operators.{int_at, int_of, an_int, signed, ◌>>>◌}
use Rattle.estelle_model.specs.Meant.{Meanings}
use Rattle.estelle_model.specs.Constants.{by_sign, constant_named, constant_of, host_named, host_of_const, defined, const_meaning}
use Rattle.trace_forms.proofs.Environments.{some_same, Earlier, known_stays}
use Rattle.trace_forms.proofs.Firm.{IsOfHost, ResultOf}

-- ---- kinds of ordinal types

-- integer, boolean, char or enumeration, as the rules say it
abbrev pub kind_of_rules : RuleHost → ℕ
kind_of_rules rule.Integer = 0
kind_of_rules rule.Boolean = 1
kind_of_rules rule.Char = 2
kind_of_rules (rule.Enumeration at) = 3

-- and as the model says it
abbrev pub kind : Host → ℕ
kind host.Integer = 0
kind host.Boolean = 1
kind host.Char = 2
kind (host.Enumeration last) = 3

-- ordinal types that the rules hold the same are of one kind
same_kind : (g h : RuleHost) → same_host g h ≡ true → kind_of_rules g ≡ kind_of_rules h
same_kind rule.Integer rule.Integer e = refl
same_kind rule.Boolean rule.Boolean e = refl
same_kind rule.Char rule.Char e = refl
same_kind (rule.Enumeration a) (rule.Enumeration b) e = refl
same_kind g h e = absurd (cc)

-- ---- what is known alike

-- a value has the ordinal that the rules know, and is that integer where they know an integer
abbrev pub HasValue : Value → PascalValue → Type 0
HasValue w v = (ordinal_of v ≡ Ok w.ordinal) × (is_integer_host w.host ≡ true → int_of v ≡ Ok w.ordinal)

-- a constant of the model that has a value for the rules is of the same kind for both, and has this value
abbrev pub Alike : RuleMeaning → Meaning → Type 0
Alike r (mean.Constant v h) = (w : Value) → constant_value r ≡ Some w → (kind_of_rules w.host ≡ kind h) × HasValue w v
Alike r _ = Unit {0}

-- each name is alike in what the rules know and in what names mean
abbrev pub Agree : Env → Meanings → Type 0
Agree env meant = (x : Name) → Alike (known env x) (meant x)

-- what is alike with more values is alike with fewer
alike_before : (r s : RuleMeaning) (m : Meaning) → ((w : Value) → constant_value r ≡ Some w → constant_value s ≡ Some w) → Alike s m → Alike r m
alike_before r s (mean.Constant v h) stays a = λ w e. a w (stays w e)
alike_before r s (mean.TypeName t) stays a = tt
alike_before r s (mean.Called c) stays a = tt
alike_before r s _ stays a = tt

-- what agrees later agrees before
pub agree_before : (e f : Env) (meant : Meanings) → Earlier e f → Agree f meant → Agree e meant
agree_before e f meant h a x = alike_before (known e x) (known f x) (meant x) (known_stays e f h x) (a x)

-- ---- constants

-- a value with a sign is of the type that it has without one
pub signed_from : (s : Option Sign) (o : Option Value) (w : Value) → signed_value s o ≡ Some w → (v : Value) × ((o ≡ Some v) × (v.host ≡ w.host))
signed_from s None w e = absurd (cc)
signed_from None (Some v) w e = (v, (refl, ap (λ (u : Value). u.host) (some_same _ w e)))
signed_from (Some s) (Some v) w e = (v, (refl, by (is_integer_host v.host) e))
  where
    by : (b : Bool) → with_host (if b then Some v.host else None) (signed_number (Some s) v.ordinal) ≡ Some w → v.host ≡ w.host
    by true g = ap (λ (u : Value). u.host) (some_same _ w g)
    by false g = absurd (cc)

-- what the model takes a constant for, where it has a value there
pub const_kind : (env : Env) (meant : Meanings) → Agree env meant → (c : Const) (w : Value) → const_value env c ≡ Some w → (v : PascalValue) → constant_of meant c ≡ Ok v → kind_of_rules w.host ≡ kind (host_of_const meant c)
unfolding const_value
const_kind env meant a (const.Number s n span) w e v f = ap (λ (u : Value). kind_of_rules u.host) (sym (some_same _ w e))
const_kind env meant a (const.Char n span) w e v f = ap (λ (u : Value). kind_of_rules u.host) (sym (some_same _ w e))
const_kind env meant a (const.Name s x span) w e v f = by (meant x) (a x) f
  where
    from : (u : Value) × ((constant_value (known env x) ≡ Some u) × (u.host ≡ w.host))
    from = signed_from s (constant_value (known env x)) w e

    by : (m : Meaning) → Alike (known env x) m → (constant_named m >>> by_sign s) ≡ Ok v → kind_of_rules w.host ≡ kind (host_named m)
    by (mean.Constant u h) k g = ap kind_of_rules (sym from.1.1) ∙ (k from.0 from.1.0).0
    by (mean.TypeName t) k g = absurd (cc)
    by (mean.Called c) k g = absurd (cc)
    by _ k g = absurd (cc)

-- what the model takes its type for, where that is no integer
pub low_kind : (env : Env) (meant : Meanings) → Agree env meant → (c : Const) (w : Value) → const_value env c ≡ Some w → (host_of_const meant c ≡ host.Integer) ⊎ (kind_of_rules w.host ≡ kind (host_of_const meant c))
unfolding const_value
low_kind env meant a (const.Number s n span) w e = inl refl
low_kind env meant a (const.Char n span) w e = inr (ap (λ (u : Value). kind_of_rules u.host) (sym (some_same _ w e)))
low_kind env meant a (const.Name s x span) w e = by (meant x) (a x)
  where
    from : (u : Value) × ((constant_value (known env x) ≡ Some u) × (u.host ≡ w.host))
    from = signed_from s (constant_value (known env x)) w e

    by : (m : Meaning) → Alike (known env x) m → (host_named m ≡ host.Integer) ⊎ (kind_of_rules w.host ≡ kind (host_named m))
    by (mean.Constant u h) k = inr (ap kind_of_rules (sym from.1.1) ∙ (k from.0 from.1.0).0)
    by (mean.TypeName t) k = inl refl
    by (mean.Called c) k = inl refl
    by _ k = inl refl

-- ---- values

-- a value that is computed
abbrev computed : PascalValue → Result PascalValue Stop
computed v = Ok v

-- a computation gives one value
same_ok : (a b : PascalValue) → computed a ≡ computed b → a ≡ b
same_ok a b e = cc

-- an integer has the value that it is
pub integer_has : (w : Value) (n : ℤ) → n ≡ w.ordinal → HasValue w (pascal.Int n)
integer_has w n e = (ap ordinal_at (pascal.outs-Int n) ∙ ap (λ k. Ok k) e, λ i. ap int_at (pascal.outs-Int n) ∙ ap (λ k. Ok k) e)

-- the negative of an integer, where that is one, is the one that the rules know
negative_is : (n : ℤ) → is_integer (pos 0 -ℤ n) ≡ true → pos 0 -ℤ n ≡ negated_number n
negative_is n e = grind (arith, ints, nat_tests)

-- an integer with a sign is the one that the rules know
signed_is : (s : Sign) (n : ℤ) (u v : PascalValue) → int_of u ≡ Ok n → signed s u ≡ Ok v → pascal.Int (signed_number (Some s) n) ≡ v
unfolding signed
signed_is sign.Plus n u v i e = same_ok (pascal.Int n) v (ap (λ (r : Result ℤ Stop). r >>> λ m. Ok (pascal.Int m)) (sym i) ∙ e)
signed_is sign.Minus n u v i e = by (is_integer (pos 0 -ℤ n)) refl (ap (λ (r : Result ℤ Stop). r >>> λ m. an_int (difference_of (pos 0) m)) (sym i) ∙ e)
  where
    by : (b : Bool) → is_integer (pos 0 -ℤ n) ≡ b → an_int (cond b (Ok (pos 0 -ℤ n)) (Err Overflow)) ≡ Ok v → pascal.Int (negated_number n) ≡ v
    by true f g = ap pascal.Int (sym (negative_is n f)) ∙ same_ok (pascal.Int (pos 0 -ℤ n)) v g
    by false f g = absurd (cc)

-- a sign has the same effect for both
with_sign : (s : Option Sign) (u v : PascalValue) (x w : Value) → HasValue x u → signed_value s (Some x) ≡ Some w → by_sign s u ≡ Ok v → HasValue w v
with_sign None u v x w h e f = subst (HasValue w) (same_ok u v f) (subst (λ (y : Value). HasValue y u) (some_same _ w e) h)
with_sign (Some s) u v x w h e f = by (is_integer_host x.host) refl e
  where
    by : (b : Bool) → is_integer_host x.host ≡ b → with_host (if b then Some x.host else None) (signed_number (Some s) x.ordinal) ≡ Some w → HasValue w v
    by true i g = subst (HasValue w) (signed_is s x.ordinal u v (h.1 i) f) (integer_has w (signed_number (Some s) x.ordinal) (ap (λ (y : Value). y.ordinal) (some_same _ w g)))
    by false i g = absurd (cc)

-- an integer with a sign has a value
number_valued : (s : Option Sign) (n : ℤ) → signed_value s (Some (record { host = rule.Integer; ordinal = n })) ≡ Some (record { host = rule.Integer; ordinal = signed_number s n })
number_valued None n = refl
number_valued (Some s) n = refl

-- a constant has the same value for both
pub const_has : (env : Env) (meant : Meanings) → Agree env meant → (c : Const) (w : Value) → const_value env c ≡ Some w → (v : PascalValue) → constant_of meant c ≡ Ok v → HasValue w v
unfolding const_value
const_has env meant a (const.Number s n span) w e v f = with_sign s (pascal.Int n) v (record { host = rule.Integer; ordinal = n }) w (integer_has (record { host = rule.Integer; ordinal = n }) n refl) (number_valued s n ∙ e) f
const_has env meant a (const.Char n span) w e v f =
    subst (HasValue w) (same_ok (pascal.Char n) v f) (subst (λ (y : Value). HasValue y (pascal.Char n)) (some_same _ w e) (ap ordinal_at (pascal.outs-Char n), λ i. absurd (cc)))
const_has env meant a (const.Name s x span) w e v f = by (meant x) (a x) f
  where
    from : (u : Value) × ((constant_value (known env x) ≡ Some u) × (u.host ≡ w.host))
    from = signed_from s (constant_value (known env x)) w e

    by : (m : Meaning) → Alike (known env x) m → (constant_named m >>> by_sign s) ≡ Ok v → HasValue w v
    by (mean.Constant u h) k g = with_sign s u v from.0 w (k from.0 from.1.0).1 (ap (signed_value s) (sym from.1.0) ∙ e) g
    by (mean.TypeName t) k g = absurd (cc)
    by (mean.Called c) k g = absurd (cc)
    by _ k g = absurd (cc)

-- a constant as it is declared has the value that it was given
constant_has : (o : Option Value) (w : Value) → constant_value (constant o) ≡ Some w → o ≡ Some w
constant_has None w e = e
constant_has (Some v) w e = e

-- constant definitions are alike
pub const_alike : (env : Env) (meant : Meanings) → Agree env meant → (c : Const) → Alike (constant (const_value env c)) (const_meaning meant c)
const_alike env meant a c = by (constant_of meant c) refl
  where
    by : (r : Result PascalValue Stop) → constant_of meant c ≡ r → Alike (constant (const_value env c)) (defined (host_of_const meant c) r)
    by (Ok v) e = λ w f. let g = constant_has (const_value env c) w f in (const_kind env meant a c w g v e, const_has env meant a c w g v e)
    by (Err e) f = tt

-- ---- the bounds of a subrange

-- a value of an ordinal type is one of each type of the same kind
of_kind : (h k : Host) (l : Value-F PascalValue) → kind h ≡ kind k → IsOfHost k l → IsOfHost h l
of_kind host.Integer k l e o = tt
of_kind host.Boolean k l e o = tt
of_kind host.Char host.Char l e o = o
of_kind (host.Enumeration last) (host.Enumeration other) l e o = o
of_kind h k l e o = absurd (omega (arith, e))

-- the greater bound is of the host type of the smaller one, where the rules say that both are of one
pub bounds_of_one : (env : Env) (meant : Meanings) → Agree env meant → (low high : Const) (a b : Value) → const_value env low ≡ Some a → const_value env high ≡ Some b → same_host a.host b.host ≡ true
    → ResultOf (host_of_const meant high) (constant_of meant high) → ResultOf (host_of_const meant low) (constant_of meant high)
bounds_of_one env meant agree low high a b e f same o = by (constant_of meant high) refl o
  where
    by : (r : Result PascalValue Stop) → constant_of meant high ≡ r → ResultOf (host_of_const meant high) r → ResultOf (host_of_const meant low) r
    by (Err x) g k = tt
    by (Ok v) g k = elim (low_kind env meant agree low a e) [
      | inl is ↦ subst (λ h. IsOfHost h (out-Value v)) (sym is) tt
      | inr is ↦ of_kind (host_of_const meant low) (host_of_const meant high) (out-Value v) (sym is ∙ same_kind a.host b.host same ∙ const_kind env meant agree high b f v g) k
    ]
