-- The values of labels are equal where they are the same.
use Rattle.std.proofs.Common.{◌≡◌, ℕ, ap, refl}
use Rattle.std.specs.Prelude.{nat_eq, IsTrue, ℤ}
use Rattle.std.specs.Bool.{Decides}
use Rattle.std.specs.Ordering.{int_eq}
use Rattle.std.proofs.lemmas.Bool.Decides.{Decides-and, Decides-int_eq}
use Rattle.std.specs.Cmp.{IsPartialEquivalence, IsEquivalence, decided, unsigned_Decides, partial_equiv_from_equiv}
use Rattle.estelle_tree.specs.declared.span.Span.{Span}
use Rattle.type_rules.specs.declared.types.Host.{Host}
use Rattle.type_rules.specs.declared.types.Host.TheVariants as host
use Rattle.type_rules.specs.declared.types.Value.{Value}
use Rattle.type_rules.specs.Types.{same_span, same_host, same_value}
use Rattle.pascal_check_sites.specs.LabelHash.{value_input}

-- a span by its ends
same_ends : (start end : ℕ) (b : Span) → start ≡ b.start → end ≡ b.end → record { start = start; end = end } ≡ b
same_ends start end b p q = rw (p, q) refl

-- two spans
span_is : (a b : Span) → Decides (same_span a b) (a ≡ b)
span_is a b =
    let d = Decides-and (nat_eq a.start b.start) (nat_eq a.end b.end) (unsigned_Decides a.start b.start) (unsigned_Decides a.end b.end) in
    (λ t. same_ends a.start a.end b (d.0 t).0 (d.0 t).1, λ e. d.1 (ap (λ (s : Span). s.start) e, ap (λ (s : Span). s.end) e))

-- where an enumeration stands
abbrev at_of : Host → Span
at_of (host.Enumeration a) = a
at_of h = record { start = 0; end = 0 }

-- two hosts
host_is : (g h : Host) → Decides (same_host g h) (g ≡ h)
host_is host.Integer host.Integer = (λ t. refl, λ e. refl)
host_is host.Integer host.Boolean = (λ t. cc, λ e. cc)
host_is host.Integer host.Char = (λ t. cc, λ e. cc)
host_is host.Integer (host.Enumeration b) = (λ t. cc, λ e. cc)
host_is host.Boolean host.Integer = (λ t. cc, λ e. cc)
host_is host.Boolean host.Boolean = (λ t. refl, λ e. refl)
host_is host.Boolean host.Char = (λ t. cc, λ e. cc)
host_is host.Boolean (host.Enumeration b) = (λ t. cc, λ e. cc)
host_is host.Char host.Integer = (λ t. cc, λ e. cc)
host_is host.Char host.Boolean = (λ t. cc, λ e. cc)
host_is host.Char host.Char = (λ t. refl, λ e. refl)
host_is host.Char (host.Enumeration b) = (λ t. cc, λ e. cc)
host_is (host.Enumeration a) host.Integer = (λ t. cc, λ e. cc)
host_is (host.Enumeration a) host.Boolean = (λ t. cc, λ e. cc)
host_is (host.Enumeration a) host.Char = (λ t. cc, λ e. cc)
host_is (host.Enumeration a) (host.Enumeration b) = (λ t. ap host.Enumeration ((span_is a b).0 t), λ e. (span_is a b).1 (ap at_of e))

-- a value by its parts
same_parts : (h : Host) (n : ℤ) (w : Value) → h ≡ w.host → n ≡ w.ordinal → record { host = h; ordinal = n } ≡ w
same_parts h n w p q = rw (p, q) refl

-- two values
value_is : (v w : Value) → Decides (same_value v w) (v ≡ w)
value_is v w =
    let d = Decides-and (same_host v.host w.host) (int_eq v.ordinal w.ordinal) (host_is v.host w.host) (Decides-int_eq v.ordinal w.ordinal) in
    (λ t. same_parts v.host v.ordinal w (d.0 t).0 (d.0 t).1, λ e. d.1 (ap (λ (u : Value). u.host) e, ap (λ (u : Value). u.ordinal) e))

-- the law of `Eq`
pub equivalence : IsEquivalence same_value
equivalence = decided same_value value_is

-- the law of `PartialEq`
pub partial : IsPartialEquivalence same_value
partial = partial_equiv_from_equiv equivalence

-- the law of `Hash`
pub alike : (v w : Value) → IsTrue (same_value v w) → value_input v ≡ value_input w
alike v w t = ap value_input ((value_is v w).0 t)
