-- Types: which are the same, which fit, what an operation gives, and what a type expression denotes.
use Rattle.std.specs.Prelude.{ℕ, ◌+◌, ◌*◌, nat_eq, min, max, Bool, true, false, ◌||◌, ◌&&◌, not, if◌then◌else◌, List, fold, Option, Some, None, ℤ, pos, nat_abs, ◌-ℤ◌, int_lt}
use Rattle.std.specs.Option.{is_some}
use Rattle.std.specs.Ordering.{int_eq}
use Rattle.estelle_tree.specs.declared.span.Span.{Span}
use Rattle.type_rules.specs.declared.types.Host.{Host}
use Rattle.type_rules.specs.declared.types.Host.TheVariants as host
use Rattle.type_rules.specs.declared.types.Base.{Base}
use Rattle.type_rules.specs.declared.types.Base.TheVariants as set_base
use Rattle.type_rules.specs.declared.types.PascalType.{PascalType}
use Rattle.type_rules.specs.declared.types.PascalType.TheVariants as t
use Rattle.type_rules.specs.declared.types.Value.{Value}
use Rattle.type_rules.specs.declared.types.Denoted.{Denoted}
use Rattle.type_rules.specs.declared.sites.Operator.{Operator}
use Rattle.type_rules.specs.declared.sites.Operator.TheVariants.{Arithmetic, Division, Logical, Equality, Order, Inclusion, Membership}

-- ---- the same type (ISO 7185, 6.4.1)

abbrev pub same_span : Span → Span → Bool
same_span a b = nat_eq a.start b.start && nat_eq a.end b.end

abbrev pub same_host : Host → Host → Bool
same_host host.Integer host.Integer = true
same_host host.Boolean host.Boolean = true
same_host host.Char host.Char = true
same_host (host.Enumeration a) (host.Enumeration b) = same_span a b
same_host a b = false

-- two types are the same where they come from one declaration or one type expression
abbrev pub same_type : PascalType → PascalType → Bool
same_type (t.Whole g) (t.Whole h) = same_host g h
same_type (t.Subrange g a) (t.Subrange h b) = same_span a b
same_type (t.Set g a) (t.Set h b) = same_span a b
same_type (t.Array a) (t.Array b) = same_span a b
same_type (t.Fields a) (t.Fields b) = same_span a b
same_type a b = false

-- ---- ordinal types and sets (6.4.2, 6.4.3.4)

-- the host of an ordinal type, which of a whole one is itself
abbrev pub host_of : PascalType → Option Host
host_of (t.Whole h) = Some h
host_of (t.Subrange h at) = Some h
host_of u = None

abbrev pub is_ordinal : PascalType → Bool
is_ordinal u = is_some (host_of u)

abbrev pub is_host : Host → Option Host → Bool
is_host h None = false
is_host h (Some g) = same_host h g

-- a type is this ordinal type or a subrange of it
abbrev pub is_of : Host → PascalType → Bool
is_of h u = is_host h (host_of u)

abbrev pub is_integer : PascalType → Bool
is_integer = is_of host.Integer

abbrev pub is_boolean : PascalType → Bool
is_boolean = is_of host.Boolean

abbrev pub is_set : PascalType → Bool
is_set (t.Set b at) = true
is_set t.EmptySet = true
is_set u = false

abbrev pub is_array : PascalType → Bool
is_array (t.Array at) = true
is_array u = false

-- the type integer itself, by whatever name
abbrev pub is_whole_integer : PascalType → Bool
is_whole_integer (t.Whole host.Integer) = true
is_whole_integer u = false

-- ---- what fits what (6.4.5, 6.4.6)

-- ordinal types fit where their hosts are the same
abbrev pub ordinals_fit : PascalType → PascalType → Bool
ordinals_fit a (t.Whole h) = is_of h a
ordinals_fit a (t.Subrange h at) = is_of h a
ordinals_fit a b = false

-- bases fit where they are one type; of a type expression at fault that is not judged
abbrev pub bases_fit : Base → Base → Bool
bases_fit set_base.Unknown b = true
bases_fit (set_base.Ordinal g) set_base.Unknown = true
bases_fit (set_base.Ordinal g) (set_base.Ordinal h) = same_host g h
bases_fit (set_base.Ordinal g) (set_base.Other b) = false
bases_fit (set_base.Other a) set_base.Unknown = true
bases_fit (set_base.Other a) (set_base.Ordinal h) = false
bases_fit (set_base.Other a) (set_base.Other b) = same_span a b

-- sets fit where their bases do, and the empty set fits every set
abbrev pub sets_fit : PascalType → PascalType → Bool
sets_fit (t.Set g a) (t.Set h b) = bases_fit g h
sets_fit (t.Set g a) t.EmptySet = true
sets_fit t.EmptySet b = is_set b
sets_fit a b = false

-- a value of one type may be assigned to a variable of the other; arrays and records fit where they are the same type
unfoldable pub fits : PascalType → PascalType → Bool
fits a b = ordinals_fit a b || (sets_fit a b || same_type a b)

-- a type is ordinal, and may be the base
abbrev pub may_be_of : PascalType → Base → Bool
may_be_of a (set_base.Ordinal h) = is_of h a
may_be_of a (set_base.Other at) = false
may_be_of a set_base.Unknown = is_ordinal a

-- a value of the one may be a member of the other (6.7.2.5)
abbrev pub may_be_in : PascalType → PascalType → Bool
may_be_in a (t.Set b at) = may_be_of a b
may_be_in a t.EmptySet = is_ordinal a
may_be_in a b = false

-- ---- operations (6.7.2)

-- a type, where the test holds
abbrev pub where_ : Bool → PascalType → Option PascalType
where_ test u = if test then Some u else None

abbrev pub integer : PascalType
integer = t.Whole host.Integer

abbrev pub boolean : PascalType
boolean = t.Whole host.Boolean

-- two sets of one base are operated on as sets of that base
abbrev pub joined : PascalType → PascalType → PascalType
joined t.EmptySet b = b
joined a b = a

-- the type of what an operation gives; none where the types of its operands do not fit in it
unfoldable pub gives : Operator → PascalType → PascalType → Option PascalType
gives Arithmetic a b = if is_integer a then where_ (is_integer b) integer else where_ (sets_fit a b) (joined a b)
gives Division a b = where_ (is_integer a && is_integer b) integer
gives Logical a b = where_ (is_boolean a && is_boolean b) boolean
gives Equality a b = where_ (ordinals_fit a b || sets_fit a b) boolean
gives Order a b = where_ (ordinals_fit a b) boolean
gives Inclusion a b = where_ (ordinals_fit a b || sets_fit a b) boolean
gives Membership a b = where_ (may_be_in a b) boolean

-- there is a type, and the test fails for it; what has no type is at fault elsewhere
abbrev pub fails : (PascalType → Bool) → Option PascalType → Bool
fails test None = false
fails test (Some u) = not (test u)

-- ---- values of ordinal types (6.4.2)

abbrev pub same_value : Value → Value → Bool
same_value v w = same_host v.host w.host && int_eq v.ordinal w.ordinal

-- ---- types with their values (6.4)

-- a type with so many values that each is one simple part
abbrev pub simple : Option PascalType → ℤ → ℤ → Denoted
simple u low high = record { type_ = u; least = low; greatest = high; simple_parts = 1; depth = 0 }

-- a type expression at fault denotes no type, and what it stands in is not judged for it again
abbrev pub at_fault : Denoted
at_fault = simple None (pos 0) (pos 0)

-- how many simple parts and how deep: no more is counted than one beyond what is allowed
abbrev pub counted_parts : ℕ → ℕ
counted_parts n = min 65537 n

abbrev pub counted_depth : ℕ → ℕ
counted_depth n = min 201 n

-- how many ordinals there are from one to another
unfoldable pub ordinal_count : ℤ → ℤ → ℕ
ordinal_count low high = if int_lt high low then 0 else counted_parts (nat_abs (high -ℤ low) + 1)

-- what has these parts, as a type of its own
unfoldable pub as_type : PascalType → Denoted → Denoted
as_type u d = record { type_ = Some u; least = pos 0; greatest = pos 0; simple_parts = d.simple_parts; depth = d.depth }

-- an array of these components, with this index
unfoldable pub over_index : Denoted → Denoted → Denoted
over_index d i = record { type_ = d.type_; least = pos 0; greatest = pos 0; simple_parts = counted_parts (ordinal_count i.least i.greatest * d.simple_parts); depth = counted_depth (d.depth + 1) }

-- an array of several indices is an array of arrays (6.4.3.2)
abbrev pub array_type : Span → Denoted → List Denoted → Denoted
array_type at component indices = as_type (t.Array at) (fold over_index component indices)

-- the fields so far, with one more
unfoldable pub with_field : Denoted → Denoted → Denoted
with_field d field = record { type_ = None; least = pos 0; greatest = pos 0; simple_parts = counted_parts (d.simple_parts + field.simple_parts); depth = max d.depth field.depth }

abbrev pub no_fields : Denoted
no_fields = record { type_ = None; least = pos 0; greatest = pos 0; simple_parts = 0; depth = 0 }

-- a record of these fields
unfoldable pub record_type : Span → Denoted → Denoted
record_type at fields = record { type_ = Some (t.Fields at); least = pos 0; greatest = pos 0; simple_parts = fields.simple_parts; depth = counted_depth (fields.depth + 1) }

-- a type as a base
abbrev pub as_base : PascalType → Base
as_base (t.Whole h) = set_base.Ordinal h
as_base (t.Subrange h at) = set_base.Ordinal h
as_base (t.Set b at) = set_base.Other at
as_base t.EmptySet = set_base.Unknown
as_base (t.Array at) = set_base.Other at
as_base (t.Fields at) = set_base.Other at

abbrev pub base_of : Option PascalType → Base
base_of None = set_base.Unknown
base_of (Some u) = as_base u

abbrev pub host_in : Option PascalType → Option Host
host_in None = None
host_in (Some u) = host_of u

-- a set with this base, whatever that is
unfoldable pub set_type : Span → Denoted → Denoted
set_type at d = simple (Some (t.Set (base_of d.type_) at)) (pos 0) (pos 0)

-- a subrange has one host, that of both of its bounds (6.4.2.4)
unfoldable pub subrange : Span → Option Value → Option Value → Denoted
subrange at None high = at_fault
subrange at (Some low) None = at_fault
subrange at (Some low) (Some high) = if same_host low.host high.host then simple (Some (t.Subrange low.host at)) low.ordinal high.ordinal else at_fault

-- ---- when a type expression is made wrong

-- its bounds are not of one ordinal type, or it is empty
unfoldable pub is_no_subrange : Option Value → Option Value → Bool
is_no_subrange None high = false
is_no_subrange (Some low) None = false
is_no_subrange (Some low) (Some high) = not (same_host low.host high.host) || int_lt high.ordinal low.ordinal

abbrev pub is_member_ordinal : ℤ → Bool
is_member_ordinal n = not (int_lt n (pos 0)) && not (int_lt (pos 255) n)

-- the base of a set is no ordinal type, or not in 0..255
unfoldable pub is_no_base : Denoted → Bool
is_no_base d = fails (λ u. is_ordinal u && (is_member_ordinal d.least && is_member_ordinal d.greatest)) d.type_

-- an index is integer or no ordinal type
unfoldable pub is_no_index : Denoted → Bool
is_no_index d = fails (λ u. is_ordinal u && not (is_whole_integer u)) d.type_
