-- The rules 40 to 48, on types and routines.
use Rattle.std.specs.Prelude.{◌≡◌, ◌≢◌, ◌⊎◌, ℕ, ◌<◌, Bool, true, false, not, ◌||◌, List, Option, Some, None}
use Rattle.estelle_tree.specs.declared.span.Span.{Span}
use Rattle.estelle_tree.specs.declared.names.Names.{Names}
use Rattle.estelle_tree.specs.declared.tree.specification.Spec.{Spec}
use Rattle.scope_rules.specs.declared.refusal.Breach.{Breach}
use Rattle.scope_rules.specs.NameRules.{IsOne}
use Rattle.type_rules.specs.declared.types.PascalType.{PascalType}
use Rattle.type_rules.specs.declared.types.Value.{Value}
use Rattle.type_rules.specs.declared.sites.Access.{Access}
use Rattle.type_rules.specs.declared.sites.Access.TheVariants.{NoVariable, OwnVariable, OfChild}
use Rattle.type_rules.specs.declared.sites.Site.{Site}
use Rattle.type_rules.specs.declared.sites.Site.TheVariants.{Operation, Wants, ConstantAt, PriorityAt, CallOf, RoutineCalled, ForVariable, VarFormal, Assigns, CallsProcedure, EstelleStatement, TypeAt, LabelAt, ResultAt, CountedBy}
use Rattle.type_rules.specs.declared.sites.RoutineAt.{RoutineAt}
use Rattle.type_rules.specs.Types.{gives, fails, same_type, is_of, is_ordinal}
use Rattle.type_rules.specs.declared.sites.PlacedSite.{PlacedSite}
use Rattle.type_rules.specs.Sites.{is_wanted}
use Rattle.type_rules.specs.SpecificationSites.{sites}
use Rattle.type_rules.specs.Routines.{is_own, IsOpen}

-- both have a type, and this holds of them
abbrev pub Both : (PascalType → PascalType → Type 0) → Option PascalType → Option PascalType → Type 0
Both P None v = ⊥
Both P (Some u) None = ⊥
Both P (Some u) (Some v) = P u v

-- ---- 40: types do not fit, or a constant has no value

abbrev pub TypesDoNotFit : Span → Site → Type 0
TypesDoNotFit at (Operation o a b) = Both (λ u v. gives o u v ≡ None) a.type_ b.type_ × (at ≡ a.at)
TypesDoNotFit at (Wants w e) = (fails (is_wanted w) e.type_ ≡ true) × (at ≡ e.at)
TypesDoNotFit at (ConstantAt span v) = (v ≡ None) × (at ≡ span)
TypesDoNotFit at (PriorityAt span h) = (h ≡ None) × (at ≡ span)
TypesDoNotFit at x = ⊥

-- ---- 41: a call, `init` or `output` has another number of arguments than parameters

abbrev pub OtherNumber : Span → Site → Type 0
OtherNumber at (CallOf span parameters arguments) = (parameters ≢ arguments) × (at ≡ span)
OtherNumber at x = ⊥

-- ---- 42: an actual variable parameter is no variable, is not of the same type, or is a child's exported variable

abbrev pub NotTheVariable : Option PascalType → Access → Option PascalType → Type 0
NotTheVariable u NoVariable v = Unit {0}
NotTheVariable u OfChild v = Unit {0}
NotTheVariable u OwnVariable v = Both (λ a b. same_type a b ≡ false) u v

abbrev pub NoActualVariable : Span → Site → Type 0
NoActualVariable at (ForVariable u e) = NotTheVariable u e.access e.type_ × (at ≡ e.at)
NoActualVariable at x = ⊥

-- ---- 43: a function has a variable parameter, assigns a variable that is not its own, calls a procedure or has a
-- statement of Estelle; or a function's name is assigned outside it

-- a place stands in a function
abbrev pub in_function : Option RoutineAt → Bool
in_function None = false
in_function (Some r) = r.is_function

-- a name is declared in the routine round its place
abbrev pub is_own_in : Option RoutineAt → Option Span → Bool
is_own_in None decl = false
is_own_in (Some r) decl = is_own r.span decl

-- in a function any name, and elsewhere the name of a function, is assigned only where it is the routine's own
abbrev pub may_assign : Option RoutineAt → Option Span → Bool → Bool
may_assign r decl is_function = is_own_in r decl || not (in_function r || is_function)

abbrev pub HasEffect : Span → Option RoutineAt → Site → Type 0
HasEffect at r (VarFormal span) = (in_function r ≡ true) × (at ≡ span)
HasEffect at r (Assigns span decl is_function) = (may_assign r decl is_function ≡ false) × (at ≡ span)
HasEffect at r (CallsProcedure span) = (in_function r ≡ true) × (at ≡ span)
HasEffect at r (EstelleStatement span) = (in_function r ≡ true) × (at ≡ span)
HasEffect at r x = ⊥

-- ---- 44: a subrange is empty or its bounds are not of one ordinal type; a set's base is no ordinal type or not in
-- 0..255; an array's index is integer or no ordinal type; a type has more than 65,536 simple parts; or a type, with the
-- types that it names, nests arrays and records more than 200 deep

abbrev pub NoType : Span → Site → Type 0
NoType at (TypeAt span is_at_fault d) = ((is_at_fault ≡ true) ⊎ ((65536 < d.simple_parts) ⊎ (200 < d.depth))) × (at ≡ span)
NoType at x = ⊥

-- ---- 45: a `case` label is repeated or has another type

abbrev pub LabelWrong : Option PascalType → Option Value → Bool → Type 0
LabelWrong selector None is_repeated = ⊥
LabelWrong selector (Some v) is_repeated = (fails (is_of v.host) selector ≡ true) ⊎ (is_repeated ≡ true)

abbrev pub NoLabel : Span → Site → Type 0
NoLabel at (LabelAt span selector v is_repeated) = LabelWrong selector v is_repeated × (at ≡ span)
NoLabel at x = ⊥

-- ---- 46: a function's result type is not ordinal

abbrev pub NoResult : Span → Site → Type 0
NoResult at (ResultAt span u) = (fails is_ordinal u ≡ true) × (at ≡ span)
NoResult at x = ⊥

-- ---- 47: a routine of an enclosing body that is not closed is called

-- what a name names is open
abbrev pub NamesOpen : List PlacedSite → Option Span → Type 0
NamesOpen sites None = ⊥
NamesOpen sites (Some decl) = IsOpen sites decl.start

abbrev pub CallsOpen : List PlacedSite → Span → ℕ → Site → Type 0
CallsOpen sites at body (RoutineCalled span decl called) = NamesOpen sites decl × (called ≢ body) × (at ≡ span)
CallsOpen sites at body x = ⊥

-- ---- 48: the variable of `for` is not an ordinal variable; that it is one of the own body, routine or block follows from
-- what is visible

abbrev pub NotCounted : Span → Site → Type 0
NotCounted at (CountedBy span u) = (fails is_ordinal u ≡ true) × (at ≡ span)
NotCounted at x = ⊥

-- ---- the rules of a specification with its names

-- one of the sites breaks one of these rules
abbrev pub Broken : List PlacedSite → PlacedSite → Breach → Type 0
Broken sites p b =
    ((b.number ≡ 40) × TypesDoNotFit b.span p.site) ⊎ (((b.number ≡ 41) × OtherNumber b.span p.site) ⊎ (((b.number ≡ 42) × NoActualVariable b.span p.site)
    ⊎ (((b.number ≡ 43) × HasEffect b.span p.place.routine p.site) ⊎ (((b.number ≡ 44) × NoType b.span p.site) ⊎ (((b.number ≡ 45) × NoLabel b.span p.site)
    ⊎ (((b.number ≡ 46) × NoResult b.span p.site) ⊎ (((b.number ≡ 47) × CallsOpen sites b.span p.place.body p.site) ⊎ ((b.number ≡ 48) × NotCounted b.span p.site))))))))

-- a breach of these sites
abbrev pub SiteRuleBroken : List PlacedSite → Breach → Type 0
SiteRuleBroken sites b = (p : PlacedSite) × (IsOne p sites × Broken sites p b)

abbrev pub PascalRuleBroken : Spec → Names → Breach → Type 0
PascalRuleBroken s names b = SiteRuleBroken (sites s names) b
