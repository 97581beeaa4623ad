-- The rules 1 to 5, on names, and which declaration each name in use means.
use Rattle.std.specs.Prelude.{◌≡◌, ◌≢◌, ℕ, ◌⊎◌, Bool, true, false, nat_lt, ◌||◌, if◌then◌else◌, List, [], ◌∷◌, ◌++◌, Option, Some, None, IsSome}
use Rattle.std.specs.List.{flat_map}
use Rattle.std.specs.Str.{bytes_eq}
use Rattle.estelle_tree.specs.declared.span.Span.{Span}
use Rattle.estelle_tree.specs.declared.names.Use.{Use as Used}
use Rattle.estelle_tree.specs.declared.tree.name.Name.{Name}
use Rattle.estelle_tree.specs.declared.tree.specification.Spec.{Spec}
use Rattle.scope_rules.specs.declared.declaration.Denotes.{Denotes}
use Rattle.scope_rules.specs.declared.declaration.Need.TheVariants as need
use Rattle.scope_rules.specs.declared.declaration.Declared.{Declared}
use Rattle.scope_rules.specs.declared.event.Event.{Event}
use Rattle.scope_rules.specs.declared.event.Event.TheVariants.{Receive, Declare, Init, States}
use Rattle.scope_rules.specs.declared.refusal.Breach.{Breach}
use Rattle.scope_rules.specs.Kinds.{may_be}
use Rattle.scope_rules.specs.TypeEvents.{Events}
use Rattle.scope_rules.specs.SpecificationEvents.{events}
use Rattle.scope_rules.specs.declared.declaration.Members.{Members}
use Rattle.scope_rules.specs.declared.declaration.Members.TheVariants as members
use Rattle.scope_rules.specs.Visible.{Scopes, in_scope, member, inside_named, brought_by, received, inside_of}
use Rattle.scope_rules.specs.Scopes.{start, after, after_one, declare_one, Sought, sought}

-- x is one of xs
abbrev pub IsOne : {A : Type 0} → A → List A → Type 0
IsOne x [] = ⊥
IsOne x (y ∷ ys) = (x ≡ y) ⊎ IsOne x ys

-- somewhere among events that begin in these scopes this holds, of the scopes that stand there and of the event
pub record Somewhere (P : Scopes → Event → Type 0) (s : Scopes) (es : Events) : Type 0 where
  pub before : Events
  pub event : Event
  pub rest : Events
  pub here : es ≡ before ++ event ∷ rest
  pub holds : P (after s before) event

-- ---- 1: a name is declared twice in one scope

-- of two declarations of a name, the second in the text
abbrev pub later : Span → Span → Span
later a b = if nat_lt b.start a.start then a else b

-- of names that are declared one after another, one is declared in the scope before, and this is the second of the two
abbrev pub SecondOf : Scopes → List Name → Denotes → Members → Span → Type 0
SecondOf s [] k inside at = ⊥
SecondOf s (x ∷ xs) k inside at = ((d : Declared) × ((in_scope s x.word ≡ Some d) × (at ≡ later d.at x.span))) ⊎ SecondOf (declare_one s x k inside) xs k inside at

-- the names in the list behind an interaction
abbrev pub names_listed : Option (List Name) → List Name
names_listed None = []
names_listed (Some names) = names

abbrev pub is_listed : List ℕ → List Name → Bool
is_listed w [] = false
is_listed w (x ∷ xs) = bytes_eq w x.word || is_listed w xs

-- a name in the list behind an interaction is a parameter's, and named as what stands on the way already
abbrev pub ListedParameter : Scopes → Members → List Name → Span → Type 0
ListedParameter s parameters listed at = (x : Name) × (IsOne x listed × IsSome (member s parameters x.word) × IsSome (in_scope s x.word) × (at ≡ x.span))

-- a parameter that the list lacks is named as what stands on the way already
abbrev pub UnlistedParameter : Scopes → Members → List Name → Type 0
UnlistedParameter s parameters listed = (w : List ℕ) × (IsSome (member s parameters w) × IsSome (in_scope s w) × (is_listed w listed ≡ false))

-- a parameter of an interaction is named as what stands on the way already: at its name in the list behind the interaction, and where none stands there, at the interaction
abbrev pub SecondParameter : Scopes → Members → Name → List Name → Span → Type 0
SecondParameter s parameters interaction listed at = ListedParameter s parameters listed at ⊎ (UnlistedParameter s parameters listed × (at ≡ interaction.span))

abbrev pub DeclaredTwice : Span → Scopes → Event → Type 0
DeclaredTwice at s (Declare names k inside) = SecondOf s names k (inside_of s inside) at
DeclaredTwice at s (Receive ip interaction listed) = SecondParameter s (received s ip interaction) interaction (names_listed listed) at
DeclaredTwice at s e = ⊥

-- ---- 2: a name is not visible

abbrev pub NotVisible : Span → Scopes → Event → Type 0
NotVisible at s e = (x : Sought) × (IsOne x (sought s e) × (x.found ≡ None) × (at ≡ x.name.span))

-- ---- 3: a visible name is not of the kind that its place needs

abbrev pub OfOtherKind : Span → Scopes → Event → Type 0
OfOtherKind at s e = (x : Sought) × (d : Declared) × (IsOne x (sought s e) × (x.found ≡ Some d) × (may_be x.need d.denotes ≡ false) × (at ≡ x.name.span))

-- ---- 4: a body has states but no `initialize` with `to`, or has no states but `to` with a state or `from`

abbrev pub StatesAtFault : Span → Scopes → Event → Type 0
StatesAtFault at s (States place declared initial transitions) = (((declared ≡ true) × (initial ≡ false)) ⊎ ((declared ≡ false) × ((initial ≡ true) ⊎ (transitions ≡ true)))) × (at ≡ place)
StatesAtFault at s e = ⊥

-- ---- 5: an `init` names a body of another header than the module variable's

abbrev pub OfOtherHeader : Span → Scopes → Event → Type 0
OfOtherHeader at s (Init modvar body) = (h : ℕ) × (k : ℕ) × ((inside_named s modvar need.ModuleVariable ≡ members.KeptAt h) × (brought_by s (inside_named s body need.Body) ≡ members.KeptAt k) × (h ≢ k) × (at ≡ body.span))
OfOtherHeader at s e = ⊥

-- ---- the rules of a specification

-- a node of an event breaks one of these rules
abbrev pub Broken : Breach → Scopes → Event → Type 0
Broken b s e = ((b.number ≡ 1) × DeclaredTwice b.span s e) ⊎ (((b.number ≡ 2) × NotVisible b.span s e) ⊎ (((b.number ≡ 3) × OfOtherKind b.span s e) ⊎ (((b.number ≡ 4) × StatesAtFault b.span s e) ⊎ ((b.number ≡ 5) × OfOtherHeader b.span s e))))

abbrev pub Breaks : Events → Breach → Type 0
Breaks es b = Somewhere (Broken b) start es

abbrev pub NameRuleBroken : Spec → Breach → Type 0
NameRuleBroken spec = Breaks (events spec)

-- a name that means something, with the name in its declaration
abbrev pub used_at : Name → Option Declared → List Used
used_at x None = []
used_at x (Some d) = record { at = x.span; decl = d.at } ∷ []

abbrev pub used : Sought → List Used
used x = used_at x.name x.found

abbrev pub names_from : Scopes → Events → List Used
names_from s [] = []
names_from s (e ∷ es) = flat_map used (sought s e) ++ names_from (after_one s e) es

-- for each name in use the name in its declaration
abbrev pub names_of : Spec → List Used
names_of spec = names_from start (events spec)
