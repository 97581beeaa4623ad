-- What each event breaks, and the breach that is reported of all.
use Rattle.std.specs.Prelude.{ℕ, Bool, true, false, nat_eq, ◌&&◌, ◌||◌, not, List, [], ◌∷◌, Option, Some, None}
use Rattle.std.specs.Option.{is_some}
use Rattle.estelle_tree.specs.declared.span.Span.{Span}
use Rattle.estelle_tree.specs.declared.tree.name.Name.{Name}
use Rattle.scope_rules.specs.declared.declaration.Denotes.{Denotes}
use Rattle.scope_rules.specs.declared.declaration.Denotes.TheVariants as d
use Rattle.scope_rules.specs.declared.declaration.Need.TheVariants as need
use Rattle.scope_rules.specs.declared.declaration.Declared.{Declared}
use Rattle.scope_rules.specs.declared.event.Event.{Event}
use Rattle.scope_rules.specs.declared.event.Event.TheVariants.{Receive, Declare, Use, By, Init, States}
use Rattle.scope_rules.specs.declared.refusal.Breach.{Breach}
use Rattle.scope_rules.specs.Least.{breach, only_if, noted}
use Rattle.scope_rules.specs.Kinds.{may_be}
use Rattle.scope_rules.specs.TypeEvents.{Events}
use Rattle.scope_rules.specs.declared.declaration.Members.{Members}
use Rattle.scope_rules.specs.declared.declaration.Members.TheVariants as members
use Rattle.scope_rules.specs.Visible.{Scopes, Scope, in_scope, member, member_names, inside_named, brought_by, received, inside_of}
use Rattle.scope_rules.specs.Scopes.{declared, declaration, declare_one, after_one, Sought, sought}
use Rattle.scope_rules.specs.NameRules.{later, names_listed}
use Rattle.scope_names.specs.Common.{shares_scope}

-- 1
abbrev pub twice : Option Declared → Span → Option Breach
twice None at = None
twice (Some d) at = Some (breach 1 (later d.at at))

abbrev pub twices : Option Breach → Scopes → List Name → Denotes → Members → Option Breach
twices first s [] k inside = first
twices first s (x ∷ xs) k inside = twices (noted first (twice (in_scope s x.word) x.span)) (declare_one s x k inside) xs k inside

abbrev pub is_second : Scopes → Members → Name → Bool
is_second s parameters x = is_some (member s parameters x.word) && is_some (in_scope s x.word)

abbrev pub listed_twice : Option Breach → Scopes → Members → List Name → Option Breach
listed_twice first s parameters [] = first
listed_twice first s parameters (x ∷ xs) = listed_twice (noted first (only_if (is_second s parameters x) (breach 1 x.span))) s parameters xs

-- the names of a list, as a scope behind another
abbrev pub listed_scope : Scope → List Name → Scope
listed_scope names [] = names
listed_scope names (x ∷ xs) = listed_scope (declared x.word (declaration x d.Variable members.Nothing) names) xs

abbrev pub unlisted_twice : Scopes → Members → Name → Scope → Option Breach
unlisted_twice s parameters interaction listed = only_if (shares_scope s.kept (member_names s.kept parameters) listed s.levels) (breach 1 interaction.span)

abbrev pub parameter_twice : Scopes → Members → Name → List Name → Option Breach
parameter_twice s parameters interaction listed = noted (listed_twice None s parameters listed) (unlisted_twice s parameters interaction (listed_scope [] listed))

-- 2 and 3
abbrev pub misused_as : Sought → Option Declared → Option Breach
misused_as x None = Some (breach 2 x.name.span)
misused_as x (Some d) = only_if (not (may_be x.need d.denotes)) (breach 3 x.name.span)

abbrev pub misused : Sought → Option Breach
misused x = misused_as x x.found

abbrev pub misuses : Option Breach → List Sought → Option Breach
misuses first [] = first
misuses first (x ∷ xs) = misuses (noted first (misused x)) xs

-- 4
abbrev pub states_fault : Span → Bool → Bool → Bool → Option Breach
states_fault at true initial transitions = only_if (not initial) (breach 4 at)
states_fault at false initial transitions = only_if (initial || transitions) (breach 4 at)

-- 5
abbrev pub header_fault : Members → Members → Span → Option Breach
header_fault (members.KeptAt h) (members.KeptAt k) at = only_if (not (nat_eq h k)) (breach 5 at)
header_fault m n at = None

-- what stands before a dot is at fault
abbrev pub is_at_fault : Members → Bool
is_at_fault members.AtFault = true
is_at_fault m = false

-- what an event breaks, among these scopes
abbrev pub breach_at : Scopes → Event → Option Breach
breach_at s (Declare names k inside) = twices None s names k (inside_of s inside)
breach_at s (Receive ip interaction listed) = parameter_twice s (received s ip interaction) interaction (names_listed listed)
breach_at s (Use x n steps) = misuses None (sought s (Use x n steps))
breach_at s (By role) = misuses None (sought s (By role))
breach_at s (Init modvar body) = header_fault (inside_named s modvar need.ModuleVariable) (brought_by s (inside_named s body need.Body)) body.span
breach_at s (States at declared initial transitions) = states_fault at declared initial transitions
breach_at s e = None

-- the breach that is reported of these events
abbrev pub least : Option Breach → Scopes → Events → Option Breach
least first s [] = first
least first s (e ∷ es) = least (noted first (breach_at s e)) (after_one s e) es
