-- What is visible: what a name means, what stands in a scope, and what stands behind a dot.
use Rattle.std.specs.Prelude.{ℕ, Bool, true, false, nat_eq, nat_lt, ◌||◌, ◌&&◌, if◌then◌else◌, List, [], ◌∷◌, Option, Some, None}
use Rattle.std.specs.Option.{unwrap_or}
use Rattle.std.specs.Map.{lookup}
use Rattle.std.specs.Str.{bytes_eq}
use Rattle.estelle_tree.specs.declared.tree.name.Name.{Name}
use Rattle.scope_rules.specs.declared.declaration.Need.{Need}
use Rattle.scope_rules.specs.declared.declaration.Need.TheVariants as need
use Rattle.scope_rules.specs.declared.declaration.Inside.{Inside}
use Rattle.scope_rules.specs.declared.declaration.Inside.TheVariants.{Nothing, At, Brought}
use Rattle.scope_rules.specs.declared.declaration.Members.{Members}
use Rattle.scope_rules.specs.declared.declaration.Members.TheVariants as members
use Rattle.scope_rules.specs.declared.declaration.Declared.{Declared}
use Rattle.scope_rules.specs.declared.event.ScopeForm.{ScopeForm}
use Rattle.scope_rules.specs.declared.event.ScopeForm.TheVariants as form
use Rattle.scope_rules.specs.Kinds.{may_be, is_private, is_of_channel}

abbrev pub Word : Type 0
Word = List ℕ

-- the names of a scope so far, each with its declaration; of two declarations of one name, the first in the text
abbrev pub Scope : Type 0
Scope = List (Word × Declared)

-- a scope that is open: its own names, and the members that belong to it too, as the inside of a header does to the scope of each of its bodies
pub record Level : Type 0 where
  pub form : ScopeForm
  pub names : Scope
  pub within : Members

-- what stands after some events: the open scopes, innermost first; the scopes that are kept, by places; and by places what was noted there: what the name of a type, a channel or a header brings, and an array type by its components
pub record Scopes : Type 0 where
  pub levels : List Level
  pub kept : List (ℕ × Scope)
  pub brought : List (ℕ × Members)

-- the names that are kept for a place
abbrev pub kept_at : List (ℕ × Scope) → ℕ → Scope
kept_at kept at = unwrap_or (lookup (nat_eq at) kept) []

-- the names of members
abbrev pub member_names : List (ℕ × Scope) → Members → Scope
member_names kept members.Nothing = []
member_names kept (members.KeptAt at) = kept_at kept at
member_names kept members.AtFault = []

abbrev pub in_names : Word → Scope → Option Declared
in_names w names = lookup (bytes_eq w) names

-- ---- what stands in a scope: a header's inside belongs to the scope of each of its bodies, and the parameters of a `when` to that of their way

-- of two declarations of one name, the first in the text
abbrev pub earlier : Declared → Declared → Declared
earlier d e = if nat_lt e.at.start d.at.start then e else d

-- the same, where there may be none
abbrev pub earliest : Option Declared → Option Declared → Option Declared
earliest None e = e
earliest (Some d) None = Some d
earliest (Some d) (Some e) = Some (earlier d e)

-- what a name is declared as in one open scope: of all its parts, the first in the text
abbrev pub in_level : List (ℕ × Scope) → Word → Level → Option Declared
in_level kept w l = earliest (in_names w l.names) (in_names w (member_names kept l.within))

abbrev pub is_further : ScopeForm → Bool
is_further form.Further = true
is_further f = false

abbrev pub is_body : ScopeForm → Bool
is_body form.Body = true
is_body f = false

-- what a name is declared as in the innermost scope so far, of which several levels may be parts: the first in the text
abbrev pub in_scope_of : List (ℕ × Scope) → Word → List Level → Option Declared
in_scope_of kept w [] = None
in_scope_of kept w (l ∷ outer) = earliest (in_level kept w l) (if is_further l.form then in_scope_of kept w outer else None)

abbrev pub in_scope : Scopes → Word → Option Declared
in_scope s w = in_scope_of s.kept w s.levels

-- ---- what a name means: an inner scope hides outer names

-- in an inner body the variables, module variables, ips and states of the enclosing bodies are not visible
abbrev pub seen : Bool → Declared → Option Declared
seen outside d = if outside && is_private d.denotes then None else Some d

-- what is found in a scope hides what is further out, seen or not
abbrev pub hiding : Bool → Option Declared → Option Declared → Option Declared
hiding outside None more = more
hiding outside (Some d) more = seen outside d

-- roles and interactions are no names alone, and hide nothing
abbrev pub alone : Option Declared → Option Declared
alone None = None
alone (Some d) = if is_of_channel d.denotes then None else Some d

abbrev pub meaning_of : List (ℕ × Scope) → Word → Bool → List Level → Option Declared
meaning_of kept w outside [] = None
meaning_of kept w outside (l ∷ outer) = hiding outside (alone (in_level kept w l)) (meaning_of kept w (outside || is_body l.form) outer)

abbrev pub meaning : Scopes → Word → Option Declared
meaning s w = meaning_of s.kept w false s.levels

-- ---- what stands behind a dot

-- what a name brings, where it means what its place needs; else the name itself is at fault
abbrev pub reached : Need → Option Declared → Members
reached n None = members.AtFault
reached n (Some d) = if may_be n d.denotes then d.inside else members.AtFault

-- what a name means among members
abbrev pub member : Scopes → Members → Word → Option Declared
member s m w = in_names w (member_names s.kept m)

-- what was noted there
abbrev pub brought_at : Scopes → ℕ → Members
brought_at s at = unwrap_or (lookup (nat_eq at) s.brought) members.Nothing

-- what is noted at the place of these members: of an array type what stands behind an index, of a body the inside of its header; an index on what is no array reaches nothing
abbrev pub brought_by : Scopes → Members → Members
brought_by s members.Nothing = members.Nothing
brought_by s (members.KeptAt at) = brought_at s at
brought_by s members.AtFault = members.AtFault

-- what a name brings, where it means what is needed
abbrev pub inside_named : Scopes → Name → Need → Members
inside_named s x n = reached n (meaning s x.word)

-- what a declaration brings
abbrev pub inside_of : Scopes → Inside → Members
inside_of s Nothing = members.Nothing
inside_of s (At span) = members.KeptAt span.start
inside_of s (Brought span) = brought_at s span.start

-- the parameters of an interaction of an ip
abbrev pub received : Scopes → Name → Name → Members
received s ip interaction = reached need.Interaction (member s (inside_named s ip need.Ip) interaction.word)
