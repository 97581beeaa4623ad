-- How what a tree says of names changes what is visible, and what each name in use means.
use Rattle.std.specs.Prelude.{ℕ, nat_eq, if◌then◌else◌, List, [], ◌∷◌, ◌++◌, Option, Some, None}
use Rattle.std.specs.Str.{bytes_eq}
use Rattle.estelle_tree.specs.declared.tree.name.Name.{Name}
use Rattle.scope_rules.specs.declared.declaration.Denotes.{Denotes}
use Rattle.scope_rules.specs.declared.declaration.Need.{Need}
use Rattle.scope_rules.specs.declared.declaration.Need.TheVariants as need
use Rattle.scope_rules.specs.declared.declaration.Members.{Members}
use Rattle.scope_rules.specs.declared.declaration.Members.TheVariants as members
use Rattle.scope_rules.specs.declared.declaration.Declared.{Declared}
use Rattle.scope_rules.specs.declared.event.Step.{Step}
use Rattle.scope_rules.specs.declared.event.Step.TheVariants as step
use Rattle.scope_rules.specs.declared.event.Event.{Event}
use Rattle.scope_rules.specs.declared.event.Event.TheVariants.{Open, Close, Keep, Import, Receive, Array, Declare, Use, By, Init, States}
use Rattle.scope_rules.specs.Kinds.{is_role, is_noted}
use Rattle.scope_rules.specs.TypeEvents.{Events}
use Rattle.scope_rules.specs.Visible.{Word, Scope, Level, Scopes, earlier, in_scope, meaning, reached, member, brought_by, inside_named, inside_of, received}

abbrev pub start : Scopes
start = record { levels = []; kept = []; brought = [] }

-- with the value of a place
abbrev pub put : {A : Type 0} → ℕ → A → List (ℕ × A) → List (ℕ × A)
put at v [] = (at, v) ∷ []
put at v (e ∷ es) = if nat_eq at e.0 then (e.0, v) ∷ es else e ∷ put at v es

-- ---- how events change what is visible

-- a scope with one more declaration
abbrev pub declared : Word → Declared → Scope → Scope
declared w d [] = (w, d) ∷ []
declared w d (e ∷ es) = if bytes_eq w e.0 then (e.0, earlier e.1 d) ∷ es else e ∷ declared w d es

abbrev pub declaration : Name → Denotes → Members → Declared
declaration x k m = record { at = x.span; denotes = k; inside = m }

-- with something done to the innermost scope
abbrev pub innermost : (Level → Level) → List Level → List Level
innermost f [] = []
innermost f (l ∷ outer) = f l ∷ outer

abbrev pub declare_level : Word → Declared → Level → Level
declare_level w d l = record { form = l.form; names = declared w d l.names; within = l.within }

-- with one name declared in the innermost scope
abbrev pub declare_word : Scopes → Word → Declared → Scopes
declare_word s w d = record { levels = innermost (declare_level w d) s.levels; kept = s.kept; brought = s.brought }

abbrev pub declare_one : Scopes → Name → Denotes → Members → Scopes
declare_one s x k m = declare_word s x.word (declaration x k m)

abbrev pub declare_all : Scopes → List Name → Denotes → Members → Scopes
declare_all s [] k m = s
declare_all s (x ∷ xs) k m = declare_all (declare_one s x k m) xs k m

abbrev pub below : List Level → List Level
below [] = []
below (l ∷ outer) = outer

abbrev pub names_of_top : List Level → Scope
names_of_top [] = []
names_of_top (l ∷ outer) = l.names

abbrev pub join_level : Members → Level → Level
join_level m l = record { form = l.form; names = l.names; within = m }

-- members belong to the innermost scope too
abbrev pub join_at : Scopes → Members → Scopes
join_at s m = record { levels = innermost (join_level m) s.levels; kept = s.kept; brought = s.brought }

-- the innermost scope closes, and its names are kept for a place
abbrev pub keep_at : Scopes → ℕ → Scopes
keep_at s at = record { levels = below s.levels; kept = put at (names_of_top s.levels) s.kept; brought = s.brought }

-- this is noted there
abbrev pub bring_at : Scopes → ℕ → Members → Scopes
bring_at s at m = record { levels = s.levels; kept = s.kept; brought = put at m s.brought }

-- what a name brings is noted where it stands
abbrev pub note_name : Scopes → Name → Need → Scopes
note_name s x n = record { levels = s.levels; kept = s.kept; brought = if is_noted n then put x.span.start (inside_named s x n) s.brought else s.brought }

abbrev pub after_one : Scopes → Event → Scopes
after_one s (Open f) = record { levels = record { form = f; names = []; within = members.Nothing } ∷ s.levels; kept = s.kept; brought = s.brought }
after_one s Close = record { levels = below s.levels; kept = s.kept; brought = s.brought }
after_one s (Keep span) = keep_at s span.start
after_one s (Import h) = join_at s (inside_named s h need.Header)
after_one s (Receive ip interaction names) = join_at s (received s ip interaction)
after_one s (Array span components) = bring_at s span.start (inside_of s components)
after_one s (Declare names k inside) = declare_all s names k (inside_of s inside)
after_one s (Use x n steps) = note_name s x n
after_one s (By role) = s
after_one s (Init modvar body) = s
after_one s (States at states initial transitions) = s

-- the scopes after some events
abbrev pub after : Scopes → Events → Scopes
after s [] = s
after s (e ∷ es) = after (after_one s e) es

-- ---- the names in use

-- a name in use, what its place needs, and what it means
pub record Sought : Type 0 where
  pub name : Name
  pub need : Need
  pub found : Option Declared

abbrev pub sought_name : Name → Need → Option Declared → Sought
sought_name x n found = record { name = x; need = n; found = found }

-- a role is sought only among the roles: that a name is none of them is no rule on names
abbrev pub sought_role : Name → Option Declared → List Sought
sought_role x None = []
sought_role x (Some d) = if is_role d.denotes then sought_name x need.Role (Some d) ∷ [] else []

-- the name in one step, which is looked for among members
abbrev pub sought_step : Scopes → Members → Step → List Sought
sought_step s m step.Index = []
sought_step s m (step.Member x n) = sought_name x n (member s m x.word) ∷ []
sought_step s m (step.Role x) = sought_role x (member s m x.word)

-- what a step brings
abbrev pub after_step : Scopes → Members → Step → Members
after_step s m step.Index = brought_by s m
after_step s m (step.Member x n) = reached n (member s m x.word)
after_step s m (step.Role x) = members.Nothing

-- the names behind dots: each is looked for among what stands before it brings; where that is at fault, the rest is not judged
abbrev pub sought_steps : Scopes → Members → List Step → List Sought
sought_steps s m [] = []
sought_steps s members.AtFault (x ∷ more) = []
sought_steps s members.Nothing (x ∷ more) = sought_step s members.Nothing x ++ sought_steps s (after_step s members.Nothing x) more
sought_steps s (members.KeptAt at) (x ∷ more) = sought_step s (members.KeptAt at) x ++ sought_steps s (after_step s (members.KeptAt at) x) more

-- the names that an event uses, among these scopes
abbrev pub sought : Scopes → Event → List Sought
sought s (Use x n steps) = sought_name x n (meaning s x.word) ∷ sought_steps s (reached n (meaning s x.word)) steps
sought s (By role) = sought_role role (in_scope s role.word)
sought s e = []
