-- Names that two places have in common.
use Rattle.std.specs.Prelude.{ℕ, Bool, false, ◌||◌, ◌&&◌, not, if◌then◌else◌, List, [], ◌∷◌, Option, Some, None, slice_get}
use Rattle.std.specs.Option.{is_some}
use Rattle.scope_rules.specs.declared.declaration.Declared.{Declared}
use Rattle.scope_rules.specs.Visible.{Word, Scope, Level, in_names, member_names, is_further, earlier}

-- of two declarations of one name, the one that a scope has
abbrev pub first_of : Option Declared → Declared → Declared
first_of None d = d
first_of (Some e) d = earlier e d

-- a name stands among others, and not among those that are left out
abbrev pub is_among : Word → Scope → Scope → Bool
is_among w others without = is_some (in_names w others) && not (is_some (in_names w without))

-- the name at this place of a scope stands among others
abbrev pub entry_shares : Option (Word × Declared) → Scope → Scope → Bool
entry_shares None others without = false
entry_shares (Some e) others without = is_among e.0 others without

abbrev pub at_shares : Scope → ℕ → Scope → Scope → Bool
at_shares names i others without = entry_shares (slice_get names i) others without

-- some name stands in both, and not among those that are left out
abbrev pub shares : Scope → Scope → Scope → Bool
shares [] others without = false
shares (e ∷ es) others without = is_among e.0 others without || shares es others without

abbrev pub shares_level : List (ℕ × Scope) → Scope → Scope → Level → Bool
shares_level kept others without l = shares l.names others without || shares (member_names kept l.within) others without

-- some of these names stands in the innermost scope
abbrev pub shares_scope : List (ℕ × Scope) → Scope → Scope → List Level → Bool
shares_scope kept others without [] = false
shares_scope kept others without (l ∷ outer) = shares_level kept others without l || (if is_further l.form then shares_scope kept others without outer else false)
