-- The refusal: of all breaches the one with the least number of a rule, and of those of one rule the first node in the text.
use Rattle.std.specs.Prelude.{◌≡◌, ℕ, Bool, false, nat_eq, nat_lt, ◌||◌, ◌&&◌, if◌then◌else◌, Option, Some, None}
use Rattle.estelle_tree.specs.declared.span.Span.{Span}
use Rattle.scope_rules.specs.declared.refusal.Breach.{Breach}
use Rattle.scope_rules.specs.declared.refusal.Refusal.{Refusal}
use Rattle.scope_rules.specs.declared.refusal.Refusal.TheVariants.{Rule, Memory}

-- a node breaks a rule
abbrev pub breach : ℕ → Span → Breach
breach number at = record { number = number; span = at }

-- a breach where something is so
abbrev pub only_if : Bool → Breach → Option Breach
only_if broken b = if broken then Some b else None

-- a node stands before another: it starts earlier, or it starts there too and is the outer one
abbrev pub stands_before : Span → Span → Bool
stands_before a b = nat_lt a.start b.start || (nat_eq a.start b.start && nat_lt b.end a.end)

-- a breach is reported rather than another: its rule has a lesser number, or its node stands before and breaks the same rule
abbrev pub is_before : Breach → Breach → Bool
is_before a b = nat_lt a.number b.number || (nat_eq a.number b.number && stands_before a.span b.span)

-- of all breaches P, this is the one that is reported
pub record IsLeast (P : Breach → Type 0) (b : Breach) : Type 0 where
  pub broken : P b
  pub first : (c : Breach) → P c → is_before c b ≡ false

-- a refusal names the breach that is reported; that it may come for want of memory is not ruled out
abbrev pub Refuses : (Breach → Type 0) → Refusal → Type 0
Refuses P (Rule number span) = IsLeast P (breach number span)
Refuses P Memory = Unit {0}

-- the one of two that is reported
abbrev pub noted : Option Breach → Option Breach → Option Breach
noted old None = old
noted None (Some b) = Some b
noted (Some a) (Some b) = if is_before b a then Some b else Some a

-- the breach that is reported of all breaches P, or none where there is none
pub record IsFirst (P : Breach → Type 0) (first : Option Breach) : Type 0 where
  pub one : (b : Breach) → first ≡ Some b → P b
  pub all : (c : Breach) → P c → (b : Breach) × (first ≡ Some b) × (is_before c b ≡ false)
