-- Which routines are closed.
use Rattle.std.specs.Prelude.{◌≡◌, ℕ, nat_le, nat_lt, Bool, false, ◌&&◌, List, Option, Some, None}
use Rattle.estelle_tree.specs.declared.span.Span.{Span}
use Rattle.scope_rules.specs.NameRules.{IsOne}
use Rattle.type_rules.specs.declared.sites.Site.{Site}
use Rattle.type_rules.specs.declared.sites.Site.TheVariants.{EstelleStatement, VariableNamed, RoutineCalled}
use Rattle.type_rules.specs.declared.sites.RoutineAt.{RoutineAt}
use Rattle.type_rules.specs.declared.sites.PlacedSite.{PlacedSite}

-- a place stands in this range
abbrev pub stands_in : Span → Span → Bool
stands_in range at = nat_le range.start at.start && nat_lt at.start range.end

-- a name is declared in a routine that stands there: it is the routine's own
abbrev pub is_own : Span → Option Span → Bool
is_own range None = false
is_own range (Some at) = stands_in range at

-- a site stands in a routine
pub record In (sites : List PlacedSite) (r : RoutineAt) (s : Site) : Type 0 where
  pub placed : PlacedSite
  pub is_one : IsOne placed sites
  pub routine : placed.place.routine ≡ Some r
  pub site : placed.site ≡ s

-- A routine, by where its name is declared, is open where it has a statement of Estelle, names a variable or module
-- variable of a body, or calls an open routine. The others are closed: so routines that only call one another are
-- closed. Interaction points and states of a body are named by statements of Estelle alone.
pub data IsOpen (sites : List PlacedSite) : ℕ → Type 0 where
  estelle : (r : RoutineAt) (at : Span) → In sites r (EstelleStatement at) → IsOpen sites r.name.start
  of_body : (r : RoutineAt) (at decl : Span) → In sites r (VariableNamed at (Some decl)) → stands_in r.span decl ≡ false → IsOpen sites r.name.start
  calls : (r : RoutineAt) (at decl : Span) (body : ℕ) → In sites r (RoutineCalled at (Some decl) body) → IsOpen sites decl.start → IsOpen sites r.name.start
