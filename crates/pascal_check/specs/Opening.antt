-- Open routines, as they are gathered from the sites.
use Rattle.std.specs.Prelude.{◌≡◌, ◌↔◌, ℕ, nat_eq, Bool, true, false, not, List, [], ◌∷◌, ◌++◌, Option, Some, None, if◌then◌else◌, slice_get}
use Rattle.indexmap.specs.IndexSet.{insert_key, insert_all}
use Rattle.estelle_tree.specs.declared.span.Span.{Span}
use Rattle.scope_rules.specs.NameRules.{IsOne}
use Rattle.type_rules.specs.declared.sites.Site.{Site}
use Rattle.type_rules.specs.declared.sites.Site.TheVariants.{EstelleStatement, VariableNamed, RoutineCalled}
use Rattle.type_rules.specs.declared.sites.RoutineAt.{RoutineAt}
use Rattle.type_rules.specs.declared.sites.PlacedSite.{PlacedSite}
use Rattle.type_rules.specs.Routines.{stands_in}
use Rattle.pascal_check.specs.declared.open_routines.Call.{Call}

-- what is declared there is no routine's own
abbrev pub is_of_body : RoutineAt → Option Span → Bool
is_of_body r None = false
is_of_body r (Some at) = not (stands_in r.span at)

-- a site opens the routine that it stands in
abbrev pub opens : RoutineAt → Site → Bool
opens r (EstelleStatement at) = true
opens r (VariableNamed at declared) = is_of_body r declared
opens r s = false

abbrev pub opened_in : Site → Option RoutineAt → Option ℕ
opened_in s None = None
opened_in s (Some r) = if opens r s then Some r.name.start else None

-- the routine that is open by this site
abbrev pub opened_by : PlacedSite → Option ℕ
opened_by p = opened_in p.site p.place.routine

abbrev pub start_of : Option Span → Option ℕ
start_of None = None
start_of (Some at) = Some at.start

-- the routine that a site calls
abbrev pub called_at : Site → Option ℕ
called_at (RoutineCalled at declared body) = start_of declared
called_at s = None

abbrev pub call_by : RoutineAt → Option ℕ → Option Call
call_by r None = None
call_by r (Some called) = Some (record { called = called; caller = r.name.start })

abbrev pub call_from : Option ℕ → Option RoutineAt → Option Call
call_from called None = None
call_from called (Some r) = call_by r called

-- the call that a site in a routine is
abbrev pub call_in : PlacedSite → Option Call
call_in p = call_from (called_at p.site) p.place.routine

abbrev pub with_opened : List ℕ → Option ℕ → List ℕ
with_opened opened None = opened
with_opened opened (Some r) = insert_key nat_eq opened r

-- the open routines, with those that these sites open
abbrev pub opened_after : List ℕ → List PlacedSite → List ℕ
opened_after opened [] = opened
opened_after opened (p ∷ ps) = opened_after (with_opened opened (opened_by p)) ps

-- the caller, where this is called
abbrev pub caller_of : Call → ℕ → List ℕ
caller_of c x = if nat_eq c.called x then c.caller ∷ [] else []

abbrev pub caller_at : Option Call → ℕ → List ℕ
caller_at None x = []
caller_at (Some c) x = caller_of c x

-- the routines that call this one
abbrev pub callers_in : List PlacedSite → ℕ → List ℕ
callers_in [] x = []
callers_in (p ∷ ps) x = caller_at (call_in p) x ++ callers_in ps x

-- the callers that are noted for a routine
abbrev pub noted_callers : Option (List ℕ) → List ℕ
noted_callers None = []
noted_callers (Some callers) = callers

abbrev pub with_callers_of : (ℕ → List ℕ) → List ℕ → Option ℕ → List ℕ
with_callers_of callers opened None = opened
with_callers_of callers opened (Some r) = insert_all nat_eq opened (callers r)

-- the open routines, with the callers of the one at this place
abbrev pub with_callers : (ℕ → List ℕ) → List ℕ → ℕ → List ℕ
with_callers callers opened at = with_callers_of callers opened (slice_get opened at)

-- a routine that is among these, or calls one that is reached
pub data IsReached (callers : ℕ → List ℕ) (opened : List ℕ) : ℕ → Type 0 where
  first : (x : ℕ) → IsOne x opened → IsReached callers opened x
  further : (x y : ℕ) → IsReached callers opened y → IsOne x (callers y) → IsReached callers opened x

-- the routines that are reached from some
pub record Follows (callers : ℕ → List ℕ) (opened all : List ℕ) : Type 0 where
  pub kept : (x : ℕ) → IsOne x opened → IsOne x all
  pub reached : (x : ℕ) → IsOne x all → IsReached callers opened x
  pub followed : (x y : ℕ) → IsOne y all → IsOne x (callers y) → IsOne x all

-- a test says what is so
abbrev pub Decides : (ℕ → Bool) → (ℕ → Type 0) → Type 0
Decides test P = (x : ℕ) → (test x ≡ true) ↔ P x
