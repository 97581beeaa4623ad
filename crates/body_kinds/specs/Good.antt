-- Whole codes of good kinds.
use Rattle.std.specs.Prelude.{◌≡◌, ℕ, IsTrue, is_some, List, Some}
use Rattle.body_code.specs.declared.unit.Entry.{Entry}
use Rattle.body_code.specs.declared.unit.Entry.TheVariants as entry
use Rattle.body_code.specs.declared.unit.CodeUnit.{CodeUnit}
use Rattle.body_code.specs.Units.{unit_of}
use Rattle.estelle_model.specs.Transitions.{Transition, Delay}
use Rattle.estelle_model.specs.Subject.{Subject, transition}
use Rattle.body_numbers.specs.declared.numbers.Numbers.{Numbers}
use Rattle.body_kinds.specs.Kinded.{Claims, IsKinded}

-- a body has a unit with the entry
abbrev pub IsThere : List CodeUnit → ℕ → Entry → Type 0
IsThere code body e = IsTrue (is_some (unit_of code body e))

-- the units of a body's transition are there
pub record HasClauses (code : List CodeUnit) (body k : ℕ) (t : Transition) : Type 0 where
  pub guard : IsThere code body (entry.Guard k)
  pub block : IsThere code body (entry.Block k)
  pub delay : (d : Delay) → t.delay ≡ Some d → IsThere code body (entry.Delay k)

-- and those of all transitions, and the initialization of the specification
pub record HasUnits (s : Subject) (code : List CodeUnit) : Type 0 where
  pub begins : IsThere code 0 entry.Initialize
  pub transitions : (body k : ℕ) (t : Transition) → transition s body k ≡ Some t → HasClauses code body k t

-- the units are fine with some claims, and none is wanting
pub record HasGoodKinds (s : Subject) (n : Numbers) (code : List CodeUnit) : Type 0 where
  pub claims : Claims
  pub kinded : IsKinded s n code claims
  pub units : HasUnits s code
