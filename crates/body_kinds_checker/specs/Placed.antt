-- Units at their places, one after another.
use Rattle.std.specs.Prelude.{ℕ, List, [], ◌∷◌, Option, Some, None}
use Rattle.body_code.specs.declared.unit.CodeUnit.{CodeUnit}
use Rattle.body_code.specs.Units.{Place}
use Rattle.estelle_model.specs.Subject.{Subject}
use Rattle.body_numbers.specs.declared.numbers.Numbers.{Numbers}
use Rattle.body_kinds.specs.Kinded.{Claims, HasStacks, IsFor}

module _ (s : Subject) (n : Numbers) (code : List CodeUnit) (claims : Claims) where
  -- the unit at a place is fine with what is claimed of it, and that is what it is for
  abbrev pub IsGood : Option Place → CodeUnit → Type 0
  IsGood None u = Unit {0}
  IsGood (Some p) u = HasStacks s n code claims p.0 u (claims p.0 p.1) × IsFor s p.0 p.1 u (claims p.0 p.1).result

  abbrev pub AreGood : List (Option Place × CodeUnit) → Type 0
  AreGood [] = Unit {0}
  AreGood (x ∷ us) = IsGood x.0 x.1 × AreGood us
