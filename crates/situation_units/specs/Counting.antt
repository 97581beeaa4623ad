-- How many outputs there can be, and how many children an instance can have.
use Rattle.std.specs.Prelude.{◌≡◌, ◌≤◌, ◌+◌, ℕ, List, Option, Some, None}
use Rattle.std.specs.FinMap as map
use Rattle.estelle_tree.specs.Paths.{Path}
use Rattle.estelle_model.specs.declared.effect.Out.{Out}
use Rattle.estelle_model.specs.Core.{Instance}
use Rattle.estelle_model.specs.Subject.{Subject}
use Rattle.estelle_model.specs.Situation.{Situation}
use Rattle.estelle_model.specs.Firing.{Ran, start, bare, fire}

abbrev pub births_of : Option Instance → ℕ
births_of None = 0
births_of (Some i) = i.births

-- how many children the instance at a path has had, if it is there
abbrev pub births_at : Path → Situation → ℕ
births_at p g = births_of (map.get g.core.instances p)

-- at most so many more than before
pub record IsWithinUnits (budget : ℕ) (before after : Situation) : Type 0 where
  pub made : after.made ≤ before.made + budget
  pub births : (p : Path) → births_at p after ≤ births_at p before + budget

-- a firing makes no more outputs, and no more children of an instance, than it has units
abbrev pub FiringsAreWithin : Type 0
FiringsAreWithin = (s : Subject) (budget : ℕ) (g : Situation) (m : Path) (n : ℕ) (after : Situation) (outs : List Out) (drops : List ℕ) (left : ℕ) → fire s budget g m n ≡ Ran after outs drops left → IsWithinUnits budget g after

-- nor does the start
abbrev pub StartsAreWithin : Type 0
StartsAreWithin = (s : Subject) (budget : ℕ) (after : Situation) (outs : List Out) (drops : List ℕ) (left : ℕ) → start s budget ≡ Ran after outs drops left → IsWithinUnits budget (bare s) after
