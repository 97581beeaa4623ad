-- Choosers: what settles a choice that the standard leaves open (ISO/IEC 9074: the choice among transitions that may be selected, and among the children of an activity).
use Rattle.std.specs.Prelude.{◌≡◌, ◌<◌, ℕ, nat_eq, if◌then◌else◌, List, length, slice_get, Some}

-- what the choosers of a type draw: of so many candidates the number of the one that the next pick takes, counted from 0, and the chooser that is left
abbrev pub Draw : Type 0 → Type 0
Draw C = C → ℕ → ℕ × C

-- each pick takes one of the candidates
abbrev pub DrawsBelow : {C : Type 0} → Draw C → Type 0
DrawsBelow {C} draw = (c : C) (n : ℕ) → 0 < n → (draw c n).0 < n

-- the chooser that takes the first candidate each time
abbrev pub always_first : Draw (Unit {0})
always_first c n = (0, tt)

-- one candidate draws none
abbrev pub pick : {C : Type 0} → Draw C → C → ℕ → ℕ × C
pick draw c n = if nat_eq n 1 then (0, c) else draw c n

-- of these candidates, in their order, the chooser takes this one, and then it is this
pub record Picks {A C : Type 0} (draw : Draw C) (c : C) (candidates : List A) (a : A) (after : C) : Type 0 where
  pub takes : slice_get candidates (pick draw c (length candidates)).0 ≡ Some a
  pub leaves : after ≡ (pick draw c (length candidates)).1
