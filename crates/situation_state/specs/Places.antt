-- The place of a firing among those that are pending.
use Rattle.std.specs.Prelude.{◌≡◌, ◌<◌, ℕ, false, List, slice_get, Some}
use Rattle.std.specs.List.{remove}
use Rattle.estelle_tree.specs.declared.transition.Pair.{Pair}
use Rattle.estelle_model.specs.Runs.{same_pair, without}

-- none of the first so many is the firing
abbrev pub NoneBefore : Pair → List Pair → ℕ → Type 0
NoneBefore p ps at = (k : ℕ) (q : Pair) → k < at → slice_get ps k ≡ Some q → same_pair p q ≡ false

-- the firing is at this place, and the others are left where it is taken out there
pub record IsPlaceOf (p : Pair) (ps : List Pair) (at : ℕ) : Type 0 where
  pub there : slice_get ps at ≡ Some p
  pub others : without p ps ≡ remove ps at
