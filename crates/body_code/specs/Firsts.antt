-- What a code keeps to find its units: for each place the number of the first unit there.
use Rattle.std.specs.Prelude.{◌≡◌, ℕ, suc, Bool, if◌then◌else◌, List, [], ◌∷◌, ◌++◌, Option, Some, None, option_map, is_some}
use Rattle.std.specs.Map.{lookup, keys_of}
use Rattle.body_code.specs.declared.unit.CodeUnit.{CodeUnit}
use Rattle.body_code.specs.Units.{Place, body_behind, placed, same_place, is_at}

-- the number of the first that passes, from 0
abbrev pub first_at : {Q : Type 0} → (Q → Bool) → List Q → Option ℕ
first_at p [] = None
first_at p (q ∷ qs) = if p q then Some 0 else option_map suc (first_at p qs)

-- the places of the units in order
abbrev pub places : List CodeUnit → List (Option Place)
places code = keys_of (placed None code)

-- the body of what comes behind units
abbrev pub body_after : Option ℕ → List CodeUnit → Option ℕ
body_after here [] = here
body_after here (u ∷ us) = body_after (body_behind here u.heading) us

-- a table with the number of a unit at a place, where that place is new
abbrev pub noted : List (Place × ℕ) → Option Place → ℕ → List (Place × ℕ)
noted firsts None number = firsts
noted firsts (Some p) number = if is_some (lookup (same_place p) firsts) then firsts else firsts ++ (p, number) ∷ []

-- the table of a code
abbrev pub AreFirst : List CodeUnit → List (Place × ℕ) → Type 0
AreFirst code firsts = (p : Place) → lookup (same_place p) firsts ≡ first_at (is_at p) (places code)

-- what is kept belongs to a code: the body of the unit that comes next, and the table
pub record IsKnown (code : List CodeUnit) (body : Option ℕ) (table : List (Place × ℕ)) : Type 0 where
  pub behind : body ≡ body_after None code
  pub first : AreFirst code table
