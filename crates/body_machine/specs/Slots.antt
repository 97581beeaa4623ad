-- Which of a unit's variables, and which of its references, a local is.
use Rattle.std.specs.Prelude.{ℕ, suc, if◌then◌else◌, List, [], ◌∷◌, take}
use Rattle.body_code.specs.declared.unit.Local.{Local}

-- how many of these locals are variables
abbrev pub variables_in : List Local → ℕ
variables_in [] = 0
variables_in (l ∷ ls) = if l.by_ref then variables_in ls else suc (variables_in ls)

-- how many of these locals are places by reference
abbrev pub references_in : List Local → ℕ
references_in [] = 0
references_in (l ∷ ls) = if l.by_ref then suc (references_in ls) else references_in ls

-- the number of a local among those that are variables
abbrev pub slot : List Local → ℕ → ℕ
slot locals k = variables_in (take k locals)

-- the number of a local among those by reference
abbrev pub reference_number : List Local → ℕ → ℕ
reference_number locals k = references_in (take k locals)
