-- What a name can mean.
use Rattle.std.specs.Prelude.{ℕ, List, [], ◌∷◌, ◌++◌, length, Option, Some, None}
use Rattle.estelle_tree.specs.declared.tree.name.Name.{Name}
use Rattle.estelle_model.specs.declared.denoter.Denoter.{Denoter}
use Rattle.estelle_model.specs.declared.meaning.Passing.{Passing}
use Rattle.estelle_model.specs.declared.meaning.Passing.TheVariants.{ByValue, ByPlace}
use Rattle.estelle_model.specs.declared.meaning.Routine.{Routine}
use Rattle.estelle_model.specs.declared.meaning.Meaning.{Meaning}

-- what each name in use means
abbrev pub Meanings : Type 0
Meanings = Name → Meaning

abbrev pub value_types : List Passing → List Denoter
value_types [] = []
value_types (ByValue t ∷ ps) = t ∷ value_types ps
value_types (ByPlace ∷ ps) = value_types ps

abbrev pub result_types : Option Denoter → List Denoter
result_types None = []
result_types (Some t) = t ∷ []

-- the number of a function's result in its frame, behind its value parameters and its own variables
abbrev pub result_number : Routine → ℕ
result_number r = length (value_types r.parameters ++ r.locals)
