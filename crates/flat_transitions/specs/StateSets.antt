-- The state sets that are kept while clauses are walked.
use Rattle.std.specs.Prelude.{◌≡◌, ℕ, nat_eq, List, Some}
use Rattle.std.specs.Map.{lookup}
use Rattle.estelle_model.specs.declared.meaning.Meaning.TheVariants.{StateSet}
use Rattle.estelle_model.specs.Names.{at_place}
use Rattle.meaning_table.specs.Known.{Known}

-- each is a state set that is declared at its place
abbrev pub AreDeclared : Known → List (ℕ × List ℕ) → Type 0
AreDeclared known sets = (at : ℕ) (states : List ℕ) → lookup (nat_eq at) sets ≡ Some states → at_place known.declared at ≡ StateSet states
