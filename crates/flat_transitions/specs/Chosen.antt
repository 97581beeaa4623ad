-- What a name of `any` means: the choice for the name in its declaration.
use Rattle.std.specs.Prelude.{ℕ, nat_eq, if◌then◌else◌, List, fold, Option, Some, None}
use Rattle.estelle_tree.specs.declared.span.Span.{Span}
use Rattle.estelle_tree.specs.declared.tree.name.Name.{Name}
use Rattle.estelle_model.specs.declared.meaning.Meaning.{Meaning}
use Rattle.estelle_model.specs.declared.meaning.Meaning.TheVariants.{Constant}
use Rattle.estelle_model.specs.Names.{declaration_of}
use Rattle.estelle_model.specs.Transitions.{Choice}
use Rattle.meaning_table.specs.Known.{Known}

abbrev pub chosen_after : ℕ → Option Choice → Choice → Option Choice
chosen_after at found c = if nat_eq at c.at then Some c else found

-- of two choices at one place the last counts
abbrev pub chosen_at : List Choice → ℕ → Option Choice
chosen_at cs at = fold (chosen_after at) None cs

abbrev pub chosen_by : List Choice → Option Span → Option Choice
chosen_by cs None = None
chosen_by cs (Some decl) = if nat_eq decl.end 0 then None else chosen_at cs decl.start

-- the choice that a name in use means, if it means one
abbrev pub chosen_for : Known → List Choice → Name → Option Choice
chosen_for known cs x = chosen_by cs (declaration_of known.names x)

-- a constant with the chosen value
abbrev pub meaning_chosen : Option Choice → Meaning → Meaning
meaning_chosen None m = m
meaning_chosen (Some c) m = Constant c.value c.host
