-- What is known where a unit is written.
use Rattle.std.specs.Prelude.{ℕ, ◌+◌, List, [], ◌∷◌, ◌++◌}
use Rattle.estelle_model.specs.Subject.{Subject}
use Rattle.estelle_model.specs.declared.meaning.Passing.{Passing}
use Rattle.estelle_model.specs.declared.meaning.Passing.TheVariants.{ByValue, ByPlace}
use Rattle.meaning_table.specs.Known.{Known as Named, meanings_of}
use Rattle.body_program_numbers.specs.Numbering.{number_of, routine_of, export_of, interaction_of, parameters_of}
use Rattle.body_compiler_pieces.specs.ExpressionCode.{Scope}
use Rattle.body_compiler_pieces.specs.UnitCode.{local_of, reference_of}

pub record Scoped : Type 0 where
  pub named : Named
  pub subject : Subject
  pub body : ℕ
  -- the parameters of the routine, and how many variables it has behind them
  pub parameters : List Passing
  pub own : ℕ

unfoldable pub scope_of : Scoped → Scope
scope_of t = record {
  meant = meanings_of t.named;
  local = local_of t.parameters t.own;
  reference = reference_of t.parameters;
  export = export_of t.subject t.body;
  number = number_of t.subject;
  routine = routine_of t.subject;
  interaction = interaction_of t.subject t.body;
  parameters = parameters_of t.subject;
}

-- the locals of parameters by value, and those of var parameters, where the first parameter is this local
abbrev pub value_local : ℕ → Passing → List ℕ
value_local i (ByValue t) = i ∷ []
value_local i ByPlace = []

abbrev pub value_locals : ℕ → List Passing → List ℕ
value_locals i [] = []
value_locals i (p ∷ ps) = value_local i p ++ value_locals (i + 1) ps

abbrev pub place_local : ℕ → Passing → List ℕ
place_local i (ByValue t) = []
place_local i ByPlace = i ∷ []

abbrev pub place_locals : ℕ → List Passing → List ℕ
place_locals i [] = []
place_locals i (p ∷ ps) = place_local i p ++ place_locals (i + 1) ps
