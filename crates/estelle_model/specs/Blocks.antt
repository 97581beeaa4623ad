-- Blocks of an instance, and expressions in its clauses.
use Rattle.std.specs.Prelude.{ℕ, List, [], ◌∷◌, Ok}
use Rattle.pascal_values.specs.declared.value.Value.{Value}
use Rattle.pascal_values.specs.declared.value.Value.TheVariants as pascal
use Rattle.estelle_tree.specs.declared.tree.expression.Expr.{Expr}
use Rattle.estelle_tree.specs.Paths.{Path}
use Rattle.estelle_model.specs.States.{Offers}
use Rattle.estelle_model.specs.Steps.{Running, Step, Do, ◌>>=◌, ◌>>◌, pure}
use Rattle.estelle_model.specs.declared.meaning.Routine.{Routine}
use Rattle.estelle_model.specs.Meant.{Meanings}
use Rattle.estelle_model.specs.declared.place.Environment.{Environment}
use Rattle.estelle_model.specs.declared.place.ActualParameters.{ActualParameters}
use Rattle.estelle_model.specs.Expressions.{expr}
use Rattle.estelle_model.specs.Statements.{Acts}
use Rattle.estelle_model.specs.Calls.{Enters, call_by, within, nested, max_depth}

-- a state as a block finds it: no frame, and the whole budget
abbrev pub fresh : {S : Type 0} → S → ℕ → Running S
fresh s budget = record { state = s; frames = []; left = budget }

-- the values of the interaction that is received
abbrev pub given_values : List Value → ActualParameters
given_values values = record { values = values; references = [] }

-- a frame with these values alone
abbrev pub enter_values : {S : Type 0} → List Value → Do S
enter_values values = λ s. Ok (tt, record s { frames = pascal.Fields values ∷ [] })

-- what was come to, without that frame
abbrev pub leave_values : {S A : Type 0} → A → Step S A
leave_values a = λ s. Ok (a, record s { frames = [] })

-- in a frame with these values alone
abbrev pub with_values : {S A : Type 0} → List Value → Step S A → Step S A
with_values values p = enter_values values >> p >>= leave_values

module _ (S : Type 0) (on : Offers S) (meant : Meanings) (act : Enters S → Acts S) where
  -- what a block calls is nested one deep
  abbrev pub from_block : Enters S
  from_block = nested S on meant act max_depth

  -- a block of the instance, with the values of the interaction that its transition receives
  unfoldable pub block_step : Path → Routine → List Value → Do S
  block_step p r values = within S on meant act from_block 0 p r (given_values values) >> pure tt

  -- an expression in a clause
  unfoldable pub clause_value : Path → Expr → Step S Value
  clause_value p e = (expr S on meant (call_by from_block p) (record { path = p; frame = 0; references = [] }) e).value
