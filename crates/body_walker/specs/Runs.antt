-- A block with the state after it, as firings and the start have it, and guards by what an image shows.
use Rattle.std.specs.Prelude.{ℕ, Bool, if◌then◌else◌, List, Option}
use Rattle.pascal_values.specs.declared.value.Value.{Value}
use Rattle.estelle_tree.specs.Paths.{Path}
use Rattle.estelle_model.specs.declared.image.Image.{Image}
use Rattle.estelle_model.specs.declared.job.Guard.{Guard}
use Rattle.estelle_model.specs.declared.meaning.Routine.{Routine}
use Rattle.estelle_model.specs.States.{Logged, on_log}
use Rattle.estelle_model.specs.declared.denoter.Denoter.{Denoter}
use Rattle.estelle_model.specs.Belonging.{are_values_of}
use Rattle.estelle_model.specs.Steps.{Step, Do, ◌>>=◌, ◌>>◌, pure, breaks}
use Rattle.estelle_model.specs.Meant.{Meanings}
use Rattle.estelle_model.specs.Blocks.{block_step, enter_values, fresh}
use Rattle.estelle_model.specs.Clauses.{value_of_expr, high_step, guard_step, answered}
use Rattle.estelle_model.specs.Computed.{core_of, log_from}
use Rattle.estelle_model.specs.Transitions.{Transition, Delay}
use Rattle.estelle_model.specs.Subject.{Subject}
use Rattle.estelle_model.specs.Actions.{enters_state}
use Rattle.estelle_model.specs.Acts.{act}
use Rattle.body_state.specs.Follows.{carried}

-- what is received must be values of these types: else a rule is broken
abbrev pub tested : List Denoter → List Value → Do Logged
tested types values = if are_values_of types values then pure tt else breaks

-- what is received is tested, then the block runs, and then the instance enters a state, if one is said
abbrev pub block_and_state : Subject → Meanings → Path → List Denoter → Routine → List Value → Option ℕ → Do Logged
block_and_state s known path types routine values to = tested types values >> block_step Logged on_log known (act Logged on_log s known) path routine values >> carried (enters_state s path to)

-- a clause begins in a frame with what is received
abbrev pub clause_begins : Transition → List Value → Do Logged
clause_begins t values = tested t.received values >> enter_values values

-- the values of a delay, one after the other
abbrev pub bounds_step : Subject → Path → Transition → Delay → Step Logged Guard
bounds_step s path t d = value_of_expr Logged on_log s path t d.low >>= λ v. high_step Logged on_log s path t v d.high

-- `provided` and the delay on a log, with the values of the interaction
abbrev pub logged_guard : Subject → Path → Image → List Value → Bool → ℕ → Transition → Guard
logged_guard s path image values timed budget t = answered (guard_step Logged on_log s path t values timed (fresh (log_from (core_of s image)) budget))
