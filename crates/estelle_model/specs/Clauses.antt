-- What a transition, the initialization and a guard of an instance do, over any state (ISO/IEC 9074).
use Rattle.std.specs.Prelude.{◌-◌, ◌^◌, Bool, true, ◌&&◌, nat_abs, if◌then◌else◌, List, [], Option, Some, None, ℤ, pos, Result, Ok, Err}
use Rattle.std.specs.Int.RustNames.{int_le}
use Rattle.pascal_values.specs.declared.fault.Fault.TheVariants as fault
use Rattle.pascal_values.specs.declared.value.Value.{Value}
use Rattle.pascal_values.specs.Integers.{is_between}
use Rattle.estelle_tree.specs.declared.tree.expression.Expr.{Expr}
use Rattle.estelle_tree.specs.declared.tree.clause.DelayHigh.{DelayHigh}
use Rattle.estelle_tree.specs.declared.tree.clause.DelayHigh.TheVariants as high
use Rattle.estelle_model.specs.declared.job.Guard.{Guard}
use Rattle.estelle_model.specs.declared.job.Guard.TheVariants.{Off, On, Faulted}
use Rattle.estelle_tree.specs.Paths.{Path}
use Rattle.estelle_model.specs.States.{Offers}
use Rattle.estelle_model.specs.Stops.{Stop, Faults, told}
use Rattle.estelle_model.specs.Steps.{StepResult, Step, Do, ◌>>=◌, ◌>>◌, pure, breaks, checked}
use Rattle.estelle_model.specs.Operators.{◌>>>◌, int_of}
use Rattle.estelle_model.specs.Belonging.{are_values_of}
use Rattle.estelle_model.specs.Expressions.{bool_step}
use Rattle.estelle_model.specs.Plans.{carry}
use Rattle.estelle_model.specs.Actions.{enters_state}
use Rattle.estelle_model.specs.Acts.{act}
use Rattle.estelle_model.specs.Blocks.{with_values, block_step, clause_value}
use Rattle.estelle_model.specs.Transitions.{Transition, Delay}
use Rattle.estelle_model.specs.Subject.{Subject, meant, meant_with, begins, of_block}

module _ (S : Type 0) (on : Offers S) (s : Subject) where
  -- what was received are values of the interaction of the transition: else a rule is broken, as where a name has two interactions in a channel
  abbrev pub receives : Transition → List Value → Do S
  receives t values = if are_values_of t.received values then pure tt else breaks

  -- the block of a transition, with the values of the interaction that it received; then the state is set
  abbrev pub fire_step : Path → Transition → List Value → Do S
  fire_step p t values = receives t values >> block_step S on (meant_with s t.chosen) (act S on s (meant_with s t.chosen)) p (of_block (meant_with s t.chosen) t.received t.block) values >> carry S on (enters_state s p t.to)

  -- the initialization of the specification
  abbrev pub start_step : Do S
  start_step = block_step S on (meant s) (act S on s (meant s)) [] (begins s 0).block [] >> carry S on (enters_state s [] (begins s 0).to)

  -- ---- guards

  -- an expression in a clause of the transition
  abbrev pub value_of_expr : Path → Transition → Expr → Step S Value
  value_of_expr p t e = clause_value S on (meant_with s t.chosen) (act S on s (meant_with s t.chosen)) p e

  -- what a clause evaluates, in a frame with the values of the interaction
  abbrev pub in_clause : {A : Type 0} → Transition → List Value → Step S A → Step S A
  in_clause t values step = receives t values >> with_values values step

  abbrev pub provided_step : Path → Transition → List Value → Option Expr → Step S Bool
  provided_step p t values None = pure true
  provided_step p t values (Some e) = in_clause t values (bool_step (value_of_expr p t e))

  -- the greatest value of a delay
  abbrev pub max_delay : ℤ
  max_delay = pos (2 ^ 31 - 1)

  abbrev pub is_delay : ℤ → Bool
  is_delay n = is_between (pos 0) max_delay n

  abbrev pub between : ℤ → ℤ → Result Guard Stop
  between low high = if is_delay low && (is_delay high && int_le low high) then Ok (On (nat_abs low) (Some (nat_abs high))) else Err (Faults fault.DelayRange)

  abbrev pub from_on : ℤ → Result Guard Stop
  from_on low = if is_delay low then Ok (On (nat_abs low) None) else Err (Faults fault.DelayRange)

  abbrev pub from_one : Value → Result Guard Stop
  from_one v = int_of v >>> λ low. from_on low

  abbrev pub from_both : Value → Value → Result Guard Stop
  from_both v w = int_of v >>> λ low. int_of w >>> λ high. between low high

  -- the second value, if one is written, is evaluated before the first one is tested
  abbrev pub high_step : Path → Transition → Value → Option DelayHigh → Step S Guard
  high_step p t v None = checked (from_both v v)
  high_step p t v (Some high.Star) = checked (from_one v)
  high_step p t v (Some (high.Expr e)) = value_of_expr p t e >>= λ w. checked (from_both v w)

  abbrev pub at_once : Guard
  at_once = On 0 (Some 0)

  -- where a timer runs, nothing of the delay is evaluated
  abbrev pub delay_step : Path → Transition → List Value → Bool → Option Delay → Step S Guard
  delay_step p t values timed None = pure at_once
  delay_step p t values timed (Some d) = if timed then pure at_once else in_clause t values (value_of_expr p t d.low >>= λ v. high_step p t v d.high)

  -- `provided`, and where it is true the delay
  abbrev pub guard_step : Path → Transition → List Value → Bool → Step S Guard
  guard_step p t values timed = do
    holds ← provided_step p t values t.provided
    if holds then delay_step p t values timed t.delay else pure Off

-- a guard as it is answered: a fault is an answer too, as which a broken rule is told
abbrev pub answered : {S : Type 0} → StepResult S Guard → Guard
answered (Ok r) = r.0
answered (Err e) = Faulted (told e.0)
