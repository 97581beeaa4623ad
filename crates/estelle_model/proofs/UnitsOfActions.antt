-- No statement of Estelle gives units back, and so no block does.
use Rattle.std.proofs.Common.{ℕ, ◌-◌, ◌≤◌, List, Result, Ok, Err, arith}
use Rattle.pascal_values.specs.declared.value.Value.{Value}
use Rattle.estelle_tree.specs.Paths.{Path}
use Rattle.estelle_model.specs.Core.{Core}
use Rattle.estelle_model.specs.States.{Offers, IsFaithful}
use Rattle.estelle_model.specs.Steps.{Running, StepResult}
use Rattle.estelle_model.specs.Plans.{Plan, carry}
use Rattle.estelle_model.specs.declared.meaning.Routine.{Routine}
use Rattle.estelle_model.specs.Meant.{Meanings}
use Rattle.estelle_model.specs.Blocks.{block_step}
use Rattle.estelle_model.specs.Subject.{Subject}
use Rattle.estelle_model.specs.Statements.{Statement}
use Rattle.estelle_model.specs.Acts.{act}
use Rattle.estelle_model.proofs.LoopLaws.{AtMost, NeverRaises}
use Rattle.estelle_model.proofs.Units.{NoMoreUnits, units_closed}
use Rattle.estelle_model.proofs.UnitsOfBlocks.{ActsNever, block_never}
use Rattle.estelle_model.proofs.Carried.{Fits, KeepsHolding, Holding, carried_holds}
use Rattle.estelle_model.proofs.Stated.{Any, stated}
use Rattle.estelle_model.proofs.ActsKept.{PlansKept, act_keeps}

module _ (S : Type 0) (on : Offers S) (faithful : IsFaithful S on) (s : Subject) (meant : Meanings) where
  module _ (units : ℕ) where
    -- no more units than at first
    abbrev Fewer : ℕ → Running S → Type 0
    Fewer n x = x.left ≤ units

    fewer_holds : (p : Path) (st : Statement) (given : List Value) → KeepsHolding (stated s meant p st given) S on Fewer
    fewer_holds p st given = record { faithful = faithful; spends = λ n x k some. omega (arith, k); makes = λ e n x k paid may. k; keeps = λ q change n x k may. k }

  plans_never : PlansKept S on (NoMoreUnits S) s meant
  plans_never p st given plan x fits = by (carry S on plan x) (carried_holds (stated s meant p st given) S on (Fewer x.left) (fewer_holds x.left p st given) Any plan 0 x (omega arith) fits)
    where
      by : (o : StepResult S (Unit {0})) → Holding (stated s meant p st given) S on (Fewer x.left) Any o → AtMost x.left o
      by (Ok r) h = h.0.1
      by (Err e) h = tt

  pub act_never : ActsNever S on (act S on s meant)
  act_never = act_keeps S on (NoMoreUnits S) (units_closed S on) s meant plans_never

  -- no block of an instance gives units back
  pub blocks_never : (p : Path) (r : Routine) (vs : List Value) → NeverRaises (block_step S on meant (act S on s meant) p r vs)
  blocks_never p r vs = block_never S on meant (act S on s meant) act_never p r vs
