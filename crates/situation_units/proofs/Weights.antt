-- A block weighs at most as many outputs and births more as it takes units.
use Rattle.std.proofs.Common.{◌≡◌, ℕ, ◌+◌, ◌-◌, ◌≤◌, Bool, true, false, List, [], Ok, Err, Option, Some, None, refl, ap, inl, arith, cond}
use Rattle.std.specs.Prelude.{nat_lt}
use Rattle.std.specs.FinMap as fin
use Rattle.pascal_values.specs.declared.fault.Fault.TheVariants as fault
use Rattle.pascal_values.specs.declared.value.Value.{Value}
use Rattle.estelle_tree.specs.Paths.{Path}
use Rattle.estelle_model.specs.Core.{Instance, Core}
use Rattle.estelle_model.specs.Effects as effect
use Rattle.estelle_model.specs.Effects.{StatementEffect, Change, Store}
use Rattle.estelle_model.specs.declared.meaning.Routine.{Routine}
use Rattle.estelle_model.specs.Meant.{Meanings}
use Rattle.estelle_model.specs.Stops.{Faults, Broken}
use Rattle.estelle_model.specs.Steps.{Running, StepResult, Step, and_then, ◌>>◌, spend}
use Rattle.estelle_model.specs.Plans.{carry}
use Rattle.estelle_model.specs.Places.{put_in_instance}
use Rattle.estelle_model.specs.Belonging.{may_store}
use Rattle.estelle_model.specs.Subject.{Subject}
use Rattle.estelle_model.specs.Statements.{Statement}
use Rattle.estelle_model.specs.Actions.{enters_state}
use Rattle.estelle_model.specs.Acts.{act}
use Rattle.estelle_model.specs.Blocks.{block_step}
use Rattle.estelle_model.specs.Situation.{Situation, Acting, on_situation, situation_after, situation_kept}
use Rattle.estelle_model.proofs.Kept.{Has, IsClosed, seq_kept}
use Rattle.estelle_model.proofs.Carried.{price, KeepsHolding, Holding, carried_holds}
use Rattle.estelle_model.proofs.Stated.{IsStated, Any, stated, unsaid, enters_fits}
use Rattle.estelle_model.proofs.ActsKept.{PlansKept, act_keeps}
use Rattle.estelle_model.proofs.BlocksKept.{block_kept}
use Rattle.estelle_model.proofs.AlikeFirings.{situation_is_faithful}

-- a child that is made has had none
abbrev pub IsChildless : StatementEffect → Type 0
IsChildless (effect.Create p k i) = i.births ≡ 0
IsChildless _ = Unit {0}

-- an effect weighs no more than the units that it takes, and a change nothing
pub record Weighs (W : Situation → ℕ) : Type 0 where
  pub does : (e : StatementEffect) → IsChildless e → (g : Situation) → W (situation_after e g) ≤ W g + price e
  pub keeps : (p : Path) (change : Change) (g : Situation) → W (situation_kept p change g) ≤ W g

module _ (W : Situation → ℕ) where
  -- the weight and the units that are left are no more than before
  abbrev pub NoMore : (A : Type 0) → Running Acting → StepResult Acting A → Type 0
  NoMore A t (Ok r) = W r.1.state.situation + r.1.left ≤ W t.state.situation + t.left
  NoMore A t (Err e) = Unit {0}

  after_no_more : (A B : Type 0) (t : Running Acting) (o : StepResult Acting A) (f : A → Step Acting B) → NoMore A t o → ((a : A) (u : Running Acting) → NoMore B u (f a u)) → NoMore B t (and_then o f)
  after_no_more A B t (Err e) f h k = tt
  after_no_more A B t (Ok r) f h k = by (f r.0 r.1) (k r.0 r.1)
    where
      by : (o : StepResult Acting B) → NoMore B r.1 o → NoMore B t o
      by (Err e) j = tt
      by (Ok x) j = omega (arith, h, j)

  spend_no_more : Has {S = Acting} {A = Unit {0}} NoMore spend
  unfolding spend
  spend_no_more t = by (nat_lt 0 t.left)
    where
      by : (b : Bool) → NoMore (Unit {0}) t (cond b (Ok (tt {0}, record t { left = t.left - 1 })) (Err (Faults fault.StepLimit, t.left)))
      by true = omega arith
      by false = tt

module _ (W : Situation → ℕ) (weighs : Weighs W) where
  stored_no_more : (p : Path) (x : ℕ) (way : List ℕ) (v : Value) → Has {S = Acting} {A = Unit {0}} (NoMore W) (λ t. put_in_instance Acting on_situation (fin.get t.state.situation.core.instances p) p x way v t)
  stored_no_more p x way v t = by (fin.get t.state.situation.core.instances p)
    where
      tested : (i : Instance) (b : Bool) → NoMore W (Unit {0}) t (cond b (Ok (tt {0}, record t { state = on_situation.keeps p (Store x way v) t.state })) (Err (Broken, t.left)))
      tested i true = omega (arith, weighs.keeps p (Store x way v) t.state.situation)
      tested i false = tt

      by : (o : Option Instance) → NoMore W (Unit {0}) t (put_in_instance Acting on_situation o p x way v t)
      by None = tt
      by (Some i) = tested i (may_store (t.state.situation.core.types i.body) x way v)

  closed : IsClosed Acting on_situation (NoMore W)
  closed = record {
    then = λ A B t o f h k. after_no_more W A B t o f h k;
    pure = λ A a t. omega arith;
    stop = λ A e t. tt;
    spend = spend_no_more W;
    framed = λ A f t. omega arith;
    stored = stored_no_more;
  }

  module _ (s : Subject) (meant : Meanings) where
    childless : (p : Path) (st : Statement) (given : List Value) (e : StatementEffect) (c : Core) → IsStated s meant p st given e c → IsChildless e
    childless p st given (effect.Create q k i) c h = ap (λ (j : Instance). j.births) h.made
    childless p st given (effect.Output a ip word values) c h = tt
    childless p st given (effect.Connect a b) c h = tt
    childless p st given (effect.Disconnect a) c h = tt
    childless p st given (effect.Attach upper lower) c h = tt
    childless p st given (effect.Detach upper) c h = tt
    childless p st given (effect.Remove q k) c h = tt

    -- the weight, the units that are left and those in hand are no more than at first
    abbrev Paid : ℕ → ℕ → Running Acting → Type 0
    Paid total n x = W x.state.situation + x.left + n ≤ total

    paid_holds : (total : ℕ) (p : Path) (st : Statement) (given : List Value) → KeepsHolding (stated s meant p st given) Acting on_situation (Paid total)
    paid_holds total p st given = record {
      faithful = situation_is_faithful;
      spends = λ n x k some. omega (arith, k, some);
      makes = λ e n x k paid may. omega (arith, k, paid, weighs.does e (childless p st given e x.state.situation.core may.1) x.state.situation);
      keeps = λ q change n x k may. omega (arith, k, weighs.keeps q change x.state.situation);
    }

    plans_no_more : PlansKept Acting on_situation (NoMore W) s meant
    plans_no_more p st given plan x fits = by (carry Acting on_situation plan x) (carried_holds (stated s meant p st given) Acting on_situation (Paid (W x.state.situation + x.left)) (paid_holds (W x.state.situation + x.left) p st given) Any plan 0 x (omega arith) fits)
      where
        by : (o : StepResult Acting (Unit {0})) → Holding (stated s meant p st given) Acting on_situation (Paid (W x.state.situation + x.left)) Any o → NoMore W (Unit {0}) x o
        by (Ok r) h = let k = h.0.1 in omega (arith, k)
        by (Err e) h = tt

    -- a block, and then the state
    pub block_no_more : (p : Path) (r : Routine) (vs : List Value) (to : Option ℕ) → Has (NoMore W) (block_step Acting on_situation meant (act Acting on_situation s meant) p r vs >> carry Acting on_situation (enters_state s p to))
    block_no_more p r vs to = seq_kept Acting on_situation (NoMore W) closed (Unit {0}) (block_step Acting on_situation meant (act Acting on_situation s meant) p r vs) (carry Acting on_situation (enters_state s p to))
        (block_kept Acting on_situation (NoMore W) closed meant (act Acting on_situation s meant) (act_keeps Acting on_situation (NoMore W) closed s meant plans_no_more) p r vs)
        (λ x. plans_no_more p unsaid [] (enters_state s p to) x (enters_fits s meant p unsaid [] tt p to 0 x.state.situation.core (inl refl)))
