-- Firings, the start and guards on the situation, and on a log that begins with all instances and links: they come to the same.
use Rattle.std.specs.FinMap as fin
use Rattle.std.proofs.Common.{◌∷◌, inl, ◌≡◌, ℕ, Bool, true, false, List, [], Ok, Err, Option, Some, None, refl, ap, cond}
use Rattle.pascal_values.specs.declared.value.Value.{Value}
use Rattle.estelle_tree.specs.declared.tree.expression.Expr.{Expr}
use Rattle.estelle_tree.specs.declared.tree.clause.DelayHigh.{DelayHigh}
use Rattle.estelle_tree.specs.declared.tree.clause.DelayHigh.TheVariants as high
use Rattle.estelle_model.specs.declared.job.Guard.{Guard}
use Rattle.estelle_model.specs.declared.job.Guard.TheVariants.{Off, Faulted}
use Rattle.estelle_tree.specs.Paths.{Path, is_inside}
use Rattle.estelle_model.specs.States.{Offers, IsFaithful, Logged, on_log}
use Rattle.estelle_model.specs.Stops.{Broken, told}
use Rattle.estelle_model.specs.Steps.{StepResult, Step, ◌>>◌, pure, breaks, checked}
use Rattle.estelle_model.specs.Belonging.{are_values_of}
use Rattle.estelle_model.specs.Expressions.{bool_step}
use Rattle.estelle_model.specs.Blocks.{fresh, block_step, clause_value}
use Rattle.estelle_model.specs.Plans.{carry}
use Rattle.estelle_model.specs.Statements.{Statement}
use Rattle.estelle_model.specs.Actions.{enters_state}
use Rattle.estelle_model.specs.Acts.{act}
use Rattle.estelle_model.specs.declared.meaning.Routine.{Routine}
use Rattle.estelle_model.specs.Meant.{Meanings}
use Rattle.estelle_model.specs.Core.{Core}
use Rattle.estelle_model.specs.Effects.{Store, core_after, core_kept}
use Rattle.estelle_model.specs.Transitions.{Transition, Delay}
use Rattle.estelle_model.specs.Subject.{Subject, meant, meant_with, of_block, begins}
use Rattle.estelle_model.specs.Clauses.{receives, in_clause, fire_step, start_step, value_of_expr, provided_step, from_one, from_both, high_step, at_once, delay_step, guard_step, answered}
use Rattle.estelle_model.specs.Situation.{Situation, Acting, on_situation}
use Rattle.estelle_model.specs.Firing.{begun, bare, guard_with}
use Rattle.estelle_model.proofs.Alike.{Same, RunningAlike, OutcomeAlike, StepAlike, DoAlike, ValueAlike, then_same, pure_alike, stop_alike, checked_alike, if_alike}
use Rattle.estelle_model.proofs.AlikeOperands.{bool_alike}
use Rattle.estelle_model.proofs.AlikePlaces.{ShowAlike}
use Rattle.estelle_model.proofs.AlikeCalls.{ActsAlike, block_alike, clause_alike, with_values_alike}
use Rattle.estelle_model.proofs.Carried.{KeepsRelated}
use Rattle.estelle_model.proofs.Stated.{stated, sees_itself, unsaid, enters_fits}
use Rattle.estelle_model.proofs.ActsAlike.{plan_alike, act_alike}

-- every instance is at or below the root
pub inside_root : (p : Path) → is_inside [] p ≡ true
inside_root [] = refl
inside_root (k ∷ p) = refl

-- what shows the same of the instances at and below m, and stays related behind each effect and each change that their statements make
module _ (S T : Type 0) (on : Offers S) (on' : Offers T) (m : Path) (R : S → T → Type 0) (show : ShowAlike S T on on' m R) (s : Subject) (keeps : (known : Meanings) (p : Path) → is_inside m p ≡ true → (st : Statement) (given : List Value) → KeepsRelated (stated s known p st given) S T on on' R) where
  acts_alike : (known : Meanings) → ActsAlike S T on on' m R (act S on s known) (act T on' s known)
  acts_alike known = act_alike S T on on' m R s known (keeps known)

  blocks_alike : (known : Meanings) (p : Path) → is_inside m p ≡ true → (r : Routine) (vs : List Value) → DoAlike S T R (block_step S on known (act S on s known) p r vs) (block_step T on' known (act T on' s known) p r vs)
  blocks_alike known p inside r vs = block_alike S T on on' m R show known (act S on s known) (act T on' s known) (acts_alike known) p inside r vs

  enters_alike : (p : Path) → is_inside m p ≡ true → (o : Option ℕ) → DoAlike S T R (carry S on (enters_state s p o)) (carry T on' (enters_state s p o))
  enters_alike p inside o = plan_alike S T on on' m R s (meant s) (keeps (meant s)) p inside unsaid [] (enters_state s p o) (λ c. enters_fits s (meant s) p unsaid [] tt p o 0 c (inl refl))

  receives_alike : (t : Transition) (vs : List Value) → DoAlike S T R (receives S on s t vs) (receives T on' s t vs)
  receives_alike t vs = if_alike S T R (Same {A = Unit {0}}) (are_values_of t.received vs) (pure tt) breaks (pure tt) breaks (pure_alike S T R (Same {A = Unit {0}}) tt tt refl) (stop_alike S T R (Same {A = Unit {0}}) Broken)

  pub fire_step_alike : (p : Path) → is_inside m p ≡ true → (t : Transition) (vs : List Value) → DoAlike S T R (fire_step S on s p t vs) (fire_step T on' s p t vs)
  fire_step_alike p inside t vs = then_same S T R (Same {A = Unit {0}})
      (receives S on s t vs >> block_step S on (meant_with s t.chosen) (act S on s (meant_with s t.chosen)) p (of_block (meant_with s t.chosen) t.received t.block) vs)
      (receives T on' s t vs >> block_step T on' (meant_with s t.chosen) (act T on' s (meant_with s t.chosen)) p (of_block (meant_with s t.chosen) t.received t.block) vs)
      (λ u. carry S on (enters_state s p t.to)) (λ u. carry T on' (enters_state s p t.to))
      (then_same S T R (Same {A = Unit {0}}) (receives S on s t vs) (receives T on' s t vs) _ _ (receives_alike t vs)
      (λ u. blocks_alike (meant_with s t.chosen) p inside (of_block (meant_with s t.chosen) t.received t.block) vs)) (λ u. enters_alike p inside t.to)

  pub start_step_alike : is_inside m [] ≡ true → DoAlike S T R (start_step S on s) (start_step T on' s)
  start_step_alike inside = then_same S T R (Same {A = Unit {0}})
      (block_step S on (meant s) (act S on s (meant s)) [] (begins s 0).block []) (block_step T on' (meant s) (act T on' s (meant s)) [] (begins s 0).block [])
      (λ u. carry S on (enters_state s [] (begins s 0).to)) (λ u. carry T on' (enters_state s [] (begins s 0).to))
      (blocks_alike (meant s) [] inside (begins s 0).block []) (λ u. enters_alike [] inside (begins s 0).to)

  module _ (p : Path) (inside : is_inside m p ≡ true) (t : Transition) (vs : List Value) where
    value_alike : (e : Expr) → ValueAlike S T R (value_of_expr S on s p t e) (value_of_expr T on' s p t e)
    value_alike e = clause_alike S T on on' m R show (meant_with s t.chosen) (act S on s (meant_with s t.chosen)) (act T on' s (meant_with s t.chosen)) (acts_alike (meant_with s t.chosen)) p inside e

    clause_done_alike : {A : Type 0} (f : Step S A) (g : Step T A) → StepAlike S T R (Same {A = A}) f g → StepAlike S T R (Same {A = A}) (in_clause S on s t vs f) (in_clause T on' s t vs g)
    clause_done_alike {A} f g h = then_same S T R (Same {A = A}) (receives S on s t vs) (receives T on' s t vs) _ _ (receives_alike t vs) (λ u. with_values_alike S T on on' m R vs f g h)

    provided_alike : (o : Option Expr) → StepAlike S T R (Same {A = Bool}) (provided_step S on s p t vs o) (provided_step T on' s p t vs o)
    provided_alike None = pure_alike S T R (Same {A = Bool}) true true refl
    provided_alike (Some e) = clause_done_alike (bool_step (value_of_expr S on s p t e)) (bool_step (value_of_expr T on' s p t e)) (bool_alike S T on on' m R (value_of_expr S on s p t e) (value_of_expr T on' s p t e) (value_alike e))

    high_alike : (v : Value) (o : Option DelayHigh) → StepAlike S T R (Same {A = Guard}) (high_step S on s p t v o) (high_step T on' s p t v o)
    high_alike v None = checked_alike S T R (from_both S on s v v)
    high_alike v (Some high.Star) = checked_alike S T R (from_one S on s v)
    high_alike v (Some (high.Expr e)) = then_same S T R (Same {A = Guard}) (value_of_expr S on s p t e) (value_of_expr T on' s p t e) (λ w. checked (from_both S on s v w)) (λ w. checked (from_both T on' s v w)) (value_alike e) (λ w. checked_alike S T R (from_both S on s v w))

    delay_alike : (timed : Bool) (o : Option Delay) → StepAlike S T R (Same {A = Guard}) (delay_step S on s p t vs timed o) (delay_step T on' s p t vs timed o)
    delay_alike timed None = pure_alike S T R (Same {A = Guard}) (at_once S on s) (at_once T on' s) refl
    delay_alike true (Some d) = pure_alike S T R (Same {A = Guard}) (at_once S on s) (at_once T on' s) refl
    delay_alike false (Some d) = clause_done_alike _ _ (then_same S T R (Same {A = Guard}) (value_of_expr S on s p t d.low) (value_of_expr T on' s p t d.low) (λ v. high_step S on s p t v d.high) (λ v. high_step T on' s p t v d.high) (value_alike d.low) (λ v. high_alike v d.high))

    pub guard_step_alike : (timed : Bool) → StepAlike S T R (Same {A = Guard}) (guard_step S on s p t vs timed) (guard_step T on' s p t vs timed)
    guard_step_alike timed = then_same S T R (Same {A = Guard}) (provided_step S on s p t vs t.provided) (provided_step T on' s p t vs t.provided)
        (λ holds. cond holds (delay_step S on s p t vs timed t.delay) (pure Off)) (λ holds. cond holds (delay_step T on' s p t vs timed t.delay) (pure Off)) (provided_alike t.provided)
        (λ holds. if_alike S T R (Same {A = Guard}) holds (delay_step S on s p t vs timed t.delay) (pure Off) (delay_step T on' s p t vs timed t.delay) (pure Off) (delay_alike timed t.delay) (pure_alike S T R (Same {A = Guard}) Off Off refl))

pub same_answer : (S T : Type 0) (R : S → T → Type 0) (o : StepResult S Guard) (o' : StepResult T Guard) → OutcomeAlike S T R (Same {A = Guard}) o o' → answered o ≡ answered o'
same_answer S T R (Ok r) (Ok q) h = h.0
same_answer S T R (Err e) (Err x) h = ap (λ y. Faulted (told y.0)) h
same_answer S T R (Ok r) (Err x) h = absurd h
same_answer S T R (Err e) (Ok q) h = absurd h

-- ---- the situation, and the log

pub situation_is_faithful : IsFaithful Acting on_situation
situation_is_faithful = record { does_core = λ e a. refl; keeps_core = λ p change a. refl }

pub log_is_faithful : IsFaithful Logged on_log
log_is_faithful = record { does_core = λ e l. refl; keeps_core = λ p change l. refl }

-- the same instances and links
abbrev pub ShownByLog : Acting → Logged → Type 0
ShownByLog a l = a.situation.core ≡ l.image

shown : ShowAlike Acting Logged on_situation on_log [] ShownByLog
shown = record {
  instances = λ a l e p inside. ap (λ (c : Core). fin.get c.instances p) e;
  held = λ a l e p c k inside is. inside_root c;
  types = λ a l e. ap (λ (c : Core). c.types) e;
  stored = λ a l e p x way v inside. ap (core_kept p (Store x way v)) e;
}

related : (s : Subject) (known : Meanings) (p : Path) → is_inside [] p ≡ true → (st : Statement) (given : List Value) → KeepsRelated (stated s known p st given) Acting Logged on_situation on_log ShownByLog
related s known p inside st given = record {
  faithful = situation_is_faithful;
  sees = λ a l e. sees_itself s known p a.situation.core l.image e;
  makes = λ x a l e may. ap (core_after x) e;
  keeps = λ q change a l e may. ap (core_kept q change) e;
}

-- a log that begins with the instances and links of a situation
abbrev pub whole_log : Situation → Logged
whole_log g = record { image = g.core; log = [] }

begun_alike : (g : Situation) (budget : ℕ) → RunningAlike Acting Logged ShownByLog (fresh (begun g) budget) (fresh (whole_log g) budget)
begun_alike g budget = record { state = refl; frames = refl; left = refl }

-- a firing: the same fault with the same units left, or the same units left and the same instances and links
pub firing_on_log : (s : Subject) (budget : ℕ) (g : Situation) (p : Path) (t : Transition) (vs : List Value) → OutcomeAlike Acting Logged ShownByLog (Same {A = Unit {0}}) (fire_step Acting on_situation s p t vs (fresh (begun g) budget)) (fire_step Logged on_log s p t vs (fresh (whole_log g) budget))
firing_on_log s budget g p t vs = fire_step_alike Acting Logged on_situation on_log [] ShownByLog shown s (related s) p (inside_root p) t vs (fresh (begun g) budget) (fresh (whole_log g) budget) (begun_alike g budget)

pub start_on_log : (s : Subject) (budget : ℕ) → OutcomeAlike Acting Logged ShownByLog (Same {A = Unit {0}}) (start_step Acting on_situation s (fresh (begun (bare s)) budget)) (start_step Logged on_log s (fresh (whole_log (bare s)) budget))
start_on_log s budget = start_step_alike Acting Logged on_situation on_log [] ShownByLog shown s (related s) refl (fresh (begun (bare s)) budget) (fresh (whole_log (bare s)) budget) (begun_alike (bare s) budget)

-- a guard: the same answer
pub guard_on_log : (s : Subject) (budget : ℕ) (g : Situation) (p : Path) (t : Transition) (timed : Bool) (vs : List Value) → guard_with s budget g p t timed vs ≡ answered (guard_step Logged on_log s p t vs timed (fresh (whole_log g) budget))
guard_on_log s budget g p t timed vs = same_answer Acting Logged ShownByLog _ _ (guard_step_alike Acting Logged on_situation on_log [] ShownByLog shown s (related s) p (inside_root p) t vs timed (fresh (begun g) budget) (fresh (whole_log g) budget) (begun_alike g budget))
