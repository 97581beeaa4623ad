-- A guard reads whether its own timer runs, and of the moment and the timers nothing else.
use Rattle.std.proofs.Common.{◌≡◌, ℕ, Bool, true, false, List, [], ◌∷◌, Result, Ok, Err, Option, Some, None, refl, sym, ap, cond, ◌∙◌}
use Rattle.std.specs.Prelude.{ℤ, ◌&&◌, nat_abs, is_some}
use Rattle.std.specs.Int.RustNames.{int_le}
use Rattle.std.specs.FinMap as map
use Rattle.pascal_values.specs.declared.fault.Fault.TheVariants.{DelayRange}
use Rattle.pascal_values.specs.declared.value.Value.{Value}
use Rattle.pascal_values.specs.declared.value.Value.TheVariants as pascal
use Rattle.estelle_tree.specs.declared.tree.clause.DelayHigh.{DelayHigh}
use Rattle.estelle_tree.specs.declared.tree.clause.DelayHigh.TheVariants as high
use Rattle.estelle_tree.specs.Paths.{Path}
use Rattle.estelle_tree.specs.Timers.{Timers, pair}
use Rattle.estelle_model.specs.declared.job.Guard.{Guard}
use Rattle.estelle_model.specs.declared.job.Guard.TheVariants.{Off, On, Faulted}
use Rattle.estelle_model.specs.Core.{Instance}
use Rattle.estelle_model.specs.Stops.{Stop, Faults}
use Rattle.estelle_model.specs.Operators.{◌>>>◌, int_of}
use Rattle.estelle_model.specs.Steps.{Running, StepResult, Step, and_then, ◌>>=◌, checked_at}
use Rattle.estelle_model.specs.Blocks.{fresh, leave_values, with_values}
use Rattle.estelle_model.specs.Transitions.{Transition, Delay}
use Rattle.estelle_model.specs.Subject.{Subject, transition}
use Rattle.estelle_model.specs.Situation.{Situation, Acting, on_situation}
use Rattle.estelle_model.specs.Queues.{Found, NotNeeded, Head, Absent, found, is_named}
use Rattle.estelle_model.specs.Clauses.{receives, value_of_expr, provided_step, is_delay, between, from_on, high_step, delay_step, guard_step, answered}
use Rattle.estelle_model.specs.Firing.{begun, transition_at, is_in_state, guard_with, guard_found, guard_of, guard_at, guard}
use Rattle.estelle_model.specs.Delays.{is_delayed}
use Rattle.estelle_model.proofs.AlikeFirings.{guard_on_log}

-- ---- a guard as it is with its timer, and as it is without

-- the one is off just where the other is, and faults only where the other does
abbrev pub Agree : Guard → Guard → Type 0
Agree Off Off = Unit {0}
Agree Off (On low high) = ⊥
Agree Off (Faulted kind) = ⊥
Agree (On low high) Off = ⊥
Agree (On low high) (On low' high') = Unit {0}
Agree (On low high) (Faulted kind) = Unit {0}
Agree (Faulted kind) Off = ⊥
Agree (Faulted kind) (On low high) = ⊥
Agree (Faulted kind) (Faulted kind') = Unit {0}

abbrev NotOff : Guard → Type 0
NotOff Off = ⊥
NotOff (On low high) = Unit {0}
NotOff (Faulted kind) = Unit {0}

agree_itself : (x : Guard) → Agree x x
agree_itself Off = tt
agree_itself (On low high) = tt
agree_itself (Faulted kind) = tt

agree_on : (low : ℕ) (high : Option ℕ) (x : Guard) → NotOff x → Agree (On low high) x
agree_on low high Off h = h
agree_on low high (On low' high') h = tt
agree_on low high (Faulted kind) h = tt

then_not_off : (A : Type 0) (o : StepResult Acting A) (f : A → Step Acting Guard) → ((a : A) (u : Running Acting) → NotOff (answered (f a u))) → NotOff (answered (and_then o f))
then_not_off A (Ok r) f h = h r.0 r.1
then_not_off A (Err e) f h = tt

then_agree : (A : Type 0) (o : StepResult Acting A) (f f' : A → Step Acting Guard) → ((a : A) (u : Running Acting) → Agree (answered (f a u)) (answered (f' a u))) → Agree (answered (and_then o f)) (answered (and_then o f'))
then_agree A (Ok r) f f' h = h r.0 r.1
then_agree A (Err e) f f' h = tt

if_agree : (b : Bool) (x y : Guard) → Agree x y → Agree (cond b x Off) (cond b y Off)
if_agree true x y h = h
if_agree false x y h = tt

module _ (s : Subject) (p : Path) (t : Transition) (values : List Value) where
  between_on : (b : Bool) (low high : ℕ) (u : Running Acting) → NotOff (answered (checked_at (cond b (Ok (On low (Some high))) (Err (Faults DelayRange))) u))
  between_on true low high u = tt
  between_on false low high u = tt

  from_on_on : (b : Bool) (low : ℕ) (u : Running Acting) → NotOff (answered (checked_at (cond b (Ok (On low None)) (Err (Faults DelayRange))) u))
  from_on_on true low u = tt
  from_on_on false low u = tt

  bounds_on : (low high : ℤ) (u : Running Acting) → NotOff (answered (checked_at (between Acting on_situation s low high) u))
  bounds_on low high u = between_on (is_delay Acting on_situation s low && (is_delay Acting on_situation s high && int_le low high)) (nat_abs low) (nat_abs high) u

  one_on : (r : Result ℤ Stop) (u : Running Acting) → NotOff (answered (checked_at (r >>> λ low. from_on Acting on_situation s low) u))
  one_on (Ok low) u = from_on_on (is_delay Acting on_situation s low) (nat_abs low) u
  one_on (Err e) u = tt

  both_on : (r q : Result ℤ Stop) (u : Running Acting) → NotOff (answered (checked_at (r >>> λ low. q >>> λ high. between Acting on_situation s low high) u))
  both_on (Ok low) (Ok high) u = bounds_on low high u
  both_on (Ok low) (Err e) u = tt
  both_on (Err e) q u = tt

  high_on : (v : Value) (h : Option DelayHigh) (u : Running Acting) → NotOff (answered (high_step Acting on_situation s p t v h u))
  high_on v None u = both_on (int_of v) (int_of v) u
  high_on v (Some high.Star) u = one_on (int_of v) u
  high_on v (Some (high.Expr e)) u = then_not_off Value (value_of_expr Acting on_situation s p t e u) _ (λ w x. both_on (int_of v) (int_of w) x)

  -- the values of a delay
  abbrev bounds : Delay → Step Acting Guard
  bounds d = value_of_expr Acting on_situation s p t d.low >>= λ v. high_step Acting on_situation s p t v d.high

  left_not_off : (o : StepResult Acting Guard) → NotOff (answered o) → NotOff (answered (and_then o leave_values))
  left_not_off (Ok r) h = h
  left_not_off (Err e) h = tt

  delay_agrees : (d : Option Delay) (u : Running Acting) → Agree (answered (delay_step Acting on_situation s p t values true d u)) (answered (delay_step Acting on_situation s p t values false d u))
  delay_agrees None u = tt
  delay_agrees (Some d) u = agree_on 0 (Some 0) _ (then_not_off (Unit {0}) (receives Acting on_situation s t values u) (λ received. with_values values (bounds d))
      (λ received w. left_not_off (bounds d (record w { frames = pascal.Fields values ∷ [] }))
      (then_not_off Value (value_of_expr Acting on_situation s p t d.low (record w { frames = pascal.Fields values ∷ [] })) (λ v. high_step Acting on_situation s p t v d.high) (λ v x. high_on v d.high x))))

  holds_agree : (b : Bool) (u : Running Acting) → Agree (answered (cond b (delay_step Acting on_situation s p t values true t.delay) (λ w. Ok (Off, w)) u)) (answered (cond b (delay_step Acting on_situation s p t values false t.delay) (λ w. Ok (Off, w)) u))
  holds_agree true u = delay_agrees t.delay u
  holds_agree false u = tt

  step_agrees : (u : Running Acting) → Agree (answered (guard_step Acting on_situation s p t values true u)) (answered (guard_step Acting on_situation s p t values false u))
  step_agrees u = then_agree Bool (provided_step Acting on_situation s p t values t.provided u) _ _ (λ b v. holds_agree b v)

  undelayed_step : (d : Option Delay) → is_some d ≡ false → delay_step Acting on_situation s p t values true d ≡ delay_step Acting on_situation s p t values false d
  undelayed_step None e = refl
  undelayed_step (Some d) e = absurd (cc)

module _ (s : Subject) (budget : ℕ) (g : Situation) (p : Path) where
  -- ---- asked with its timer or without

  abbrev pub asked : ℕ → Bool → Option Instance → Guard
  asked n timed None = Off
  asked n timed (Some i) = guard_of s budget g p timed i (transition s i.body n)

  found_agree : (t : Transition) (f : Found) → Agree (guard_found s budget g p t true f) (guard_found s budget g p t false f)
  found_agree t NotNeeded = step_agrees s p t [] (fresh (begun g) budget)
  found_agree t (Head i) = if_agree (is_named i t.when) _ _ (step_agrees s p t i.values (fresh (begun g) budget))
  found_agree t Absent = tt

  of_agree : (i : Instance) (o : Option Transition) → Agree (guard_of s budget g p true i o) (guard_of s budget g p false i o)
  of_agree i None = tt
  of_agree i (Some t) = if_agree (is_in_state t.from i.state) _ _ (found_agree t (found s g p t.when))

  pub asked_agree : (n : ℕ) (o : Option Instance) → Agree (asked n true o) (asked n false o)
  asked_agree n None = tt
  asked_agree n (Some i) = of_agree i (transition s i.body n)

  -- ---- without a delay the timer is not read

  found_undelayed : (t : Transition) → is_some t.delay ≡ false → (f : Found) → guard_found s budget g p t true f ≡ guard_found s budget g p t false f
  found_undelayed t e NotNeeded = ap (λ (d : Step Acting Guard). answered (and_then (provided_step Acting on_situation s p t [] t.provided (fresh (begun g) budget)) (λ b. cond b d (λ w. Ok (Off, w))))) (undelayed_step s p t [] t.delay e)
  found_undelayed t e (Head i) = ap (λ (d : Step Acting Guard). cond (is_named i t.when) (answered (and_then (provided_step Acting on_situation s p t i.values t.provided (fresh (begun g) budget)) (λ b. cond b d (λ w. Ok (Off, w))))) Off) (undelayed_step s p t i.values t.delay e)
  found_undelayed t e Absent = refl

  of_undelayed : (i : Instance) (o : Option Transition) → is_delayed o ≡ false → guard_of s budget g p true i o ≡ guard_of s budget g p false i o
  of_undelayed i None e = refl
  of_undelayed i (Some t) e = ap (λ (x : Guard). cond (is_in_state t.from i.state) x Off) (found_undelayed t e (found s g p t.when))

  pub asked_undelayed : (n : ℕ) (o : Option Instance) → is_delayed (transition_at s n o) ≡ false → asked n true o ≡ asked n false o
  asked_undelayed n None e = refl
  asked_undelayed n (Some i) e = of_undelayed i (transition s i.body n) e

  pub guard_asked : (n : ℕ) → guard s budget g p n ≡ asked n (map.contains_key g.timers (pair p n)) (map.get g.core.instances p)
  guard_asked n = at (map.get g.core.instances p)
    where
      at : (o : Option Instance) → guard_at s budget g p n o ≡ asked n (map.contains_key g.timers (pair p n)) o
      at None = refl
      at (Some i) = refl

  -- ---- with other timers, at another moment

  module _ (now : ℕ) (timers : Timers) where
    abbrev h : Situation
    h = record g { now = now; timers = timers }

    same_with : (t : Transition) (timed : Bool) (values : List Value) → guard_with s budget h p t timed values ≡ guard_with s budget g p t timed values
    same_with t timed values = guard_on_log s budget h p t timed values ∙ sym (guard_on_log s budget g p t timed values)

    same_found : (t : Transition) (timed : Bool) (f : Found) → guard_found s budget h p t timed f ≡ guard_found s budget g p t timed f
    same_found t timed NotNeeded = same_with t timed []
    same_found t timed (Head i) = ap (λ (x : Guard). cond (is_named i t.when) x Off) (same_with t timed i.values)
    same_found t timed Absent = refl

    same_of : (timed : Bool) (i : Instance) (o : Option Transition) → guard_of s budget h p timed i o ≡ guard_of s budget g p timed i o
    same_of timed i None = refl
    same_of timed i (Some t) = ap (λ (x : Guard). cond (is_in_state t.from i.state) x Off) (same_found t timed (found s g p t.when))

    pub retimed_asked : (n : ℕ) → guard s budget (record g { now = now; timers = timers }) p n ≡ asked n (map.contains_key timers (pair p n)) (map.get g.core.instances p)
    retimed_asked n = at (map.get g.core.instances p)
      where
        at : (o : Option Instance) → guard_at s budget h p n o ≡ asked n (map.contains_key timers (pair p n)) o
        at None = refl
        at (Some i) = same_of (map.contains_key timers (pair p n)) i (transition s i.body n)
