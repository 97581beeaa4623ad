-- The bounds that guards give are in order, and so are those of renewed timers.
use Rattle.std.proofs.Common.{◌≡◌, ℕ, ◌≤◌, Bool, true, false, not, List, [], ◌∷◌, ℤ, pos, negsuc, Result, Ok, Err, Option, Some, None, cond, refl, sym, ap, subst, ◌∙◌, arith}
use Rattle.std.specs.Prelude.{◌&&◌, fold, flat_map, nat_abs, unwrap_or}
use Rattle.std.specs.Int.RustNames.{int_le}
use Rattle.std.specs.FinMap as map
use Rattle.std.specs.Ordering.{eq_by_cmp}
use Rattle.std.proofs.lemmas.Int.{ints}
use Rattle.pascal_values.specs.declared.fault.Fault.TheVariants as fault
use Rattle.pascal_values.specs.declared.value.Value.{Value}
use Rattle.pascal_values.specs.declared.value.Value.TheVariants as pascal
use Rattle.estelle_tree.specs.declared.tree.clause.DelayHigh.{DelayHigh}
use Rattle.estelle_tree.specs.declared.tree.clause.DelayHigh.TheVariants as high
use Rattle.estelle_tree.specs.declared.transition.Pair.{Pair}
use Rattle.estelle_tree.specs.declared.transition.Wanted.{Wanted}
use Rattle.estelle_tree.specs.Paths.{Path, is_inside}
use Rattle.estelle_tree.specs.Timers.{Timer, Timers, pair, pair_cmp, timer_of, renewed}
use Rattle.estelle_model.specs.declared.job.Guard.{Guard}
use Rattle.estelle_model.specs.declared.job.Guard.TheVariants.{Off, On, Faulted}
use Rattle.estelle_model.specs.Core.{Instance}
use Rattle.estelle_model.specs.Stops.{Stop, Faults}
use Rattle.estelle_model.specs.Steps.{Running, StepResult, Step, and_then, checked_at}
use Rattle.estelle_model.specs.Operators.{◌>>>◌, int_of}
use Rattle.estelle_model.specs.Blocks.{fresh, leave_values}
use Rattle.estelle_model.specs.Transitions.{Transition, Delay}
use Rattle.estelle_model.specs.Subject.{Subject, transition}
use Rattle.estelle_model.specs.Situation.{Situation, Acting, on_situation}
use Rattle.estelle_model.specs.Queues.{Found, NotNeeded, Head, Absent, is_named, found}
use Rattle.estelle_model.specs.Clauses.{receives, value_of_expr, provided_step, is_delay, between, from_on, from_one, from_both, high_step, at_once, delay_step, guard_step, answered}
use Rattle.estelle_model.specs.Firing.{begun, is_in_state, guard_with, guard_found, guard_of, guard_at, guard}
use Rattle.estelle_model.specs.Delays.{delayed_in, wanted_by, wanted}
use Rattle.estelle_model.proofs.Units.{Each}
use Rattle.estelle_model.proofs.Pairs.{pairs_total, pairs_apart}
use Rattle.estelle_model_legality.specs.Pending.{IsInOrder}
use Rattle.estelle_model_legality.proofs.Lists.{and_both, each_append}

-- ---- bounds

abbrev AreBounds : ℕ → Option ℕ → Type 0
AreBounds low None = Unit {0}
AreBounds low (Some high) = low ≤ high

-- the bounds of a guard that is on
abbrev IsBounded : Guard → Type 0
IsBounded (On low high) = AreBounds low high
IsBounded _ = Unit {0}

abbrev ResultBounded : Result Guard Stop → Type 0
ResultBounded (Ok g) = IsBounded g
ResultBounded (Err e) = Unit {0}

abbrev OutcomeBounded : {S : Type 0} → StepResult S Guard → Type 0
OutcomeBounded (Ok r) = IsBounded r.0
OutcomeBounded (Err e) = Unit {0}

then_bounded : (S A : Type 0) (o : StepResult S A) (f : A → Step S Guard) → ((a : A) (u : Running S) → OutcomeBounded (f a u)) → OutcomeBounded (and_then o f)
then_bounded S A (Ok r) f h = h r.0 r.1
then_bounded S A (Err e) f h = tt

checked_bounded : (S : Type 0) (r : Result Guard Stop) (u : Running S) → ResultBounded r → OutcomeBounded (checked_at r u)
checked_bounded S (Ok g) u h = h
checked_bounded S (Err e) u h = tt

answered_bounded : {S : Type 0} (o : StepResult S Guard) → OutcomeBounded o → IsBounded (answered o)
answered_bounded (Ok r) h = h
answered_bounded (Err e) h = tt

if_bounded : (b : Bool) (g : Guard) → IsBounded g → IsBounded (cond b g Off)
if_bounded true g h = h
if_bounded false g h = tt

module _ (s : Subject) (budget : ℕ) (g : Situation) where
  magnitudes : (low high : ℤ) → is_delay Acting on_situation s low ≡ true → int_le low high ≡ true → nat_abs low ≤ nat_abs high
  magnitudes (pos a) (pos b) h e = grind (arith, ints)
  magnitudes (pos a) (negsuc b) h e = absurd (let wrong : false ≡ true = e in cc)
  magnitudes (negsuc a) high h e = absurd (let wrong : false ≡ true = h in cc)

  between_bounded : (low high : ℤ) → ResultBounded (between Acting on_situation s low high)
  between_bounded low high = by (is_delay Acting on_situation s low && (is_delay Acting on_situation s high && int_le low high)) refl
    where
      by : (b : Bool) → (is_delay Acting on_situation s low && (is_delay Acting on_situation s high && int_le low high)) ≡ b → ResultBounded (cond b (Ok (On (nat_abs low) (Some (nat_abs high)))) (Err (Faults fault.DelayRange)))
      by true e =
          let tests = and_both (is_delay Acting on_situation s low) (is_delay Acting on_situation s high && int_le low high) e in
          magnitudes low high tests.0 (and_both (is_delay Acting on_situation s high) (int_le low high) tests.1).1
      by false e = tt

  from_bounded : (low : ℤ) → ResultBounded (from_on Acting on_situation s low)
  from_bounded low = by (is_delay Acting on_situation s low)
    where
      by : (b : Bool) → ResultBounded (cond b (Ok (On (nat_abs low) None)) (Err (Faults fault.DelayRange)))
      by true = tt
      by false = tt

  once_bounded : IsBounded (at_once Acting on_situation s)
  once_bounded = omega arith

  module _ (p : Path) (t : Transition) (values : List Value) where
    one_bounded : (v : Value) → ResultBounded (from_one Acting on_situation s v)
    one_bounded v = by (int_of v)
      where
        by : (r : Result ℤ Stop) → ResultBounded (r >>> λ low. from_on Acting on_situation s low)
        by (Ok low) = from_bounded low
        by (Err e) = tt

    both_bounded : (v w : Value) → ResultBounded (from_both Acting on_situation s v w)
    both_bounded v w = by (int_of v) (int_of w)
      where
        by : (r q : Result ℤ Stop) → ResultBounded (r >>> λ low. q >>> λ high. between Acting on_situation s low high)
        by (Ok low) (Ok high) = between_bounded low high
        by (Ok low) (Err e) = tt
        by (Err e) q = tt

    high_bounded : (v : Value) (h : Option DelayHigh) (u : Running Acting) → OutcomeBounded (high_step Acting on_situation s p t v h u)
    high_bounded v None u = checked_bounded Acting (from_both Acting on_situation s v v) u (both_bounded v v)
    high_bounded v (Some high.Star) u = checked_bounded Acting (from_one Acting on_situation s v) u (one_bounded v)
    high_bounded v (Some (high.Expr e)) u = then_bounded Acting Value (value_of_expr Acting on_situation s p t e u) _ (λ w x. checked_bounded Acting (from_both Acting on_situation s v w) x (both_bounded v w))

    left_bounded : (o : StepResult Acting Guard) → OutcomeBounded o → OutcomeBounded (and_then o leave_values)
    left_bounded (Ok r) h = h
    left_bounded (Err e) h = tt

    delay_bounded : (timed : Bool) (d : Option Delay) (u : Running Acting) → OutcomeBounded (delay_step Acting on_situation s p t values timed d u)
    delay_bounded timed None u = once_bounded
    delay_bounded true (Some d) u = once_bounded
    delay_bounded false (Some d) u = then_bounded Acting (Unit {0}) (receives Acting on_situation s t values u) _
        (λ received w. left_bounded _ (then_bounded Acting Value (value_of_expr Acting on_situation s p t d.low (record w { frames = pascal.Fields values ∷ [] })) _ (λ low v. high_bounded low d.high v)))

    step_bounded : (timed : Bool) (u : Running Acting) → OutcomeBounded (guard_step Acting on_situation s p t values timed u)
    step_bounded timed u = then_bounded Acting Bool (provided_step Acting on_situation s p t values t.provided u) _ (λ holds v. by holds v)
      where
        by : (b : Bool) (v : Running Acting) → OutcomeBounded (cond b (delay_step Acting on_situation s p t values timed t.delay) (λ w. Ok (Off, w)) v)
        by true v = delay_bounded timed t.delay v
        by false v = tt

    with_bounded : (timed : Bool) → IsBounded (guard_with s budget g p t timed values)
    with_bounded timed = answered_bounded (guard_step Acting on_situation s p t values timed (fresh (begun g) budget)) (step_bounded timed (fresh (begun g) budget))

  module _ (p : Path) where
    found_bounded : (t : Transition) (timed : Bool) (f : Found) → IsBounded (guard_found s budget g p t timed f)
    found_bounded t timed NotNeeded = with_bounded p t [] timed
    found_bounded t timed (Head i) = if_bounded (is_named i t.when) (guard_with s budget g p t timed i.values) (with_bounded p t i.values timed)
    found_bounded t timed Absent = tt

    of_bounded : (timed : Bool) (i : Instance) (o : Option Transition) → IsBounded (guard_of s budget g p timed i o)
    of_bounded timed i None = tt
    of_bounded timed i (Some t) = if_bounded (is_in_state t.from i.state) (guard_found s budget g p t timed (found s g p t.when)) (found_bounded t timed (found s g p t.when))

    at_bounded : (n : ℕ) (o : Option Instance) → IsBounded (guard_at s budget g p n o)
    at_bounded n None = tt
    at_bounded n (Some i) = of_bounded (map.contains_key g.timers (record { path = p; trans = n })) i (transition s i.body n)

  guard_bounded : (p : Path) (n : ℕ) → IsBounded (guard s budget g p n)
  guard_bounded p n = at_bounded p n (map.get g.core.instances p)

  -- ---- what wants a timer

  abbrev WantsBounded : Wanted → Type 0
  WantsBounded w = AreBounds w.low w.high

  wanted_by_bounded : (p : Pair) (x : Guard) → IsBounded x → Each WantsBounded (wanted_by p x)
  wanted_by_bounded p (On low high) h = (h, tt)
  wanted_by_bounded p Off h = tt
  wanted_by_bounded p (Faulted kind) h = tt

  each_wanted : (ps : List Pair) → Each WantsBounded (flat_map (λ (p : Pair). wanted_by p (guard s budget g p.path p.trans)) ps)
  each_wanted [] = tt
  each_wanted (p ∷ ps) = each_append Wanted WantsBounded (wanted_by p (guard s budget g p.path p.trans)) _ (wanted_by_bounded p (guard s budget g p.path p.trans) (guard_bounded p.path p.trans)) (each_wanted ps)

  -- ---- timers

  abbrev Bounded : Timers → Type 0
  Bounded ts = (p : Pair) (t : Timer) → map.get ts p ≡ Some t → IsInOrder t t.high

  starts : (now low : ℕ) (high : Option ℕ) → AreBounds low high → IsInOrder (record { start = now; low = low; high = high }) high
  starts now low None h = tt
  starts now low (Some high) h = h

  module _ (now : ℕ) (running : Timers) (in_order : Bounded running) where
    kept_or_started : (w : Wanted) → WantsBounded w → IsInOrder (timer_of now running w) (timer_of now running w).high
    kept_or_started w h = by (map.get running (pair w.path w.trans)) refl
      where
        by : (o : Option Timer) → map.get running (pair w.path w.trans) ≡ o → IsInOrder (unwrap_or o (record { start = now; low = w.low; high = w.high })) (unwrap_or o (record { start = now; low = w.low; high = w.high })).high
        by None e = starts now w.low w.high h
        by (Some t) e = in_order (pair w.path w.trans) t e

    insert_bounded : (ts : Timers) (w : Wanted) → Bounded ts → WantsBounded w → Bounded (map.insert ts (pair w.path w.trans) (timer_of now running w))
    insert_bounded ts w h k p t e = by (eq_by_cmp pair_cmp p (pair w.path w.trans)) (sym (map.get-insert pairs_total ts (pair w.path w.trans) (timer_of now running w) p) ∙ e)
      where
        by : (b : Bool) → cond b (Some (timer_of now running w)) (map.get ts p) ≡ Some t → IsInOrder t t.high
        by true is = let same : timer_of now running w ≡ t = cc in subst (λ (x : Timer). IsInOrder x x.high) same (kept_or_started w k)
        by false is = h p t is

    fold_bounded : (ws : List Wanted) (ts : Timers) → Each WantsBounded ws → Bounded ts → Bounded (fold (λ (timers : Timers) (w : Wanted). map.insert timers (pair w.path w.trans) (timer_of now running w)) ts ws)
    fold_bounded [] ts h k = k
    fold_bounded (w ∷ ws) ts h k = fold_bounded ws (map.insert ts (pair w.path w.trans) (timer_of now running w)) h.1 (insert_bounded ts w k h.0)

    outside_bounded : (system : Path) → Bounded (map.retain_keys running (λ p. not (is_inside system p.path)))
    outside_bounded system p t e = by (is_inside system p.path) (sym (map.get-retain_keys running (λ (q : Pair). not (is_inside system q.path)) p (λ q tie. ap (λ (x : Pair). not (is_inside system x.path)) (sym (pairs_apart p q tie)))) ∙ e)
      where
        by : (b : Bool) → cond (not b) (map.get running p) None ≡ Some t → IsInOrder t t.high
        by true is = absurd (cc)
        by false is = in_order p t is

  -- where a system selects, timers stay in order
  pub renewed_bounded : (system : Path) (now : ℕ) → Bounded g.timers → Bounded (renewed system now (wanted s budget g system) g.timers)
  renewed_bounded system now in_order = fold_bounded now g.timers in_order (wanted s budget g system) (map.retain_keys g.timers (λ p. not (is_inside system p.path))) (each_wanted (delayed_in s g system)) (outside_bounded now g.timers in_order system)
