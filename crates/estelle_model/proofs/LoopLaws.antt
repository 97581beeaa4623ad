-- Loops are what they unroll to: the count of turns by which they are defined never ends a loop.
use Rattle.std.proofs.Common.{◌≡◌, ℕ, zero, suc, ◌-◌, ◌≤◌, Bool, true, false, Ok, Err, refl, sym, ap, ◌∙◌, arith, cond}
use Rattle.std.specs.Prelude.{nat_lt}
use Rattle.pascal_values.specs.declared.fault.Fault.TheVariants.{StepLimit}
use Rattle.estelle_model.specs.Stops.{Faults}
use Rattle.estelle_model.specs.Steps.{Running, StepResult, Step, Do, and_then, ◌>>=◌, ◌>>◌, pure, fail, spend}
use Rattle.estelle_model.specs.Loops.{while_turns, repeat_turns, while_loop, repeat_loop}

-- no more than so many units are left
abbrev pub AtMost : {S A : Type 0} → ℕ → StepResult S A → Type 0
AtMost n (Ok r) = r.1.left ≤ n
AtMost n (Err e) = Unit {0}

-- a step never gives units back
abbrev pub NeverRaises : {S A : Type 0} → Step S A → Type 0
NeverRaises {S} p = (s : Running S) → AtMost s.left (p s)

-- the same where no more than so many units are left
abbrev pub AgreeUpTo : {S A : Type 0} → ℕ → Step S A → Step S A → Type 0
AgreeUpTo {S} n p q = (s : Running S) → s.left ≤ n → p s ≡ q s

pub spend_lowers : {S : Type 0} (s : Running S) (n : ℕ) → s.left ≤ suc n → AtMost n (spend s)
unfolding spend
spend_lowers s n h = by (nat_lt 0 s.left)
  where
    by : (b : Bool) → AtMost n (cond b (Ok (tt {0}, record s { left = s.left - 1 })) (Err (Faults StepLimit, s.left)))
    by true = omega arith
    by false = tt

pub spend_none : {S : Type 0} (s : Running S) → s.left ≤ 0 → spend s ≡ Err (Faults StepLimit, s.left)
unfolding spend
spend_none s h = grind (arith)

module _ (S A : Type 0) where
  and_then_agree : (n : ℕ) (o : StepResult S A) (p q : Do S) → AtMost n o → AgreeUpTo n p q → and_then o (λ _. p) ≡ and_then o (λ _. q)
  and_then_agree n (Ok r) p q h agree = agree r.1 h
  and_then_agree n (Err e) p q h agree = refl

  -- a step that never raises, and then two steps that agree
  then_agree : (n : ℕ) (o : StepResult S A) (body p q : Do S) → NeverRaises body → AtMost n o → AgreeUpTo n p q → and_then (and_then o (λ _. body)) (λ _. p) ≡ and_then (and_then o (λ _. body)) (λ _. q)
  then_agree n (Ok r) body p q b h agree = go (body r.1) (b r.1)
    where
      go : (o : StepResult S (Unit {0})) → AtMost r.1.left o → and_then o (λ _. p) ≡ and_then o (λ _. q)
      go (Ok x) k = agree x.1 (omega (arith, k, h))
      go (Err e) k = refl
  then_agree n (Err e) body p q b h agree = refl

-- ---- while

module _ (S : Type 0) (test : Step S Bool) (body : Do S) (never : NeverRaises test) (nor : NeverRaises body) where
  -- the condition, and where it is true a unit, the body and the rest
  abbrev pub turn_and : Do S → Do S
  turn_and rest = test >>= λ again. cond again (spend >> body >> rest) (pure tt)

  turns_agree : (n : ℕ) (p q : Do S) → AgreeUpTo n p q → AgreeUpTo (suc n) (turn_and p) (turn_and q)
  turns_agree n p q agree s h = go (test s) (never s)
    where
      go : (o : StepResult S Bool) → AtMost s.left o → and_then o (λ again. cond again (spend >> body >> p) (pure tt)) ≡ and_then o (λ again. cond again (spend >> body >> q) (pure tt))
      go (Err e) k = refl
      go (Ok r) k = by r.0
        where
          by : (b : Bool) → cond b (spend >> body >> p) (pure tt) r.1 ≡ cond b (spend >> body >> q) (pure tt) r.1
          by true = then_agree S (Unit {0}) n (spend r.1) body p q nor (spend_lowers r.1 n (omega (arith, k, h))) agree
          by false = refl

  -- without a unit there is no further turn
  no_turns : (rest : Do S) → AgreeUpTo 0 (while_turns zero test body) (turn_and rest)
  no_turns rest s h = go (test s) (never s)
    where
      go : (o : StepResult S Bool) → AtMost s.left o → and_then o (λ again. cond again (fail StepLimit) (pure tt)) ≡ and_then o (λ again. cond again (spend >> body >> rest) (pure tt))
      go (Err e) k = refl
      go (Ok r) k = by r.0
        where
          by : (b : Bool) → cond b (fail StepLimit) (pure tt) r.1 ≡ cond b (spend >> body >> rest) (pure tt) r.1
          by true = sym (ap (λ o. and_then (and_then o (λ _. body)) (λ _. rest)) (spend_none r.1 (omega (arith, k, h))))
          by false = refl

  -- more turns than units change nothing
  enough : (n k : ℕ) (s : Running S) → s.left ≤ n → s.left ≤ k → while_turns n test body s ≡ while_turns k test body s
  enough zero zero s h i = refl
  enough zero (suc k) s h i = no_turns (while_turns k test body) s h
  enough (suc n) zero s h i = sym (no_turns (while_turns n test body) s i)
  enough (suc n) (suc k) s h i = turns_agree (s.left - 1) (while_turns n test body) (while_turns k test body) (λ t j. enough n k t (omega (arith, j, h, i)) (omega (arith, j, h, i))) s (omega arith)

  -- `while` is its condition, and where that is true a unit, the body, and the `while` again
  pub while_unrolls : (s : Running S) → while_loop test body s ≡ turn_and (while_loop test body) s
  unfolding while_loop
  while_unrolls s = enough s.left (suc s.left) s (omega arith) (omega arith)
      ∙ turns_agree s.left (while_turns s.left test body) (λ t. while_turns t.left test body t) (λ t j. enough s.left t.left t j (omega arith)) s (omega arith)

-- ---- repeat

module _ (S : Type 0) (body : Do S) (test : Step S Bool) (never : NeverRaises body) (nor : NeverRaises test) where
  -- a unit, the body, the condition, and where it is false the rest
  abbrev pub round_and : Do S → Do S
  round_and rest = spend >> body >> test >>= λ done. cond done (pure tt) rest

  rounds_agree : (n : ℕ) (p q : Do S) → AgreeUpTo n p q → AgreeUpTo (suc n) (round_and p) (round_and q)
  rounds_agree n p q agree s h = first (spend s) (spend_lowers s n h)
    where
      last : (k : ℕ) (o : StepResult S Bool) → AtMost k o → k ≤ n → and_then o (λ done. cond done (pure tt) p) ≡ and_then o (λ done. cond done (pure tt) q)
      last k (Err e) i j = refl
      last k (Ok r) i j = by r.0
        where
          by : (b : Bool) → cond b (pure tt) p r.1 ≡ cond b (pure tt) q r.1
          by true = refl
          by false = agree r.1 (omega (arith, i, j))

      then_test : (k : ℕ) (o : StepResult S (Unit {0})) → AtMost k o → k ≤ n → and_then (and_then o (λ _. test)) (λ done. cond done (pure tt) p) ≡ and_then (and_then o (λ _. test)) (λ done. cond done (pure tt) q)
      then_test k (Err e) i j = refl
      then_test k (Ok r) i j = last r.1.left (test r.1) (nor r.1) (omega (arith, i, j))

      first : (o : StepResult S (Unit {0})) → AtMost n o → and_then (and_then (and_then o (λ _. body)) (λ _. test)) (λ done. cond done (pure tt) p) ≡ and_then (and_then (and_then o (λ _. body)) (λ _. test)) (λ done. cond done (pure tt) q)
      first (Err e) i = refl
      first (Ok r) i = then_test r.1.left (body r.1) (never r.1) i

  no_rounds : (rest : Do S) → AgreeUpTo 0 (repeat_turns zero body test) (round_and rest)
  no_rounds rest s h = sym (ap (λ o. and_then (and_then (and_then o (λ _. body)) (λ _. test)) (λ done. cond done (pure tt) rest)) (spend_none s h))

  enough_rounds : (n k : ℕ) (s : Running S) → s.left ≤ n → s.left ≤ k → repeat_turns n body test s ≡ repeat_turns k body test s
  enough_rounds zero zero s h i = refl
  enough_rounds zero (suc k) s h i = no_rounds (repeat_turns k body test) s h
  enough_rounds (suc n) zero s h i = sym (no_rounds (repeat_turns n body test) s i)
  enough_rounds (suc n) (suc k) s h i = rounds_agree (s.left - 1) (repeat_turns n body test) (repeat_turns k body test) (λ t j. enough_rounds n k t (omega (arith, j, h, i)) (omega (arith, j, h, i))) s (omega arith)

  -- `repeat` is a unit, the body, its condition, and where that is false the `repeat` again
  pub repeat_unrolls : (s : Running S) → repeat_loop body test s ≡ round_and (repeat_loop body test) s
  unfolding repeat_loop
  repeat_unrolls s = enough_rounds s.left (suc s.left) s (omega arith) (omega arith)
      ∙ rounds_agree s.left (repeat_turns s.left body test) (λ t. repeat_turns t.left body test t) (λ t j. enough_rounds s.left t.left t j (omega arith)) s (omega arith)
