-- Steps that see no frames: what they do is the same over any, which stay as they are.
use Rattle.std.proofs.Common.{◌≡◌, ◌∙◌, refl, sym, ap, subst, ℕ, ◌-◌, ◌≤◌, Bool, true, false, cond, List, Result, Ok, Err, arith}
use Rattle.std.specs.Prelude.{nat_lt}
use Rattle.pascal_values.specs.declared.fault.Fault.TheVariants.{StepLimit}
use Rattle.pascal_values.specs.declared.value.Value.{Value}
use Rattle.estelle_model.specs.Stops.{Stop, Faults}
use Rattle.estelle_model.specs.States.{Logged, on_log}
use Rattle.estelle_model.specs.Steps.{Running, StepResult, Step, and_then, pure, checked_at, spend}
use Rattle.estelle_model.specs.Plans.{Plan, Done, Fails, Reads, Spends, Makes, Keeps, carry}
use Rattle.estelle_model.proofs.LoopLaws.{AtMost}

-- with other frames
abbrev pub framed : List Value → Running Logged → Running Logged
framed F r = record r { frames = F }

abbrev pub reframed : {A : Type 0} → List Value → StepResult Logged A → StepResult Logged A
reframed F (Ok x) = Ok (x.0, framed F x.1)
reframed F (Err e) = Err e

-- it does the same over other frames, and gives no units back
pub record IsBlind {A : Type 0} (p : Step Logged A) : Type 0 where
  pub same : (F : List Value) (r : Running Logged) → p (framed F r) ≡ reframed F (p r)
  pub fewer : (r : Running Logged) → AtMost r.left (p r)

-- the frames stay
abbrev pub KeepsFrames : {A : Type 0} → List Value → StepResult Logged A → Type 0
KeepsFrames F (Ok x) = x.1.frames ≡ F
KeepsFrames F (Err e) = Unit {0}

pub frames_kept : {A : Type 0} (p : Step Logged A) → IsBlind p → (r : Running Logged) → KeepsFrames r.frames (p r)
frames_kept {A} p h r = subst (λ (o : StepResult Logged A). KeepsFrames r.frames o) (sym (h.same r.frames r)) (by (p r))
  where
    by : (o : StepResult Logged A) → KeepsFrames r.frames (reframed r.frames o)
    by (Ok x) = refl
    by (Err e) = tt

pub pure_blind : {A : Type 0} (a : A) → IsBlind (pure a)
pure_blind a = record { same = λ F r. refl; fewer = λ r. omega arith }

pub spend_blind : IsBlind spend
unfolding spend
spend_blind = record { same = λ F r. same F r (nat_lt 0 r.left); fewer = λ r. fewer r (nat_lt 0 r.left) }
  where
    spent : Bool → Running Logged → StepResult Logged (Unit {0})
    spent b r = cond b (Ok (tt, record r { left = r.left - 1 })) (Err (Faults StepLimit, r.left))

    same : (F : List Value) (r : Running Logged) (b : Bool) → spent b (framed F r) ≡ reframed F (spent b r)
    same F r true = refl
    same F r false = refl

    fewer : (r : Running Logged) (b : Bool) → AtMost r.left (spent b r)
    fewer r true = omega arith
    fewer r false = tt

less_still : {A : Type 0} (n k : ℕ) (o : StepResult Logged A) → k ≤ n → AtMost k o → AtMost n o
less_still n k (Ok x) h l = omega (arith, h, l)
less_still n k (Err e) h l = tt

-- plans see no frames
pub carry_blind : {B : Type 0} (p : Plan B) → IsBlind (carry Logged on_log p)
carry_blind p = record { same = λ F r. same p F r; fewer = λ r. fewer p r }
  where
    read : {A B : Type 0} (F : List Value) (r : Running Logged) (k : A → Plan B) (o : Result A Stop) → ((a : A) → carry Logged on_log (k a) (framed F r) ≡ reframed F (carry Logged on_log (k a) r))
        → and_then (checked_at o (framed F r)) (λ a. carry Logged on_log (k a)) ≡ reframed F (and_then (checked_at o r) (λ a. carry Logged on_log (k a)))
    read F r k (Ok a) h = h a
    read F r k (Err e) h = refl

    taken : {B : Type 0} (F : List Value) (p : Plan B) (o : StepResult Logged (Unit {0})) → ((q : Running Logged) → carry Logged on_log p (framed F q) ≡ reframed F (carry Logged on_log p q))
        → and_then (reframed F o) (λ taken. carry Logged on_log p) ≡ reframed F (and_then o (λ taken. carry Logged on_log p))
    taken F p (Ok x) h = h x.1
    taken F p (Err e) h = refl

    same : {B : Type 0} (p : Plan B) (F : List Value) (r : Running Logged) → carry Logged on_log p (framed F r) ≡ reframed F (carry Logged on_log p r)
    same (Done b) F r = refl
    same (Fails e) F r = refl
    same (Reads f k) F r = read F r k (f r.state.image) (λ a. same (k a) F r)
    same (Spends p) F r = ap (λ o. and_then o (λ taken. carry Logged on_log p)) (spend_blind.same F r) ∙ taken F p (spend r) (λ q. same p F q)
    same (Makes e p) F r = same p F (record r { state = on_log.does e r.state })
    same (Keeps q change p) F r = same p F (record r { state = on_log.keeps q change r.state })

    reading : {A B : Type 0} (r : Running Logged) (k : A → Plan B) (o : Result A Stop) → ((a : A) → AtMost r.left (carry Logged on_log (k a) r)) → AtMost r.left (and_then (checked_at o r) (λ a. carry Logged on_log (k a)))
    reading r k (Ok a) h = h a
    reading r k (Err e) h = tt

    spending : {B : Type 0} (n : ℕ) (p : Plan B) (o : StepResult Logged (Unit {0})) → AtMost n o → ((q : Running Logged) → AtMost q.left (carry Logged on_log p q)) → AtMost n (and_then o (λ taken. carry Logged on_log p))
    spending n p (Ok x) l h = less_still n x.1.left (carry Logged on_log p x.1) l (h x.1)
    spending n p (Err e) l h = tt

    fewer : {B : Type 0} (p : Plan B) (r : Running Logged) → AtMost r.left (carry Logged on_log p r)
    fewer (Done b) r = omega arith
    fewer (Fails e) r = tt
    fewer (Reads f k) r = reading r k (f r.state.image) (λ a. fewer (k a) r)
    fewer (Spends p) r = spending r.left p (spend r) (spend_blind.fewer r) (λ q. fewer p q)
    fewer (Makes e p) r = fewer p (record r { state = on_log.does e r.state })
    fewer (Keeps q change p) r = fewer p (record r { state = on_log.keeps q change r.state })
