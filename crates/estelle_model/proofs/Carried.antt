-- What each step of a plan keeps the plan keeps: of two states on which it is carried out, and of one.
use Rattle.std.proofs.Common.{◌≡◌, ℕ, suc, ◌+◌, ◌-◌, ◌≤◌, ◌<◌, true, false, Bool, Result, Ok, Err, refl, sym, ap, subst, cond, arith}
use Rattle.std.proofs.lemmas.Bool.{ltb-true}
use Rattle.std.specs.Prelude.{nat_lt}
use Rattle.pascal_values.specs.declared.fault.Fault.TheVariants.{StepLimit}
use Rattle.estelle_tree.specs.Paths.{Path}
use Rattle.estelle_model.specs.Core.{Core}
use Rattle.estelle_model.specs.Effects.{StatementEffect, Change, core_after, core_kept}
use Rattle.estelle_model.specs.Effects as effect
use Rattle.estelle_model.specs.States.{Offers, IsFaithful}
use Rattle.estelle_model.specs.Stops.{Stop, Faults}
use Rattle.estelle_model.specs.Steps.{Running, StepResult, Step, and_then, checked_at, spend}
use Rattle.estelle_model.specs.Plans.{Plan, Done, Fails, Reads, Spends, Makes, Keeps, ◌>>=◌, carry}
use Rattle.estelle_model.proofs.Alike.{Same, RunningAlike, OutcomeAlike, spend_alike}

-- ---- one plan after another

module _ (S : Type 0) (on : Offers S) where
  regrouped : {A B C : Type 0} (o : StepResult S A) (f : A → Step S B) (g : B → Step S C) (h : A → Step S C) → ((a : A) (s : Running S) → h a s ≡ and_then (f a s) g) → and_then o h ≡ and_then (and_then o f) g
  regrouped (Ok r) f g h is = is r.0 r.1
  regrouped (Err e) f g h is = refl

  pub carry_then : {A B : Type 0} (p : Plan A) (f : A → Plan B) (s : Running S) → carry S on (p >>= f) s ≡ and_then (carry S on p s) (λ a. carry S on (f a))
  carry_then (Done a) f s = refl
  carry_then (Fails e) f s = refl
  carry_then (Reads g k) f s = regrouped (checked_at (g (on.core s.state)) s) (λ a. carry S on (k a)) (λ b. carry S on (f b)) (λ a. carry S on (k a >>= f)) (λ a t. carry_then (k a) f t)
  carry_then (Spends p) f s = regrouped (spend s) (λ taken. carry S on p) (λ b. carry S on (f b)) (λ taken. carry S on (p >>= f)) (λ a t. carry_then p f t)
  carry_then (Makes e p) f s = carry_then p f (record s { state = on.does e s.state })
  carry_then (Keeps q change p) f s = carry_then p f (record s { state = on.keeps q change s.state })

-- ---- what a plan asks of the core

-- what is asked of each reading, each effect and each change, by the core at which it stands
pub record Asks : Type 1 where
  -- another core, of which the same is to be read
  pub sees : Core → Core → Type 0
  pub makes : StatementEffect → Core → Type 0
  pub keeps : Path → Change → Core → Type 0

-- the units that an effect takes of those that its statement has taken
abbrev pub price : StatementEffect → ℕ
price (effect.Output from ip name values) = 1
price (effect.Create p k i) = 1
price _ = 0

-- a plan does what is asked, with so many units in hand, and comes to a value of which more holds
abbrev pub Fits : Asks → {B : Type 0} → (B → Core → Type 0) → Plan B → ℕ → Core → Type 0
Fits asks Post (Done b) n c = Post b c
Fits asks Post (Fails e) n c = Unit {0}
Fits asks Post (Reads {A} f k) n c = ((d : Core) → asks.sees c d → f c ≡ f d) × ((a : A) → f c ≡ Ok a → Fits asks Post (k a) n c)
Fits asks Post (Spends p) n c = Fits asks Post p (suc n) c
Fits asks Post (Makes e p) n c = asks.makes e c × (price e ≤ n) × Fits asks Post p (n - price e) (core_after e c)
Fits asks Post (Keeps q change p) n c = asks.keeps q change c × Fits asks Post p n (core_kept q change c)

module _ (asks : Asks) where
  -- one plan after another
  pub fits_then : {A B : Type 0} (Post : B → Core → Type 0) (p : Plan A) (f : A → Plan B) (n : ℕ) (c : Core) → Fits asks (λ a d. (m : ℕ) → Fits asks Post (f a) m d) p n c → Fits asks Post (p >>= f) n c
  fits_then Post (Done a) f n c h = h n
  fits_then Post (Fails e) f n c h = tt
  fits_then Post (Reads g k) f n c h = (h.0, λ a is. fits_then Post (k a) f n c (h.1 a is))
  fits_then Post (Spends p) f n c h = fits_then Post p f (suc n) c h
  fits_then Post (Makes e p) f n c h = (h.0, h.1, fits_then Post p f (n - price e) (core_after e c) h.2)
  fits_then Post (Keeps q change p) f n c h = (h.0, fits_then Post p f n (core_kept q change c) h.1)

  -- a value of which less is asked
  pub fits_more : {B : Type 0} (Post More : B → Core → Type 0) → ((b : B) (c : Core) → Post b c → More b c) → (p : Plan B) (n : ℕ) (c : Core) → Fits asks Post p n c → Fits asks More p n c
  fits_more Post More so (Done b) n c h = so b c h
  fits_more Post More so (Fails e) n c h = tt
  fits_more Post More so (Reads g k) n c h = (h.0, λ a is. fits_more Post More so (k a) n c (h.1 a is))
  fits_more Post More so (Spends p) n c h = fits_more Post More so p (suc n) c h
  fits_more Post More so (Makes e p) n c h = (h.0, h.1, fits_more Post More so p (n - price e) (core_after e c) h.2)
  fits_more Post More so (Keeps q change p) n c h = (h.0, fits_more Post More so p n (core_kept q change c) h.1)

-- ---- on two states

module _ (asks : Asks) (S T : Type 0) (on : Offers S) (on' : Offers T) (R : S → T → Type 0) where
  -- related states show what a plan asks for, and each effect and each change that is asked for keeps them related
  pub record KeepsRelated : Type 0 where
    pub faithful : IsFaithful S on
    pub sees : (s : S) (t : T) → R s t → asks.sees (on.core s) (on'.core t)
    pub makes : (e : StatementEffect) (s : S) (t : T) → R s t → asks.makes e (on.core s) → R (on.does e s) (on'.does e t)
    pub keeps : (p : Path) (change : Change) (s : S) (t : T) → R s t → asks.keeps p change (on.core s) → R (on.keeps p change s) (on'.keeps p change t)

  -- the same value, of which more holds, with related states; or one fault
  abbrev pub CarriedAlike : {B : Type 0} → (B → Core → Type 0) → StepResult S B → StepResult T B → Type 0
  CarriedAlike Post (Ok r) (Ok q) = (r.0 ≡ q.0) × RunningAlike S T R r.1 q.1 × Post r.0 (on.core r.1.state)
  CarriedAlike Post (Err e) (Err f) = e ≡ f
  CarriedAlike Post (Ok r) (Err f) = ⊥
  CarriedAlike Post (Err e) (Ok q) = ⊥

  pub forget : {B : Type 0} (Post : B → Core → Type 0) (o : StepResult S B) (o' : StepResult T B) → CarriedAlike Post o o' → OutcomeAlike S T R (Same {A = B}) o o'
  forget Post (Ok r) (Ok q) h = (h.0, h.1)
  forget Post (Err e) (Err f) h = h
  forget Post (Ok r) (Err f) h = absurd h
  forget Post (Err e) (Ok q) h = absurd h

  module _ (keeps : KeepsRelated) where
    pub carried_alike : {B : Type 0} (Post : B → Core → Type 0) (p : Plan B) (n : ℕ) (s : Running S) (t : Running T) → RunningAlike S T R s t → Fits asks Post p n (on.core s.state) → CarriedAlike Post (carry S on p s) (carry T on' p t)
    unfolding spend
    carried_alike Post (Done b) n s t r h = (refl, r, h)
    carried_alike Post (Fails e) n s t r h = ap (λ k. (e, k)) r.left
    carried_alike Post (Reads {A} f k) n s t r h = subst (λ (x : Result A Stop). CarriedAlike Post (and_then (checked_at (f (on.core s.state)) s) (λ a. carry S on (k a))) (and_then (checked_at x t) (λ a. carry T on' (k a)))) (h.0 (on'.core t.state) (keeps.sees s.state t.state r.state)) (go (f (on.core s.state)) (λ a is. carried_alike Post (k a) n s t r (h.1 a is)))
      where
        go : (x : Result A Stop) → ((a : A) → x ≡ Ok a → CarriedAlike Post (carry S on (k a) s) (carry T on' (k a) t)) → CarriedAlike Post (and_then (checked_at x s) (λ a. carry S on (k a))) (and_then (checked_at x t) (λ a. carry T on' (k a)))
        go (Ok a) i = i a refl
        go (Err e) i = ap (λ m. (e, m)) r.left
    carried_alike Post (Spends p) n s t r h = subst (λ (k : ℕ). CarriedAlike Post (and_then (cond (nat_lt 0 s.left) (Ok (tt, record s { left = s.left - 1 })) (Err (Faults StepLimit, s.left))) (λ taken. carry S on p)) (and_then (cond (nat_lt 0 k) (Ok (tt, record t { left = k - 1 })) (Err (Faults StepLimit, k))) (λ taken. carry T on' p))) r.left (go (nat_lt 0 s.left) (carried_alike Post p (suc n) (record s { left = s.left - 1 }) (record t { left = s.left - 1 }) (record { state = r.state; frames = r.frames; left = refl }) h))
      where
        go : (b : Bool) → CarriedAlike Post (carry S on p (record s { left = s.left - 1 })) (carry T on' p (record t { left = s.left - 1 })) → CarriedAlike Post (and_then (cond b (Ok (tt {0}, record s { left = s.left - 1 })) (Err (Faults StepLimit, s.left))) (λ taken. carry S on p)) (and_then (cond b (Ok (tt {0}, record t { left = s.left - 1 })) (Err (Faults StepLimit, s.left))) (λ taken. carry T on' p))
        go true i = i
        go false i = refl
    carried_alike Post (Makes e p) n s t r h =
        let now : R (on.does e s.state) (on'.does e t.state) = keeps.makes e s.state t.state r.state h.0 in
        let is : on.core (on.does e s.state) ≡ core_after e (on.core s.state) = keeps.faithful.does_core e s.state in
        carried_alike Post p (n - price e) (record s { state = on.does e s.state }) (record t { state = on'.does e t.state }) (record { state = now; frames = r.frames; left = r.left })
        (subst (Fits asks Post p (n - price e)) (sym is) h.2)
    carried_alike Post (Keeps q change p) n s t r h =
        let now : R (on.keeps q change s.state) (on'.keeps q change t.state) = keeps.keeps q change s.state t.state r.state h.0 in
        let is : on.core (on.keeps q change s.state) ≡ core_kept q change (on.core s.state) = keeps.faithful.keeps_core q change s.state in
        carried_alike Post p n (record s { state = on.keeps q change s.state }) (record t { state = on'.keeps q change t.state }) (record { state = now; frames = r.frames; left = r.left })
        (subst (Fits asks Post p n) (sym is) h.1)

-- ---- on one state

module _ (asks : Asks) (S : Type 0) (on : Offers S) (K : ℕ → Running S → Type 0) where
  -- what holds of a state with so many units in hand holds again behind each unit, effect and change
  pub record KeepsHolding : Type 0 where
    pub faithful : IsFaithful S on
    pub spends : (n : ℕ) (s : Running S) → K n s → 0 < s.left → K (suc n) (record s { left = s.left - 1 })
    pub makes : (e : StatementEffect) (n : ℕ) (s : Running S) → K n s → price e ≤ n → asks.makes e (on.core s.state) → K (n - price e) (record s { state = on.does e s.state })
    pub keeps : (p : Path) (change : Change) (n : ℕ) (s : Running S) → K n s → asks.keeps p change (on.core s.state) → K n (record s { state = on.keeps p change s.state })

  -- where a plan comes to a value, it holds with some units in hand, and more holds of the value
  abbrev pub Holding : {B : Type 0} → (B → Core → Type 0) → StepResult S B → Type 0
  Holding Post (Ok r) = ((n : ℕ) × K n r.1) × Post r.0 (on.core r.1.state)
  Holding Post (Err e) = Unit {0}

  module _ (keeps : KeepsHolding) where
    pub carried_holds : {B : Type 0} (Post : B → Core → Type 0) (p : Plan B) (n : ℕ) (s : Running S) → K n s → Fits asks Post p n (on.core s.state) → Holding Post (carry S on p s)
    unfolding spend
    carried_holds Post (Done b) n s k h = ((n, k), h)
    carried_holds Post (Fails e) n s k h = tt
    carried_holds Post (Reads {A} f g) n s k h = go (f (on.core s.state)) (λ a is. carried_holds Post (g a) n s k (h.1 a is))
      where
        go : (x : Result A Stop) → ((a : A) → x ≡ Ok a → Holding Post (carry S on (g a) s)) → Holding Post (and_then (checked_at x s) (λ a. carry S on (g a)))
        go (Ok a) i = i a refl
        go (Err e) i = tt
    carried_holds Post (Spends p) n s k h = go (nat_lt 0 s.left) refl (λ some. carried_holds Post p (suc n) (record s { left = s.left - 1 }) (keeps.spends n s k some) h)
      where
        go : (b : Bool) → nat_lt 0 s.left ≡ b → (0 < s.left → Holding Post (carry S on p (record s { left = s.left - 1 }))) → Holding Post (and_then (cond b (Ok (tt {0}, record s { left = s.left - 1 })) (Err (Faults StepLimit, s.left))) (λ taken. carry S on p))
        go true is i = i (ltb-true 0 s.left is)
        go false is i = tt
    carried_holds Post (Makes e p) n s k h =
        let now : K (n - price e) (record s { state = on.does e s.state }) = keeps.makes e n s k h.1 h.0 in
        let is : on.core (on.does e s.state) ≡ core_after e (on.core s.state) = keeps.faithful.does_core e s.state in
        carried_holds Post p (n - price e) (record s { state = on.does e s.state }) now
        (subst (Fits asks Post p (n - price e)) (sym is) h.2)
    carried_holds Post (Keeps q change p) n s k h =
        let now : K n (record s { state = on.keeps q change s.state }) = keeps.keeps q change n s k h.0 in
        let is : on.core (on.keeps q change s.state) ≡ core_kept q change (on.core s.state) = keeps.faithful.keeps_core q change s.state in
        carried_holds Post p n (record s { state = on.keeps q change s.state }) now
        (subst (Fits asks Post p n) (sym is) h.1)
