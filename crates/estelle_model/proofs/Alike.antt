-- Steps on two states that do the same: from related states they come to related states and related values, or to one fault.
use Rattle.std.proofs.Common.{◌≡◌, ℕ, Bool, true, false, List, [], ◌∷◌, map, Result, Ok, Err, Option, Some, None, refl, ap, subst, cond}
use Rattle.std.specs.Prelude.{◌-◌, nat_lt}
use Rattle.pascal_values.specs.declared.fault.Fault.TheVariants.{StepLimit}
use Rattle.pascal_values.specs.declared.value.Value.{Value}
use Rattle.estelle_tree.proofs.Folds.{Related}
use Rattle.estelle_model.specs.Stops.{Stop, Faults}
use Rattle.estelle_model.specs.Steps.{Running, StepResult, Step, Do, and_then, ◌>>=◌, pure, checked, all, spend, stop}

-- the same value
abbrev pub Same : {A : Type 0} → A → A → Type 0
Same a b = a ≡ b

-- related one by one
abbrev pub EachAlike : {A B : Type 0} → (A → B → Type 0) → List A → List B → Type 0
EachAlike V [] [] = Unit {0}
EachAlike V [] (b ∷ ys) = ⊥
EachAlike V (a ∷ xs) [] = ⊥
EachAlike V (a ∷ xs) (b ∷ ys) = V a b × EachAlike V xs ys

abbrev pub MaybeAlike : {A B : Type 0} → (A → B → Type 0) → Option A → Option B → Type 0
MaybeAlike V None None = Unit {0}
MaybeAlike V None (Some b) = ⊥
MaybeAlike V (Some a) None = ⊥
MaybeAlike V (Some a) (Some b) = V a b

-- each of some pairs is related, and each behind an operator
pub each_related : {A B : Type 0} (V : A → B → Type 0) (xs : List (Related A B V)) → EachAlike V (map (λ (x : Related A B V). x.left) xs) (map (λ (x : Related A B V). x.right) xs)
each_related V [] = tt
each_related V (x ∷ xs) = (x.holds, each_related V xs)

pub each_marked : {M A B : Type 0} (V : A → B → Type 0) (xs : List (M × Related A B V)) → EachAlike (λ (x : M × A) (y : M × B). (x.0 ≡ y.0) × V x.1 y.1) (map {B = M × A} (λ (x : M × Related A B V). (x.0, x.1.left)) xs) (map {B = M × B} (λ (x : M × Related A B V). (x.0, x.1.right)) xs)
each_marked V [] = tt
each_marked V (x ∷ xs) = ((refl, x.1.holds), each_marked V xs)

module _ (S T : Type 0) (R : S → T → Type 0) where
  -- the states are related, with the same frames and units
  pub record RunningAlike (s : Running S) (t : Running T) : Type 0 where
    pub state : R s.state t.state
    pub frames : s.frames ≡ t.frames
    pub left : s.left ≡ t.left

  abbrev pub OutcomeAlike : {A B : Type 0} → (A → B → Type 0) → StepResult S A → StepResult T B → Type 0
  OutcomeAlike V (Ok r) (Ok q) = V r.0 q.0 × RunningAlike r.1 q.1
  OutcomeAlike V (Err e) (Err f) = e ≡ f
  OutcomeAlike V (Ok r) (Err f) = ⊥
  OutcomeAlike V (Err e) (Ok q) = ⊥

  abbrev pub StepAlike : {A B : Type 0} → (A → B → Type 0) → Step S A → Step T B → Type 0
  StepAlike V p q = (s : Running S) (t : Running T) → RunningAlike s t → OutcomeAlike V (p s) (q t)

  -- statements
  abbrev pub DoAlike : Do S → Do T → Type 0
  DoAlike p q = StepAlike (Same {A = Unit {0}}) p q

  -- expressions
  abbrev pub ValueAlike : Step S Value → Step T Value → Type 0
  ValueAlike p q = StepAlike (Same {A = Value}) p q

  pub and_then_alike : {A A' B B' : Type 0} (V : A → A' → Type 0) (W : B → B' → Type 0) (o : StepResult S A) (o' : StepResult T A') (f : A → Step S B) (g : A' → Step T B') → OutcomeAlike V o o' → ((a : A) (b : A') → V a b → StepAlike W (f a) (g b)) → OutcomeAlike W (and_then o f) (and_then o' g)
  and_then_alike V W (Ok r) (Ok q) f g h k = k r.0 q.0 h.0 r.1 q.1 h.1
  and_then_alike V W (Err e) (Err x) f g h k = h
  and_then_alike V W (Ok r) (Err x) f g h k = absurd h
  and_then_alike V W (Err e) (Ok q) f g h k = absurd h

  pub then_alike : {A A' B B' : Type 0} (V : A → A' → Type 0) (W : B → B' → Type 0) (p : Step S A) (q : Step T A') (f : A → Step S B) (g : A' → Step T B') → StepAlike V p q → ((a : A) (b : A') → V a b → StepAlike W (f a) (g b)) → StepAlike W (p >>= f) (q >>= g)
  then_alike V W p q f g h k s t r = and_then_alike V W (p s) (q t) f g (h s t r) k

  -- the first value is the same
  pub then_same : {A B B' : Type 0} (W : B → B' → Type 0) (p : Step S A) (q : Step T A) (f : A → Step S B) (g : A → Step T B') → StepAlike (Same {A = A}) p q → ((a : A) → StepAlike W (f a) (g a)) → StepAlike W (p >>= f) (q >>= g)
  then_same {A} W p q f g h k = then_alike (Same {A = A}) W p q f g h (λ a b e. subst (λ (c : A). StepAlike W (f a) (g c)) e (k a))

  pub pure_alike : {A B : Type 0} (V : A → B → Type 0) (a : A) (b : B) → V a b → StepAlike V (pure a) (pure b)
  pure_alike V a b v s t r = (v, r)

  pub stop_alike : {A B : Type 0} (V : A → B → Type 0) (e : Stop) → StepAlike V (stop e) (stop e)
  stop_alike V e s t r = ap (λ n. (e, n)) r.left

  pub checked_alike : {A : Type 0} (x : Result A Stop) → StepAlike (Same {A = A}) (checked x) (checked x)
  checked_alike (Ok a) s t r = (refl, r)
  checked_alike (Err e) s t r = ap (λ n. (e, n)) r.left

  pub if_alike : {A B : Type 0} (V : A → B → Type 0) (b : Bool) (p p' : Step S A) (q q' : Step T B) → StepAlike V p q → StepAlike V p' q' → StepAlike V (cond b p p') (cond b q q')
  if_alike V true p p' q q' h k = h
  if_alike V false p p' q q' h k = k

  pub all_alike : (ps : List (Do S)) (qs : List (Do T)) → EachAlike DoAlike ps qs → DoAlike (all ps) (all qs)
  all_alike [] [] h = pure_alike (Same {A = Unit {0}}) tt tt refl
  all_alike [] (q ∷ qs) h = absurd h
  all_alike (p ∷ ps) [] h = absurd h
  all_alike (p ∷ ps) (q ∷ qs) h = then_same (Same {A = Unit {0}}) p q (λ _. all ps) (λ _. all qs) h.0 (λ _. all_alike ps qs h.1)

  pub spend_alike : DoAlike spend spend
  unfolding spend
  spend_alike s t r = subst (λ (k : ℕ). OutcomeAlike (Same {A = Unit {0}}) (cond (nat_lt 0 s.left) (Ok (tt, record s { left = s.left - 1 })) (Err (Faults StepLimit, s.left))) (cond (nat_lt 0 k) (Ok (tt, record t { left = k - 1 })) (Err (Faults StepLimit, k)))) r.left (go (nat_lt 0 s.left))
    where
      go : (b : Bool) → OutcomeAlike (Same {A = Unit {0}}) (cond b (Ok (tt, record s { left = s.left - 1 })) (Err (Faults StepLimit, s.left))) (cond b (Ok (tt, record t { left = s.left - 1 })) (Err (Faults StepLimit, s.left)))
      go true = (refl, record { state = r.state; frames = r.frames; left = refl })
      go false = refl
