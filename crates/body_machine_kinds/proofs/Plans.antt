-- Plans that make no instance leave all as it has to be.
use Rattle.std.proofs.Common.{◌≡◌, ◌∙◌, refl, sym, ap, subst, ◌⊎◌, inl, inr, ℕ, zero, suc, ◌-◌, Bool, true, false, cond, List, [], ◌∷◌, Option, Some, None, Result, Ok, Err}
use Rattle.std.specs.Prelude.{slice_get, slice_set, nat_lt}
use Rattle.std.specs.FinMap as fin
use Rattle.pascal_values.specs.declared.fault.Fault.TheVariants as fault
use Rattle.pascal_values.specs.declared.value.Value.{Value}
use Rattle.estelle_tree.specs.declared.link.IpAddr.{IpAddr}
use Rattle.estelle_tree.specs.Paths.{Path, child}
use Rattle.body_code.specs.declared.instr.Point as point
use Rattle.body_code.specs.declared.instr.Point.TheVariants.{Own, OfChild}
use Rattle.body_code.specs.declared.instr.Ends.TheVariants.{Point, Child}
use Rattle.estelle_model.specs.declared.meaning.InteractionKind.{InteractionKind}
use Rattle.estelle_model.specs.declared.meaning.Meaning.{Meaning}
use Rattle.estelle_model.specs.declared.meaning.Meaning.TheVariants.{Interaction}
use Rattle.estelle_model.specs.Core.{Instance, Core}
use Rattle.estelle_model.specs.Effects.{StatementEffect, Output, Connect, Disconnect, Attach, Detach, Create, Remove, Change, Store, Hold, Enter, changed, core_after, instances_after}
use Rattle.estelle_model.specs.States.{Logged, on_log}
use Rattle.estelle_model.specs.Stops.{Stop, Faults, Broken}
use Rattle.estelle_model.specs.Steps as step
use Rattle.estelle_model.specs.Steps.{Running, StepResult, Step, Do, and_then, checked_at, spend}
use Rattle.estelle_model.specs.Plans.{Plan, Done, Fails, Reads, Spends, Makes, Keeps, ◌>>=◌, stops_if, stops_unless, for_each, carry}
use Rattle.estelle_model.specs.Places.{child_step}
use Rattle.estelle_model.specs.Actions.{at, or_no_module, disconnect_where, disconnect_if, detach_above, detach_if, free_point, points_of, connect_points, disconnect_point, disconnect_child, attach_points, detach_point, output_at, release_child}
use Rattle.estelle_model.specs.Subject.{Subject}
use Rattle.estelle_model_legality.proofs.Lookups.{get_removed, removed_was}
use Rattle.body_machine.specs.Ends.{end_at, connect_ends, disconnect_ends, attach_end, detach_end, release_in, output_of, output_with}
use Rattle.body_machine_kinds.specs.Typed.{Bodies, Frames, MayBeHeld, IsSound, IsState, IsRunning}
use Rattle.body_machine_kinds.proofs.Places.{MayBe, Safely, safely_then, state_changed, child_held, Stays}

-- ---- what may be

pub looser : (may : Bool) (e : Stop) → MayBe false e → MayBe may e
looser may (Faults f) h = tt
looser may Broken h = absurd (cc)

pub loosen : {A : Type 0} (may : Bool) (P : A → Running Logged → Type 0) (o : StepResult Logged A) → Safely false P o → Safely may P o
loosen may P (Ok r) h = h
loosen may P (Err e) h = looser may e.0 h

-- one entry is set
slot_was : (xs : List (Option Path)) (m k : ℕ) (new : Option Path) (c : Path) → slice_get (slice_set xs m new) k ≡ Some (Some c) → ((k ≡ m) × (new ≡ Some c)) ⊎ (slice_get xs k ≡ Some (Some c))
slot_was [] m k new c h = inr h
slot_was (x ∷ xs) zero zero new c h = inl (refl, cc)
slot_was (x ∷ xs) zero (suc k) new c h = inr h
slot_was (x ∷ xs) (suc m) zero new c h = inr h
slot_was (x ∷ xs) (suc m) (suc k) new c h = elim (slot_was xs m k new c h) [ inl e ↦ inl (ap (λ (n : ℕ). suc n) e.0, e.1) | inr e ↦ inr e ]

-- ---- plans

abbrev IsTame : StatementEffect → Type 0
IsTame (Create p k i) = ⊥
IsTame _ = Unit {0}

abbrev pub IsTameChange : Change → Type 0
IsTameChange (Store x way v) = ⊥
IsTameChange (Hold m (Some c)) = ⊥
IsTameChange _ = Unit {0}

abbrev pub MayRead : {A : Type 0} → Bool → Result A Stop → Type 0
MayRead may (Ok a) = Unit {0}
MayRead may (Err e) = MayBe may e

-- makes no instance, holds no child, and stops by what it may
abbrev pub Tame : {B : Type 0} → Bool → Plan B → Type 0
Tame may (Done b) = Unit {0}
Tame may (Fails e) = MayBe may e
Tame may (Reads {A} f k) = ((c : Core) → MayRead may (f c)) × ((a : A) → Tame may (k a))
Tame may (Spends p) = Tame may p
Tame may (Makes e p) = IsTame e × Tame may p
Tame may (Keeps q change p) = IsTameChange change × Tame may p

pub tame_then : {A B : Type 0} (may : Bool) (p : Plan A) (f : A → Plan B) → Tame may p → ((a : A) → Tame may (f a)) → Tame may (p >>= f)
tame_then may (Done a) f h k = k a
tame_then may (Fails e) f h k = h
tame_then may (Reads g n) f h k = (h.0, λ a. tame_then may (n a) f (h.1 a) k)
tame_then may (Spends p) f h k = tame_then may p f h k
tame_then may (Makes e p) f h k = (h.0, tame_then may p f h.1 k)
tame_then may (Keeps q change p) f h k = (h.0, tame_then may p f h.1 k)

tame_each : {A : Type 0} (may : Bool) (f : A → Plan (Unit {0})) → ((a : A) → Tame may (f a)) → (xs : List A) → Tame may (for_each f xs)
tame_each may f h [] = tt
tame_each may f h (x ∷ xs) = tame_then may (f x) (λ done. for_each f xs) (h x) (λ a. tame_each may f h xs)

stops_when : (may b : Bool) (e : Stop) → MayBe may e → MayRead may (stops_if b e)
stops_when may true e h = h
stops_when may false e h = tt

stops_but : (may b : Bool) (e : Stop) → MayBe may e → MayRead may (stops_unless b e)
stops_but may true e h = tt
stops_but may false e h = h

there_or_gone : (may : Bool) (i : Option Instance) → MayRead may (or_no_module i)
there_or_gone may (Some i) = tt
there_or_gone may None = tt

module _ (s : Subject) (bodies : Bodies) where
  effect_state : (e : StatementEffect) (c : Core) → IsTame e → IsState s bodies c → IsState s bodies (core_after e c)
  unfolding instances_after
  effect_state (Create p k i) c t h = absurd t
  effect_state (Remove p k) c t h = record { types = h.types; instances = λ q i is. h.instances q i (removed_was (child p k) (fin.get c.instances) q i (sym (get_removed (child p k) c.instances q) ∙ is)).1 }
  effect_state (Output from ip name values) c t h = record { types = h.types; instances = h.instances }
  effect_state (Connect a b) c t h = record { types = h.types; instances = h.instances }
  effect_state (Disconnect a) c t h = record { types = h.types; instances = h.instances }
  effect_state (Attach a b) c t h = record { types = h.types; instances = h.instances }
  effect_state (Detach a) c t h = record { types = h.types; instances = h.instances }

  -- a module variable holds a child that it may hold, or none
  pub held_sound : (p : Path) (i : Instance) (m : ℕ) (new : Option Path) → ((c : Path) → new ≡ Some c → MayBeHeld s bodies i.body m c) → IsSound s bodies p i → IsSound s bodies p (changed (Hold m new) i)
  held_sound p i m new may h = record {
    body = h.body;
    variables = h.variables;
    children = λ k c e. go k c (slot_was i.module_variables m k new c e);
    births = h.births;
  }
    where
      go : (k : ℕ) (c : Path) → ((k ≡ m) × (new ≡ Some c)) ⊎ (slice_get i.module_variables k ≡ Some (Some c)) → MayBeHeld s bodies i.body k c
      go k c (inl e) = subst (λ (x : ℕ). MayBeHeld s bodies i.body x c) (sym e.0) (may c e.1)
      go k c (inr e) = h.children k c e

  pub change_sound : (q p : Path) (change : Change) (i : Instance) → IsTameChange change → IsSound s bodies p i → IsSound s bodies p (changed change i)
  change_sound q p (Store x way v) i t h = absurd t
  change_sound q p (Hold m (Some c)) i t h = absurd t
  change_sound q p (Hold m None) i t h = held_sound p i m None (λ c e. absurd (cc)) h
  change_sound q p (Enter k) i t h = record { body = h.body; variables = h.variables; children = h.children; births = h.births }

  module _ (frames : Frames) where
    pub kept_running : (q : Path) (change : Change) (r : Running Logged) → ((i : Instance) → fin.get r.state.image.instances q ≡ Some i → IsSound s bodies q i → IsSound s bodies q (changed change i)) → IsRunning s bodies frames r → IsRunning s bodies frames (record r { state = on_log.keeps q change r.state })
    kept_running q change r keeps h = record { state = state_changed s bodies r.state.image q (changed change) h.state keeps; values = h.values }

    pub spends : (may : Bool) (r : Running Logged) → IsRunning s bodies frames r → Safely may (Stays s bodies frames) (spend r)
    unfolding spend
    spends may r h = by (nat_lt 0 r.left)
      where
        by : (b : Bool) → Safely {A = Unit {0}} may (Stays s bodies frames) (cond b (Ok (tt, record r { left = r.left - 1 })) (Err (Faults fault.StepLimit, r.left)))
        by true = record { state = h.state; values = h.values }
        by false = tt

    -- a tame plan is carried out
    pub carries : {B : Type 0} (may : Bool) (p : Plan B) (r : Running Logged) → Tame may p → IsRunning s bodies frames r → Safely may (Stays s bodies frames) (carry Logged on_log p r)
    carries may (Done b) r t h = h
    carries may (Fails e) r t h = t
    carries may (Reads {A} f k) r t h = go (f r.state.image) (t.0 r.state.image) (λ a. carries may (k a) r (t.1 a) h)
      where
        go : (x : Result A Stop) → MayRead may x → ((a : A) → Safely may (Stays s bodies frames) (carry Logged on_log (k a) r)) → Safely may (Stays s bodies frames) (and_then (checked_at x r) (λ a. carry Logged on_log (k a)))
        go (Ok a) m rest = rest a
        go (Err e) m rest = m
    carries may (Spends p) r t h = safely_then may (Stays s bodies frames) (Stays s bodies frames) (spend r) (λ taken. carry Logged on_log p) (spends may r h) (λ a q i. carries may p q t i)
    carries may (Makes e p) r t h = carries may p (record r { state = on_log.does e r.state }) t.1 (record { state = effect_state e r.state.image t.0 h.state; values = h.values })
    carries may (Keeps q change p) r t h = carries may p (record r { state = on_log.keeps q change r.state }) t.1 (kept_running q change r (λ i is sound. change_sound q q change i t.0 sound) h)

-- ---- the statements of Estelle

module _ (s : Subject) where
  tame_disconnect : (may : Bool) (a : IpAddr) → Tame may (disconnect_if s a)
  tame_disconnect may a = ((λ c. tt), λ b. by b)
    where
      by : (b : Bool) → Tame may (disconnect_where s a b)
      by true = (tt, tt)
      by false = tt

  tame_detach : (may : Bool) (a : IpAddr) → Tame may (detach_if s a)
  tame_detach may a = ((λ c. tt), λ b. by b)
    where
      by : (b : Option IpAddr) → Tame may (detach_above s b)
      by None = tt
      by (Some upper) = (tt, tt)

  tame_free : (may : Bool) (a : IpAddr) → Tame may (free_point s a)
  tame_free may a = tame_then may (disconnect_if s a) (λ cut. detach_if s a) (tame_disconnect may a) (λ cut. tame_detach may a)

  pub tame_release : (may : Bool) (p : Path) (m : ℕ) (c : Path) → Tame may (release_child s p m c)
  tame_release may p m c = ((λ core. there_or_gone may (fin.get core.instances c)), λ i. tame_then may (for_each (free_point s) (points_of s c i)) _ (tame_each may (free_point s) (tame_free may) (points_of s c i)) (λ freed. (tt, (tt, tt))))

  pub tame_disconnect_child : (may : Bool) (c : Path) → Tame may (disconnect_child s c)
  tame_disconnect_child may c = ((λ core. there_or_gone may (fin.get core.instances c)), λ i. tame_each may (disconnect_if s) (tame_disconnect may) (points_of s c i))

  tame_connect : (p : Path) (a b : IpAddr) → Tame true (connect_points s p a b)
  tame_connect p a b = ((λ c. stops_but true _ Broken refl), λ allowed. ((λ c. stops_when true _ (Faults fault.LinkTaken) tt), λ free. (tt, tt)))

  tame_disconnect_point : (p : Path) (a : IpAddr) → Tame true (disconnect_point s p a)
  tame_disconnect_point p a = ((λ c. stops_but true _ Broken refl), λ allowed. ((λ c. stops_but true _ (Faults fault.LinkAbsent) tt), λ free. (tt, tt)))

  tame_attach : (a b : IpAddr) → Tame true (attach_points s a b)
  tame_attach a b = ((λ c. stops_but true _ Broken refl), λ allowed. ((λ c. stops_when true _ (Faults fault.LinkTaken) tt), λ free. (tt, tt)))

  tame_detach_point : (a : IpAddr) → Tame true (detach_point s a)
  tame_detach_point a = ((λ c. stops_but true _ Broken refl), λ allowed. ((λ c. stops_but true _ (Faults fault.LinkAbsent) tt), λ free. (tt, tt)))

  tame_output : (ip word : List ℕ) (mean : Meaning) (values : List Value) (a : IpAddr) → Tame true (output_at s ip word mean values a)
  tame_output ip word mean values a = ((λ c. stops_but true _ Broken refl), λ allowed. (tt, tt))

  module _ (bodies : Bodies) (frames : Frames) (body : ℕ) (p : Path) (home : bodies p ≡ Some body) where
    abbrev Good : Running Logged → Type 0
    Good r = IsRunning s bodies frames r

    -- the child of a module variable
    of_child : {A : Type 0} (may : Bool) (m : ℕ) (r : Running Logged) (f : Path → Step Logged A) → Good r → ((c : Path) (t : Running Logged) → Good t → Safely may (Stays s bodies frames) (f c t)) → Safely may (Stays s bodies frames) (and_then (child_step Logged on_log p m r) f)
    of_child may m r f h k = safely_then may (λ c t. MayBeHeld s bodies body m c × (t ≡ r)) (Stays s bodies frames) (child_step Logged on_log p m r) f
        (loosen may (λ c t. MayBeHeld s bodies body m c × (t ≡ r)) (child_step Logged on_log p m r) (child_held s bodies body p m r h.state home))
        (λ c t i. k c t (subst Good (sym i.1) h))

    end_there : (x : point.Point) (r : Running Logged) → Good r → Safely true (Stays s bodies frames) (end_at p x r)
    end_there (Own ip) r h = h
    end_there (OfChild modvar ip) r h = of_child true modvar r (λ c. step.pure (at c ip)) h (λ c t i. i)

    pub connects : (x y : point.Point) (r : Running Logged) → Good r → Safely true (Stays s bodies frames) (connect_ends s p x y r)
    connects x y r h = safely_then true (Stays s bodies frames) (Stays s bodies frames) (end_at p x r) _ (end_there x r h) (λ a t i.
        safely_then true (Stays s bodies frames) (Stays s bodies frames) (end_at p y t) _ (end_there y t i) (λ b u j. carries s bodies frames true (connect_points s p a b) u (tame_connect p a b) j))

    pub disconnects : (x : point.Point) (r : Running Logged) → Good r → Safely true (Stays s bodies frames) (disconnect_ends s p (Point x) r)
    disconnects x r h = safely_then true (Stays s bodies frames) (Stays s bodies frames) (end_at p x r) _ (end_there x r h) (λ a t i. carries s bodies frames true (disconnect_point s p a) t (tame_disconnect_point p a) i)

    pub disconnects_child : (m : ℕ) (r : Running Logged) → Good r → Safely false (Stays s bodies frames) (disconnect_ends s p (Child m) r)
    disconnects_child m r h = of_child false m r (λ c. carry Logged on_log (disconnect_child s c)) h (λ c t i. carries s bodies frames false (disconnect_child s c) t (tame_disconnect_child false c) i)

    pub attaches : (upper : ℕ) (lower : point.Point) (r : Running Logged) → Good r → Safely true (Stays s bodies frames) (attach_end s p upper lower r)
    attaches upper lower r h = safely_then true (Stays s bodies frames) (Stays s bodies frames) (end_at p lower r) _ (end_there lower r h) (λ b t i. carries s bodies frames true (attach_points s (at p upper) b) t (tame_attach (at p upper) b) i)

    pub detaches : (upper : ℕ) (r : Running Logged) → Good r → Safely true (Stays s bodies frames) (detach_end s p upper r)
    detaches upper r h = carries s bodies frames true (detach_point s (at p upper)) r (tame_detach_point (at p upper)) h

    pub releases : (m : ℕ) (r : Running Logged) → Good r → Safely false (Stays s bodies frames) (release_in s p m r)
    releases m r h = of_child false m r (λ c. carry Logged on_log (release_child s p m c)) h (λ c t i. carries s bodies frames false (release_child s p m c) t (tame_release false p m c) i)

    pub outputs : (ip : ℕ) (word : List ℕ) (kind : InteractionKind) (values : List Value) (r : Running Logged) → Good r → Safely true (Stays s bodies frames) (output_with s p ip (Some word) (Some kind) values r)
    outputs ip word kind values r h = safely_then true (Stays s bodies frames) (Stays s bodies frames) (spend r) (λ taken. output_of s p ip (Some word) (Some kind) values) (spends s bodies frames true r h)
        (λ a t i. carries s bodies frames true (output_at s word kind.word (Interaction kind) values (at p ip)) t (tame_output word kind.word (Interaction kind) values (at p ip)) i)
