-- What a renewal leaves: the timers, the guards, and what may be selected then.
use Rattle.std.proofs.Common.{◌≡◌, ℕ, Bool, true, false, not, map as each, Option, Some, None, refl, sym, ap, subst, cond, ◌∙◌}
use Rattle.std.specs.Prelude.{◌+◌, ◌&&◌, ◌||◌, nat_le, is_some}
use Rattle.std.specs.Option.{unwrap_or}
use Rattle.std.specs.List.{list_any, IsDistinct}
use Rattle.std.specs.FinMap as map
use Rattle.std.specs.Ordering.{eq_by_cmp}
use Rattle.pascal_values.specs.declared.fault.Fault as fault
use Rattle.estelle_tree.specs.declared.transition.Pair.{Pair}
use Rattle.estelle_tree.specs.Paths.{Path, is_inside}
use Rattle.estelle_tree.specs.Timers.{Timer, Timers, pair, pair_cmp, cap, due, low_is_over, timer_of}
use Rattle.estelle_model.specs.declared.job.Guard.{Guard}
use Rattle.estelle_model.specs.declared.job.Guard.TheVariants.{Off, On, Faulted}
use Rattle.estelle_model.specs.Subject.{Subject}
use Rattle.estelle_model.specs.Situation.{Situation}
use Rattle.estelle_model.specs.Firing.{guard}
use Rattle.estelle_model.specs.Delays.{is_on, has_delay, delayed_in, may, wanted, renew}
use Rattle.situation_steps.proofs.RenewingGuards.{Agree, asked, asked_agree, asked_undelayed, guard_asked, retimed_asked}
use Rattle.situation_steps.proofs.RenewingTimers.{left_by, timer_is, among, not_among, not_inside, wanted_distinct}

-- ---- what is left of one transition

-- the timer of a transition inside of the system, with a delay or not, as its guard is
abbrev pub timer_at : ℕ → Timers → Pair → Bool → Guard → Option Timer
timer_at now running p true (On low high) = Some (timer_of now running (record { path = p.path; trans = p.trans; low = low; high = high }))
timer_at now running p true Off = None
timer_at now running p true (Faulted kind) = None
timer_at now running p false x = None

-- the time after which it may fire is over: of the timer that runs, or of one that starts now with this low
abbrev pub is_over : ℕ → Option Timer → ℕ → Bool
is_over now None low = nat_le (cap (now + low)) now
is_over now (Some t) low = nat_le (due t) now

-- it may be selected after the renewal
abbrev pub may_at : ℕ → Option Timer → Bool → Guard → Bool
may_at now running delayed (On low high) = not delayed || is_over now running low
may_at now running delayed Off = false
may_at now running delayed (Faulted kind) = false

-- the guard does not fault
abbrev pub IsSound : Guard → Type 0
IsSound x = (kind : fault.Fault) → x ≡ Faulted kind → ⊥

module _ (now : ℕ) (running : Timers) (p : Pair) where
  -- a guard leaves the timer of a transition with a delay so
  of_guard : (x : Guard) → left_by now running p x None ≡ timer_at now running p true x
  of_guard Off = refl
  of_guard (On low high) = refl
  of_guard (Faulted kind) = refl

  started : (b : Bool) (x : Guard) → is_on x ≡ false → is_some (timer_at now running p b x) ≡ false
  started true Off e = refl
  started true (On low high) e = absurd (cc)
  started true (Faulted kind) e = refl
  started false x e = refl

  on_timed : (x : Guard) → is_some (timer_at now running p true x) ≡ is_on x
  on_timed Off = refl
  on_timed (On low high) = refl
  on_timed (Faulted kind) = refl

  -- the timer that runs, or the one that starts
  over_at : (o : Option Timer) → map.get running p ≡ o → (low : ℕ) (high : Option ℕ) → low_is_over now (timer_at now running p true (On low high)) ≡ is_over now o low
  over_at None e low high = ap (λ (o : Option Timer). nat_le (due (unwrap_or o (record { start = now; low = low; high = high }))) now) e
  over_at (Some t) e low high = ap (λ (o : Option Timer). nat_le (due (unwrap_or o (record { start = now; low = low; high = high }))) now) e

  may_is : (b : Bool) (x : Guard) → (is_on x && (not b || low_is_over now (timer_at now running p b x))) ≡ may_at now (map.get running p) b x
  may_is b Off = refl
  may_is true (On low high) = over_at (map.get running p) refl low high
  may_is false (On low high) = refl
  may_is b (Faulted kind) = refl

-- ---- guards that agree

-- it is on just where the other is, and does not fault
record IsLike (x y : Guard) : Type 0 where
  on : is_on x ≡ is_on y
  sound : IsSound x

like_itself : (x : Guard) → IsSound x → IsLike x x
like_itself x sound = record { on = refl; sound = sound }

-- with its timer, which starts
like_started : (x y : Guard) → Agree x y → IsSound y → IsLike x y
like_started Off Off h sound = record { on = refl; sound = sound }
like_started Off (On low high) h sound = absurd h
like_started Off (Faulted kind) h sound = absurd h
like_started (On low high) Off h sound = absurd h
like_started (On low high) (On low' high') h sound = record { on = refl; sound = λ kind e. absurd (cc) }
like_started (On low high) (Faulted kind) h sound = absurd (sound kind refl)
like_started (Faulted kind) Off h sound = absurd h
like_started (Faulted kind) (On low high) h sound = absurd h
like_started (Faulted kind) (Faulted kind') h sound = absurd (sound kind' refl)

-- without its timer, which is dropped
like_dropped : (x y : Guard) → Agree y x → IsSound y → is_on y ≡ false → IsLike x y
like_dropped Off Off h sound off = record { on = refl; sound = sound }
like_dropped (On low high) Off h sound off = absurd h
like_dropped (Faulted kind) Off h sound off = absurd h
like_dropped x (On low high) h sound off = absurd (let wrong : true ≡ false = off in cc)
like_dropped x (Faulted kind) h sound off = absurd (sound kind refl)

module _ (s : Subject) (budget : ℕ) (g : Situation) (system : Path) (now : ℕ) where
  -- ---- timers

  pub renewed_timer : (p : Pair) → is_inside system p.path ≡ true → map.get (renew s budget g system now).timers p ≡ timer_at now g.timers p (has_delay s g p.path p.trans) (guard s budget g p.path p.trans)
  renewed_timer p inside =
      timer_is s budget g system now p
      ∙ ap (λ b. cond (list_any (eq_by_cmp pair_cmp p) (delayed_in s g system)) (left_by now g.timers p (guard s budget g p.path p.trans) (cond (not b) (map.get g.timers p) None)) (cond (not b) (map.get g.timers p) None)) inside
      ∙ by (has_delay s g p.path p.trans) refl
    where
      by : (b : Bool) → has_delay s g p.path p.trans ≡ b → cond (list_any (eq_by_cmp pair_cmp p) (delayed_in s g system)) (left_by now g.timers p (guard s budget g p.path p.trans) None) None ≡ timer_at now g.timers p b (guard s budget g p.path p.trans)
      by true e = ap (λ b. cond b (left_by now g.timers p (guard s budget g p.path p.trans) None) None) (among s budget g system now p inside e) ∙ of_guard now g.timers p (guard s budget g p.path p.trans)
      by false e = ap (λ b. cond b (left_by now g.timers p (guard s budget g p.path p.trans) None) None) (not_among s budget g system now p e)

  pub timer_elsewhere : (p : Pair) → is_inside system p.path ≡ false → map.get (renew s budget g system now).timers p ≡ map.get g.timers p
  timer_elsewhere p outside =
      timer_is s budget g system now p
      ∙ ap (λ b. cond b (left_by now g.timers p (guard s budget g p.path p.trans) (cond (not (is_inside system p.path)) (map.get g.timers p) None)) (cond (not (is_inside system p.path)) (map.get g.timers p) None)) (not_inside s budget g system now p outside)
      ∙ ap (λ b. cond (not b) (map.get g.timers p) None) outside

  -- inside of the system just the enabled transitions with a delay have one
  pub has_timer : (m : Path) (n : ℕ) → is_inside system m ≡ true → has_delay s g m n ≡ true → map.contains_key (renew s budget g system now).timers (pair m n) ≡ is_on (guard s budget g m n)
  has_timer m n inside delayed =
      ap is_some (renewed_timer (pair m n) inside) ∙ ap (λ b. is_some (timer_at now g.timers (pair m n) b (guard s budget g m n))) delayed ∙ on_timed now g.timers (pair m n) (guard s budget g m n)

  pub has_no_timer : (m : Path) (n : ℕ) → is_inside system m ≡ true → has_delay s g m n ≡ false → map.contains_key (renew s budget g system now).timers (pair m n) ≡ false
  has_no_timer m n inside undelayed = ap is_some (renewed_timer (pair m n) inside) ∙ ap (λ b. is_some (timer_at now g.timers (pair m n) b (guard s budget g m n))) undelayed

  -- ---- guards

  guard_like : (m : Path) (n : ℕ) → is_inside system m ≡ true → IsSound (guard s budget g m n) → IsLike (guard s budget (renew s budget g system now) m n) (guard s budget g m n)
  guard_like m n inside sound =
      subst (λ (x : Guard). IsLike x (guard s budget g m n)) (sym (retimed_asked s budget g m now (renew s budget g system now).timers n))
      (by (map.contains_key g.timers (pair m n)) refl (map.contains_key (renew s budget g system now).timers (pair m n)) refl)
    where
      was : (b : Bool) → map.contains_key g.timers (pair m n) ≡ b → guard s budget g m n ≡ asked s budget g m n b (map.get g.core.instances m)
      was b e = guard_asked s budget g m n ∙ ap (λ c. asked s budget g m n c (map.get g.core.instances m)) e

      dropped : (d : Bool) → has_delay s g m n ≡ d → map.contains_key g.timers (pair m n) ≡ true → map.contains_key (renew s budget g system now).timers (pair m n) ≡ false → IsLike (asked s budget g m n false (map.get g.core.instances m)) (guard s budget g m n)
      dropped true delayed e f =
          like_dropped (asked s budget g m n false (map.get g.core.instances m)) (guard s budget g m n)
          (subst (λ (x : Guard). Agree x (asked s budget g m n false (map.get g.core.instances m))) (sym (was true e)) (asked_agree s budget g m n (map.get g.core.instances m)))
          sound (sym (has_timer m n inside delayed) ∙ f)
      dropped false undelayed e f =
          subst (λ (x : Guard). IsLike x (guard s budget g m n)) (was true e ∙ asked_undelayed s budget g m n (map.get g.core.instances m) undelayed) (like_itself (guard s budget g m n) sound)

      by : (b : Bool) → map.contains_key g.timers (pair m n) ≡ b → (c : Bool) → map.contains_key (renew s budget g system now).timers (pair m n) ≡ c → IsLike (asked s budget g m n (map.contains_key (renew s budget g system now).timers (pair m n)) (map.get g.core.instances m)) (guard s budget g m n)
      by b e c f = subst (λ d. IsLike (asked s budget g m n d (map.get g.core.instances m)) (guard s budget g m n)) (sym f) (at b e c f)
        where
          at : (b : Bool) → map.contains_key g.timers (pair m n) ≡ b → (c : Bool) → map.contains_key (renew s budget g system now).timers (pair m n) ≡ c → IsLike (asked s budget g m n c (map.get g.core.instances m)) (guard s budget g m n)
          at true e true f = subst (λ (x : Guard). IsLike x (guard s budget g m n)) (was true e) (like_itself (guard s budget g m n) sound)
          at false e false f = subst (λ (x : Guard). IsLike x (guard s budget g m n)) (was false e) (like_itself (guard s budget g m n) sound)
          at false e true f =
              like_started (asked s budget g m n true (map.get g.core.instances m)) (guard s budget g m n)
              (subst (λ (x : Guard). Agree (asked s budget g m n true (map.get g.core.instances m)) x) (sym (was false e)) (asked_agree s budget g m n (map.get g.core.instances m))) sound
          at true e false f = dropped (has_delay s g m n) refl e f

  -- a guard that does not fault is enabled just as before
  pub guard_renewed : (m : Path) (n : ℕ) → is_inside system m ≡ true → IsSound (guard s budget g m n) → is_on (guard s budget (renew s budget g system now) m n) ≡ is_on (guard s budget g m n)
  guard_renewed m n inside sound = (guard_like m n inside sound).on

  -- and does not fault
  pub guard_sound : (m : Path) (n : ℕ) → is_inside system m ≡ true → IsSound (guard s budget g m n) → IsSound (guard s budget (renew s budget g system now) m n)
  guard_sound m n inside sound = (guard_like m n inside sound).sound

  pub guard_elsewhere : (m : Path) (n : ℕ) → is_inside system m ≡ false → guard s budget (renew s budget g system now) m n ≡ guard s budget g m n
  guard_elsewhere m n outside =
      retimed_asked s budget g m now (renew s budget g system now).timers n
      ∙ ap (λ (o : Option Timer). asked s budget g m n (is_some o) (map.get g.core.instances m)) (timer_elsewhere (pair m n) outside) ∙ sym (guard_asked s budget g m n)

  -- ---- what may be selected

  pub may_renewed : (m : Path) (n : ℕ) → is_inside system m ≡ true → IsSound (guard s budget g m n)
      → may s budget (renew s budget g system now) m n ≡ may_at now (map.get g.timers (pair m n)) (has_delay s g m n) (guard s budget g m n)
  may_renewed m n inside sound =
      ap (λ b. b && (not (has_delay s g m n) || low_is_over now (map.get (renew s budget g system now).timers (pair m n)))) (guard_renewed m n inside sound)
      ∙ ap (λ (o : Option Timer). is_on (guard s budget g m n) && (not (has_delay s g m n) || low_is_over now o)) (renewed_timer (pair m n) inside)
      ∙ may_is now g.timers (pair m n) (has_delay s g m n) (guard s budget g m n)

-- what wants a timer differs
pub wanted_differ : (s : Subject) (budget : ℕ) (g : Situation) (system : Path) → IsDistinct (eq_by_cmp pair_cmp) (each (λ w. pair w.path w.trans) (wanted s budget g system))
wanted_differ = wanted_distinct
