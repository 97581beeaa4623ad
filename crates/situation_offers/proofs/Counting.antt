-- What is counted and wanted of an instance, one transition after another.
use Rattle.std.proofs.Common.{◌≡◌, ◌⊎◌, ℕ, zero, suc, ◌+◌, ◌<◌, ◌≤◌, Bool, true, false, not, ℤ, List, [], ◌∷◌, ◌++◌, map as each, filter, length, Option, Some, None, refl, sym, ap, subst, cond, ◌∙◌, inl, inr, arith, append-nil, append_assoc, add-one}
use Rattle.std.specs.Prelude.{◌&&◌, ◌||◌, IsTrue, flat_map}
use Rattle.std.specs.Option.{unwrap_or}
use Rattle.std.specs.List.{AllByRecursion, range_with_len}
use Rattle.std.specs.FinMap as map
use Rattle.std.proofs.lemmas.Bool.{cases_lt}
use Rattle.std.proofs.lemmas.List.{map-append}
use Rattle.pascal_values.specs.declared.fault.Fault.{Fault}
use Rattle.estelle_tree.specs.declared.transition.Wanted.{Wanted}
use Rattle.estelle_tree.specs.declared.transition.Pair.{Pair}
use Rattle.estelle_tree.specs.Paths.{Path, is_inside}
use Rattle.estelle_tree.specs.Timers.{Timer, Timers, pair, ends_by, high_is_over}
use Rattle.estelle_model.specs.declared.job.Guard.{Guard}
use Rattle.estelle_model.specs.declared.job.Guard.TheVariants.{Off, On, Faulted}
use Rattle.estelle_model.specs.Core.{Instance}
use Rattle.estelle_model.specs.Subject.{Subject, transitions}
use Rattle.estelle_model.specs.Situation.{Situation}
use Rattle.estelle_model.specs.Firing.{guard}
use Rattle.estelle_model.specs.Delays.{is_on, has_delay, may, must, renew}
use Rattle.estelle_model.specs.Selection.{priority}
use Rattle.estelle_model.specs.Schedule.{numbers_of}
use Rattle.transition_select.specs.declared.countings.Countable.{Countable}
use Rattle.transition_select.specs.Countings.{IsCountable, AreCountablesOf}
use Rattle.transition_select.proofs.Offering.{all_more}
use Rattle.situation_steps.proofs.Renewing.{may_at, may_renewed, timer_at, renewed_timer, guard_renewed}
use Rattle.situation_offers.specs.Guards.{NoneFaults, IsFirst, may_by, must_by, has_ended, counted_if, wanted_if, wanted_at, wanted_of, AreCountedTo}
use Rattle.situation_offers.proofs.Present.{zero_off, instance_there, within}
use Rattle.situation_offers.proofs.Wanted.{flat_to}

-- ---- lists

range_more : (test : ℕ → Bool) (a n j : ℕ) → a + n ≡ j → filter test (range_with_len a (suc n)) ≡ filter test (range_with_len a n) ++ filter test (j ∷ [])
range_more test a zero j e = let same : a ≡ j = omega arith in ap (λ k. filter test (k ∷ [])) same
range_more test a (suc n) j e = by (test a) (range_more test (a + 1) n j (omega arith))
  where
    by : (b : Bool) → filter test (range_with_len (a + 1) (suc n)) ≡ filter test (range_with_len (a + 1) n) ++ filter test (j ∷ [])
        → cond b (a ∷ filter test (range_with_len (a + 1) (suc n))) (filter test (range_with_len (a + 1) (suc n))) ≡ cond b (a ∷ filter test (range_with_len (a + 1) n)) (filter test (range_with_len (a + 1) n)) ++ filter test (j ∷ [])
    by true more = ap (λ ns. a ∷ ns) more
    by false more = more

range_to : (test : ℕ → Bool) (n : ℕ) → filter test (range_with_len 1 (n + 1)) ≡ filter test (range_with_len 1 n) ++ filter test ((n + 1) ∷ [])
range_to test n = rw add-one (range_more test 1 n (suc n) (omega arith))

not_one : (test : ℕ → Bool) (n : ℕ) → test (n + 1) ≡ false → filter test (range_with_len 1 (n + 1)) ≡ filter test (range_with_len 1 n)
not_one test n e = range_to test n ∙ ap (λ b. filter test (range_with_len 1 n) ++ cond b ((n + 1) ∷ []) []) e ∙ append-nil (filter test (range_with_len 1 n))

this_one : (test : ℕ → Bool) (n : ℕ) → test (n + 1) ≡ true → filter test (range_with_len 1 (n + 1)) ≡ filter test (range_with_len 1 n) ++ ((n + 1) ∷ [])
this_one test n e = range_to test n ∙ ap (λ b. filter test (range_with_len 1 n) ++ cond b ((n + 1) ∷ []) []) e

-- ---- guards of transitions that are not there

faults : (x : Guard) (kind : Fault) → x ≡ Faulted kind → x ≡ Off → ⊥
faults x kind e off = let wrong : Off ≡ Faulted kind = sym off ∙ e in absurd (cc)

module _ (s : Subject) (budget : ℕ) (g : Situation) (m : Path) where
  -- a guard that faults is that of a transition which is there
  faulted_within : (n : ℕ) (kind : Fault) (i : Instance) → map.get g.core.instances m ≡ Some i → guard s budget g m n ≡ Faulted kind → n ≤ length (transitions s i.body)
  faulted_within n kind i there e = within s budget g m n i there (faults (guard s budget g m n) kind e)

  pub faulted_there : (n : ℕ) (kind : Fault) → guard s budget g m n ≡ Faulted kind → (i : Instance) × (map.get g.core.instances m ≡ Some i)
  faulted_there n kind e = instance_there s budget g m n (faults (guard s budget g m n) kind e)

  sound_more : (n : ℕ) (now : Guard) → guard s budget g m (n + 1) ≡ now → ((kind : Fault) → now ≡ Faulted kind → ⊥)
      → ((k : ℕ) (kind : Fault) → k ≤ n → guard s budget g m k ≡ Faulted kind → ⊥) → (k : ℕ) (kind : Fault) → k ≤ n + 1 → guard s budget g m k ≡ Faulted kind → ⊥
  sound_more n now is sound before k kind low e = by (cases_lt k (n + 1))
    where
      by : (k < n + 1) ⊎ (n + 1 ≤ k) → ⊥
      by (inl less) = before k kind (omega arith) e
      by (inr last) = let same : k ≡ n + 1 = omega arith in sound kind (sym is ∙ ap (guard s budget g m) (sym same) ∙ e)

-- ---- what may be selected

-- by the answer of its guard
may_is : (s : Subject) (budget : ℕ) (g : Situation) (system : Path) (now : ℕ) (m : Path) (n : ℕ) → IsTrue (is_inside system m) → ((kind : Fault) → guard s budget g m n ≡ Faulted kind → ⊥)
    → may s budget (renew s budget g system now) m n ≡ may_by now (map.get g.timers (pair m n)) (has_delay s g m n) (guard s budget g m n)
may_is s budget g system now m n inside sound = may_renewed s budget g system now m n inside sound ∙ by (map.get g.timers (pair m n)) (has_delay s g m n) (guard s budget g m n)
  where
    by : (o : Option Timer) (delayed : Bool) (answer : Guard) → may_at now o delayed answer ≡ may_by now o delayed answer
    by None true (On low high) = refl
    by (Some t) true (On low high) = refl
    by o false (On low high) = refl
    by o delayed Off = refl
    by o delayed (Faulted kind) = refl

-- ---- what must be counted

module _ (now : ℕ) (running : Timers) (p : Pair) where
  -- the timer that runs, or the one that starts
  ended_at : (o : Option Timer) → map.get running p ≡ o → (low : ℕ) (high : Option ℕ) → high_is_over now (timer_at now running p true (On low high)) ≡ has_ended now o high
  ended_at None e low high = ap (λ (o : Option Timer). ends_by now (unwrap_or o (record { start = now; low = low; high = high })).start (unwrap_or o (record { start = now; low = low; high = high })).high) e
  ended_at (Some t) e low high = ap (λ (o : Option Timer). ends_by now (unwrap_or o (record { start = now; low = low; high = high })).start (unwrap_or o (record { start = now; low = low; high = high })).high) e

  must_at : (delayed : Bool) (answer : Guard) → (is_on answer && (not delayed || high_is_over now (timer_at now running p delayed answer))) ≡ must_by now (map.get running p) delayed answer
  must_at delayed Off = refl
  must_at true (On low high) = ended_at (map.get running p) refl low high
  must_at false (On low high) = refl
  must_at delayed (Faulted kind) = refl

-- by the answer of its guard
must_is : (s : Subject) (budget : ℕ) (g : Situation) (system : Path) (now : ℕ) (m : Path) (n : ℕ) → IsTrue (is_inside system m) → ((kind : Fault) → guard s budget g m n ≡ Faulted kind → ⊥)
    → must s budget (renew s budget g system now) m n ≡ must_by now (map.get g.timers (pair m n)) (has_delay s g m n) (guard s budget g m n)
must_is s budget g system now m n inside sound =
    ap (λ b. b && (not (has_delay s g m n) || high_is_over now (map.get (renew s budget g system now).timers (pair m n)))) (guard_renewed s budget g system now m n inside sound)
    ∙ ap (λ (o : Option Timer). is_on (guard s budget g m n) && (not (has_delay s g m n) || high_is_over now o)) (renewed_timer s budget g system now (pair m n) inside)
    ∙ must_at now g.timers (pair m n) (has_delay s g m n) (guard s budget g m n)

module _ (s : Subject) (budget : ℕ) (g : Situation) (system : Path) (now : ℕ) (m : Path) where
  abbrev Known : Countable → Type 0
  Known = IsCountable s budget (renew s budget g system now) m

  -- ---- one transition more

  pub none_counted : (before : List Wanted) → AreCountedTo s budget g system now m 0 [] before before
  none_counted before = record {
    numbers = refl;
    known = tt;
    wanted = sym (append-nil before);
    sound = λ k kind low e.
        let is : k ≡ 0 = omega arith in
        let wrong : Off ≡ Faulted kind = sym (zero_off s budget g m) ∙ ap (guard s budget g m) (sym is) ∙ e in
        absurd (cc);
  }

  numbers_more : (test : ℕ → Bool) (n : ℕ) (cs : List Countable) (b : Bool) (p : Option ℤ) (d : Bool) → test (n + 1) ≡ b → each (λ c. c.trans) cs ≡ filter test (range_with_len 1 n)
      → each (λ c. c.trans) (cs ++ counted_if b (n + 1) p d) ≡ filter test (range_with_len 1 (n + 1))
  numbers_more test n cs true p d is e = map-append (λ (d : Countable). d.trans) cs (record { trans = n + 1; priority = p; must = d } ∷ []) ∙ ap (λ ns. ns ++ ((n + 1) ∷ [])) e ∙ sym (this_one test n is)
  numbers_more test n cs false p d is e = ap (each (λ (c : Countable). c.trans)) (append-nil cs) ∙ e ∙ sym (not_one test n is)

  known_more : (n : ℕ) (cs : List Countable) (b d : Bool) → d ≡ must s budget (renew s budget g system now) m (n + 1) → AllByRecursion Known cs → AllByRecursion Known (cs ++ counted_if b (n + 1) (priority s g m (n + 1)) d)
  known_more n cs true d is are = all_more Known cs (record { trans = n + 1; priority = priority s g m (n + 1); must = d }) are (record { priority = refl; must = is })
  known_more n cs false d is are = subst (AllByRecursion Known) (sym (append-nil cs)) are

  -- by the answer of its guard
  pub counted_more : IsTrue (is_inside system m) → (n : ℕ) (cs more : List Countable) (before ws after : List Wanted) (answer : Guard) (b d : Bool) → AreCountedTo s budget g system now m n cs before ws
      → answer ≡ guard s budget g m (n + 1) → ((kind : Fault) → answer ≡ Faulted kind → ⊥) → b ≡ may_by now (map.get g.timers (pair m (n + 1))) (has_delay s g m (n + 1)) answer
      → d ≡ must_by now (map.get g.timers (pair m (n + 1))) (has_delay s g m (n + 1)) answer
      → more ≡ cs ++ counted_if b (n + 1) (priority s g m (n + 1)) d → after ≡ ws ++ wanted_if (has_delay s g m (n + 1)) (pair m (n + 1)) answer
      → AreCountedTo s budget g system now m (n + 1) more before after
  counted_more inside n cs more before ws after answer b d are is sound may_it must_it counts wants = record {
    numbers = ap (each (λ (c : Countable). c.trans)) counts ∙ numbers_more (may s budget (renew s budget g system now) m) n cs b (priority s g m (n + 1)) d tested are.numbers;
    known = subst (AllByRecursion Known) (sym counts) (known_more n cs b d asked are.known);
    wanted = wants ∙ ap (λ a. ws ++ wanted_if (has_delay s g m (n + 1)) (pair m (n + 1)) a) is ∙ ap (λ vs. vs ++ wanted_at s budget g m (n + 1)) are.wanted
        ∙ append_assoc before (flat_map (wanted_at s budget g m) (range_with_len 1 n)) (wanted_at s budget g m (n + 1)) ∙ ap (λ vs. before ++ vs) (sym (flat_to (wanted_at s budget g m) n));
    sound = sound_more s budget g m n answer (sym is) sound are.sound;
  }
    where
      tested : may s budget (renew s budget g system now) m (n + 1) ≡ b
      tested = may_is s budget g system now m (n + 1) inside (λ kind e. sound kind (is ∙ e)) ∙ ap (may_by now (map.get g.timers (pair m (n + 1))) (has_delay s g m (n + 1))) (sym is) ∙ sym may_it

      asked : d ≡ must s budget (renew s budget g system now) m (n + 1)
      asked = must_it ∙ ap (must_by now (map.get g.timers (pair m (n + 1))) (has_delay s g m (n + 1))) is ∙ sym (must_is s budget g system now m (n + 1) inside (λ kind e. sound kind (is ∙ e)))

  pub first_here : (n : ℕ) (cs : List Countable) (before after : List Wanted) (kind : Fault) → AreCountedTo s budget g system now m n cs before after → guard s budget g m (n + 1) ≡ Faulted kind → IsFirst s budget g m (n + 1) kind
  first_here n cs before after kind are is = record { faults = is; first = λ k other low. are.sound k other (omega (arith, low)) }

  -- ---- all of them

  pub all_counted : (i : Instance) (cs : List Countable) (before after : List Wanted) → map.get g.core.instances m ≡ Some i → AreCountedTo s budget g system now m (length (transitions s i.body)) cs before after
      → AreCountablesOf s budget (renew s budget g system now) m cs × NoneFaults s budget g m × (after ≡ before ++ wanted_of s budget g m)
  all_counted i cs before after there are = (
    record { numbers = are.numbers ∙ ap (λ o. filter (may s budget (renew s budget g system now) m) (numbers_of s o)) (sym there); known = are.known },
    λ n kind e. are.sound n kind (faulted_within s budget g m n kind i there e) e,
    are.wanted ∙ ap (λ o. before ++ flat_map (wanted_at s budget g m) (numbers_of s o)) (sym there),
  )
