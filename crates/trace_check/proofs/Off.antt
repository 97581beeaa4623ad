-- Which transitions are off: by what is counted of a system once its timers are renewed, and by what wants a timer.
use Rattle.std.proofs.Common.{◌≡◌, ℕ, zero, suc, true, false, not, List, [], ◌∷◌, ◌++◌, length, Option, Some, None, refl, sym, ap, ◌∙◌, subst, inl, inr, arith}
use Rattle.std.specs.Prelude.{◌||◌, is_some, flat_map}
use Rattle.std.specs.FinMap as map
use Rattle.std.proofs.lemmas.Option.{slice_get_within}
use Rattle.pascal_values.specs.declared.fault.Fault as fault
use Rattle.estelle_tree.specs.declared.transition.Pair.{Pair}
use Rattle.estelle_tree.specs.declared.transition.Wanted.{Wanted}
use Rattle.estelle_tree.specs.Paths.{Path, is_inside}
use Rattle.estelle_tree.specs.Timers.{pair, low_is_over}
use Rattle.estelle_model.specs.declared.job.Guard.{Guard}
use Rattle.estelle_model.specs.declared.job.Guard.TheVariants.{Off, On, Faulted}
use Rattle.estelle_model.specs.Core.{Instance}
use Rattle.estelle_model.specs.Transitions.{Transition}
use Rattle.estelle_model.specs.Subject.{Subject, transition, transitions, numbered_one}
use Rattle.estelle_model.specs.Situation.{Situation}
use Rattle.estelle_model.specs.Firing.{guard, guard_at, guard_of}
use Rattle.estelle_model.specs.Attributes.{attribute, is_empty, IsSystem}
use Rattle.estelle_model.specs.Delays.{is_on, has_delay, may, wanted_by, wanted, delayed_in, renew}
use Rattle.estelle_model.specs.Jobs.{IsThere}
use Rattle.estelle_model.specs.Runs.{NoGuardFaults, IsFirstFault}
use Rattle.estelle_model.specs.Schedule.{numbers_of, counted}
use Rattle.estelle_model_legality.specs.Situations.{IsLegal}
use Rattle.estelle_model_legality.proofs.Lists.{and_both, both_and, not_true, or_cases}
use Rattle.estelle_model_legality.proofs.Members.{Has, has_filter, filter_has, nothing_has, has_append}
use Rattle.estelle_model_legality.proofs.Systems.{legal_tree}
use Rattle.situation_steps.specs.UnderWay.{HasRoot}
use Rattle.situation_steps.proofs.Renewing.{IsSound, guard_renewed}
use Rattle.situation_steps.proofs.RenewingTimers.{range_has, delayed_has, has_delayed}
use Rattle.situation_steps.proofs.Settled.{attributed_below}
use Rattle.trace_check.specs.Going.{AreOff}

off_if : (x : Guard) → (is_on x ≡ true → ⊥) → ((kind : fault.Fault) → x ≡ Faulted kind → ⊥) → x ≡ Off
off_if Off none sound = refl
off_if (On low high) none sound = absurd (none refl)
off_if (Faulted kind) none sound = absurd (sound kind refl)

off_is_not_on : (x : Guard) → x ≡ Off → is_on x ≡ true → ⊥
off_is_not_on x off on = let wrong : false ≡ true = sym (ap is_on off) ∙ on in absurd (cc)

off_is_sound : (x : Guard) (kind : fault.Fault) → x ≡ Off → x ≡ Faulted kind → ⊥
off_is_sound x kind off faulted = let wrong : Off ≡ Faulted kind = sym off ∙ faulted in absurd (cc)

-- ---- what wants a timer

flat_has : {A B : Type 0} (f : A → List B) (xs : List A) (y : B) → Has (flat_map f xs) y → (x : A) × (Has xs x) × (Has (f x) y)
flat_has f [] y h = absurd h
flat_has f (x ∷ xs) y h = elim (has_append (f x) (flat_map f xs) y h) [
  | inl k ↦ (x, inl refl, k)
  | inr k ↦ let r = flat_has f xs y k in (r.0, inr r.1, r.2)
]

none_flat : {A B : Type 0} (f : A → List B) (xs : List A) (x : A) → flat_map f xs ≡ [] → Has xs x → f x ≡ []
none_flat f [] x e h = absurd h
none_flat {A} {B} f (z ∷ xs) x e (inl is) = ap f (sym is) ∙ first (f z) (flat_map f xs) e
  where
    first : (ys zs : List B) → ys ++ zs ≡ [] → ys ≡ []
    first [] zs e = refl
    first (y ∷ ys) zs e = absurd (cc)
none_flat {A} {B} f (z ∷ xs) x e (inr h) = none_flat f xs x (second (f z) (flat_map f xs) e) h
  where
    second : (ys zs : List B) → ys ++ zs ≡ [] → zs ≡ []
    second [] zs e = e
    second (y ∷ ys) zs e = absurd (cc)

wants_on : (p : Pair) (x : Guard) (w : Wanted) → Has (wanted_by p x) w → is_on x ≡ true
wants_on p Off w h = absurd h
wants_on p (On low high) w h = refl
wants_on p (Faulted kind) w h = absurd h

on_wants : (p : Pair) (x : Guard) → wanted_by p x ≡ [] → is_on x ≡ true → ⊥
on_wants p Off e on = absurd (let wrong : false ≡ true = on in cc)
on_wants p (On low high) e on = absurd (cc)
on_wants p (Faulted kind) e on = absurd (let wrong : false ≡ true = on in cc)

-- ---- numbers of transitions

first_has : {A : Type 0} (xs : List A) → (xs ≡ [] → ⊥) → (x : A) × Has xs x
first_has [] h = absurd (h refl)
first_has (x ∷ xs) h = (x, inl refl)

module _ (s : Subject) (budget : ℕ) (g : Situation) where
  -- what is enabled is a transition with a number of an instance that is there
  numbered : (m : Path) (n : ℕ) (o : Option Instance) → is_on (guard_at s budget g m n o) ≡ true → (Has (numbers_of s o) n) × ((i : Instance) × (o ≡ Some i))
  numbered m n None e = absurd (let wrong : false ≡ true = e in cc)
  numbered m n (Some i) e = (by n (transition s i.body n) refl e, (i, refl))
    where
      by : (n : ℕ) (o : Option Transition) → transition s i.body n ≡ o → is_on (guard_of s budget g m (map.contains_key g.timers (record { path = m; trans = n })) i o) ≡ true → Has (numbers_of s (Some i)) n
      by n None is e = absurd (let wrong : false ≡ true = e in cc)
      by zero (Some t) is e = absurd (cc)
      by (suc k) (Some t) is e = let less = slice_get_within (transitions s i.body) k t is in range_has (length (transitions s i.body)) 1 (suc k) (omega arith) (omega (arith, less))

  -- ---- of a system

  module _ (system : Path) (now : ℕ) where
    abbrev r : Situation
    r = renew s budget g system now

    -- of none of its instances a transition is counted
    abbrev pub NoneCounted : Type 0
    NoneCounted = (m : Path) → IsThere g.core.instances m → is_inside system m ≡ true → counted s budget r m ≡ []

    pub all_off : NoGuardFaults s budget g system → NoneCounted → wanted s budget g system ≡ [] → AreOff s budget g system
    all_off sound none unwanted m n inside = off_if (guard s budget g m n) not_on (λ kind. sound m n kind inside)
      where
        undelayed : is_on (guard s budget g m n) ≡ true → has_delay s g m n ≡ false
        undelayed on = not_true (has_delay s g m n) (λ delayed.
            on_wants (pair m n) (guard s budget g m n)
            (none_flat (λ (p : Pair). wanted_by p (guard s budget g p.path p.trans)) (delayed_in s g system) (pair m n) unwanted (delayed_has s g system (pair m n) inside delayed)) on)

        not_on : is_on (guard s budget g m n) ≡ true → ⊥
        not_on on =
            let its = numbered m n (map.get g.core.instances m) on in
            let after : is_on (guard s budget r m n) ≡ true = guard_renewed s budget g system now m n inside (λ kind. sound m n kind inside) ∙ on in
            let free : (not (has_delay s g m n) || low_is_over now (map.get r.timers (pair m n))) ≡ true = ap (λ b. not b || low_is_over now (map.get r.timers (pair m n))) (undelayed on) in
            nothing_has (counted s budget r m) n (none m its.1 inside)
            (filter_has (may s budget r m) (numbers_of s (map.get g.core.instances m)) n its.0 (both_and (is_on (guard s budget r m n)) _ after free))

    pub none_wanted : AreOff s budget g system → wanted s budget g system ≡ []
    none_wanted off = by (wanted s budget g system) refl
      where
        by : (ws : List Wanted) → wanted s budget g system ≡ ws → ws ≡ []
        by [] e = refl
        by (w ∷ ws) e =
            let h : Has (wanted s budget g system) w = subst (λ (xs : List Wanted). Has xs w) (sym e) (inl refl) in
            let p = flat_has (λ (p : Pair). wanted_by p (guard s budget g p.path p.trans)) (delayed_in s g system) w h in
            let inside = has_delayed s g system p.0 p.1 in
            absurd (off_is_not_on (guard s budget g p.0.path p.0.trans) (off p.0.path p.0.trans inside.0) (wants_on p.0 (guard s budget g p.0.path p.0.trans) w p.2))

    pub none_counted : AreOff s budget g system → NoneCounted
    none_counted off m there inside = by (counted s budget r m) refl
      where
        sound : IsSound (guard s budget g m 0) → (n : ℕ) → IsSound (guard s budget g m n)
        sound first n kind = off_is_sound (guard s budget g m n) kind (off m n inside)

        by : (ns : List ℕ) → counted s budget r m ≡ ns → ns ≡ []
        by [] e = refl
        by (n ∷ ns) e =
            let h = has_filter (may s budget r m) (numbers_of s (map.get g.core.instances m)) n (subst (λ (xs : List ℕ). Has xs n) (sym e) (inl refl)) in
            let on : is_on (guard s budget r m n) ≡ true = (and_both (is_on (guard s budget r m n)) _ h.1).0 in
            let before : is_on (guard s budget g m n) ≡ true = sym (guard_renewed s budget g system now m n inside (λ kind. off_is_sound (guard s budget g m n) kind (off m n inside))) ∙ on in
            absurd (off_is_not_on (guard s budget g m n) (off m n inside) before)

  pub not_off : (system m : Path) (n : ℕ) (kind : fault.Fault) → IsFirstFault s budget g system m n kind → AreOff s budget g system → ⊥
  not_off system m n kind f off = off_is_sound (guard s budget g m n) kind (off m n f.inside) f.faults

  -- ---- of all instances

  none_numbered : (ts : List Transition) (n : ℕ) → is_empty ts ≡ true → numbered_one ts n ≡ None
  none_numbered [] zero e = refl
  none_numbered [] (suc n) e = refl
  none_numbered (t ∷ ts) n e = absurd (let wrong : false ≡ true = e in cc)

  -- where all systems are off, all instances are
  pub systems_off : IsLegal s g → HasRoot g → ((system : Path) → IsSystem s g system → AreOff s budget g system) → AreOff s budget g []
  systems_off legal root each m n inside = by (map.get g.core.instances m) refl
    where
      below : (i : Instance) → map.get g.core.instances m ≡ Some i → is_some (attribute s i.body) ≡ true → guard s budget g m n ≡ Off
      below i there has =
          let b = attributed_below s g (legal_tree s g.core.instances legal.instances) root m i there has in
          each b.0 b.1 m n b.2

      by : (o : Option Instance) → map.get g.core.instances m ≡ o → guard s budget g m n ≡ Off
      by None there = ap (guard_at s budget g m n) there
      by (Some i) there = elim (or_cases (is_some (attribute s i.body)) (is_empty (transitions s i.body)) (legal.instances.transitions m i there)) [
        | inl has ↦ below i there has
        | inr empty ↦ ap (guard_at s budget g m n) there ∙ ap (guard_of s budget g m (map.contains_key g.timers (pair m n)) i) (none_numbered (transitions s i.body) n empty)
      ]

  pub system_off : AreOff s budget g [] → (system : Path) → AreOff s budget g system
  system_off off system m n inside = off m n (root_above m)
    where
      root_above : (p : Path) → is_inside [] p ≡ true
      root_above [] = refl
      root_above (k ∷ p) = refl
