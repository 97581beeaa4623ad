-- Where nothing is due or pending and no timer runs, no transition is enabled.
use Rattle.std.proofs.Common.{◌≡◌, ℕ, zero, suc, true, false, List, [], ◌∷◌, map as each, Option, Some, None, refl, ap, subst, ◌∙◌, inl, inr}
use Rattle.std.specs.Prelude.{is_some}
use Rattle.std.specs.FinMap as map
use Rattle.std.specs.List.{list_any}
use Rattle.std.specs.Ordering.{eq_by_cmp}
use Rattle.pascal_values.specs.declared.fault.Fault as fault
use Rattle.estelle_tree.specs.declared.transition.Pair.{Pair}
use Rattle.estelle_tree.specs.Paths.{Path}
use Rattle.estelle_tree.specs.Timers.{Timer, Timers, pair, pair_cmp, due, least, next_due}
use Rattle.estelle_model.specs.declared.event.Event.{Event}
use Rattle.estelle_model.specs.declared.job.Guard.{Guard}
use Rattle.estelle_model.specs.declared.job.Guard.TheVariants.{Off, On, Faulted}
use Rattle.estelle_model.specs.Core.{Instance}
use Rattle.estelle_model.specs.Transitions.{Transition}
use Rattle.estelle_model.specs.Subject.{Subject, transitions, numbered_one}
use Rattle.estelle_model.specs.Situation.{Situation}
use Rattle.estelle_model.specs.Firing.{guard, guard_at, guard_of}
use Rattle.estelle_model.specs.Attributes.{attribute, is_empty}
use Rattle.estelle_model.specs.Delays.{is_on}
use Rattle.estelle_model.specs.Runs.{situation}
use Rattle.estelle_model.specs.Ends.{IsDead}
use Rattle.estelle_model_legality.proofs.Lists.{or_cases}
use Rattle.estelle_model_legality.proofs.Systems.{legal_tree}
use Rattle.situation_steps.specs.declared.systems.System.{System}
use Rattle.situation_steps.specs.declared.systems.Time.{Time}
use Rattle.situation_steps.specs.Systems.{NoneIsDue}
use Rattle.situation_steps.specs.UnderWay.{IsSettled, IsUnderWay}
use Rattle.situation_steps.specs.Ends.{DeadEnds}
use Rattle.situation_steps.proofs.Due.{kept_system, none_are_due}
use Rattle.situation_steps.proofs.Settled.{all_settled, attributed_below}

-- ---- no timer runs

none_tied : (p : Pair) (es : List (Pair × Timer)) → least (each due (each (λ e. e.1) es)) ≡ None → list_any (eq_by_cmp pair_cmp p) (each (λ e. e.0) es) ≡ false
none_tied p [] e = refl
none_tied p (x ∷ es) e = absurd (cc)

pub no_timer : (ts : Timers) → next_due ts ≡ None → (p : Pair) → map.contains_key ts p ≡ false
no_timer ts none p = map.contains_key-keys ts p ∙ none_tied p (map.entries ts) none

-- ---- no transition is enabled

pub is_off : (x : Guard) → is_on x ≡ false → ((kind : fault.Fault) → x ≡ Faulted kind → ⊥) → x ≡ Off
is_off Off e sound = refl
is_off (On low high) e sound = absurd (let wrong : true ≡ false = e in cc)
is_off (Faulted kind) e sound = absurd (sound kind refl)

none_numbered : (ts : List Transition) (n : ℕ) → is_empty ts ≡ true → numbered_one ts n ≡ None
none_numbered [] zero e = refl
none_numbered [] (suc n) e = refl
none_numbered (t ∷ ts) n e = absurd (cc)

module _ (s : Subject) (budget : ℕ) (es : List Event) (time : Time) (systems : List System) (w : IsUnderWay s budget es time systems)
    (none : NoneIsDue systems) (idle : (situation s budget es).pending ≡ []) (no_due : next_due (situation s budget es).timers ≡ None) where
  abbrev g : Situation
  g = situation s budget es

  below_off : (m : Path) (n : ℕ) (i : Instance) → map.get g.core.instances m ≡ Some i → is_some (attribute s i.body) ≡ true → guard s budget g m n ≡ Off
  below_off m n i there has =
      let b = attributed_below s g (legal_tree s g.core.instances w.legal.instances) w.root m i there has in
      let x = kept_system s budget es time systems w b.0 b.1 in
      let settled : IsSettled s budget g b.0 = subst (IsSettled s budget g) x.2 (all_settled s budget es time systems w none idle x.0 x.1) in
      is_off (guard s budget g m n) (settled.timed m n b.2 ∙ no_timer g.timers no_due (pair m n)) (λ kind is. settled.sound m n kind b.2 is)

  off : (m : Path) (n : ℕ) (o : Option Instance) → map.get g.core.instances m ≡ o → guard s budget g m n ≡ Off
  off m n None there = ap (guard_at s budget g m n) there
  off m n (Some i) there = elim (or_cases (is_some (attribute s i.body)) (is_empty (transitions s i.body)) (w.legal.instances.transitions m i there)) [
    | inl has ↦ below_off m n i there has
    | inr empty ↦ ap (guard_at s budget g m n) there ∙ ap (guard_of s budget g m (map.contains_key g.timers (pair m n)) i) (none_numbered (transitions s i.body) n empty)
  ]

  dead : IsDead s budget g
  dead = record { pending = idle; off = λ m n. off m n (map.get g.core.instances m) refl }

pub dead_ends : DeadEnds
dead_ends s budget turns es time systems w none idle no_due below =
    let is = dead s budget es time systems w none idle no_due in
    record { run = w.run; stops = ((w.goes_on, is), below); planned = record { below = below; none_due = none_are_due s budget es time systems w none; dead = is } }
