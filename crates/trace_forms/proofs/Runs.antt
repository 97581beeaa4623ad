-- The events and the end of every run have the form that a trace can tell.
use Rattle.std.proofs.Common.{◌≡◌, ℕ, zero, suc, ◌+◌, ◌≤◌, true, List, [], ◌∷◌, Option, Some, None, refl, arith, sym, subst, ◌∙◌, inl, inr}
use Rattle.std.specs.List.{AllByRecursion}
use Rattle.std.specs.FinMap as fin
use Rattle.std.proofs.lemmas.Option.{slice_get_within}
use Rattle.pascal_values.specs.declared.fault.Fault as fault
use Rattle.estelle_tree.specs.declared.transition.Pair.{Pair}
use Rattle.estelle_tree.specs.Paths.{Path}
use Rattle.estelle_tree.specs.Timers.{pair}
use Rattle.estelle_model.specs.declared.effect.Out.{Out}
use Rattle.estelle_model.specs.declared.event.Event.{Event}
use Rattle.estelle_model.specs.declared.event.Event.TheVariants.{Start, Select, Fire, Fault}
use Rattle.estelle_model.specs.declared.event.End.{End}
use Rattle.estelle_model.specs.declared.event.End.TheVariants as end
use Rattle.estelle_model.specs.declared.job.Guard.{Guard}
use Rattle.estelle_model.specs.declared.job.Guard.TheVariants.{Off, On, Faulted}
use Rattle.estelle_model.specs.Core.{Instance}
use Rattle.estelle_model.specs.Transitions.{Transition}
use Rattle.estelle_model.specs.Subject.{Subject, transitions, transition}
use Rattle.estelle_model.specs.Situation.{Situation}
use Rattle.estelle_model.specs.Firing.{Firing, Ran, Failed, Undefined, transition_at, fire_of, fire, start, untimed, guard_of, guard_at, guard}
use Rattle.estelle_model.specs.Delays.{is_on, renew}
use Rattle.estelle_model.specs.Runs.{MaySelect, HasRun, HasFailed, Applies, IsLastIfFault, fired, next, Goes, Begins, IsRun, situation}
use Rattle.estelle_model.specs.Ends.{last_event, IsNoFault, IsFault, Closes}
use Rattle.estelle_model_legality.proofs.Lists.{and_both}
use Rattle.estelle_model_legality.proofs.Selected.{selected as legal_selected}
use Rattle.estelle_model_legality.proofs.Systems.{system_there}
use Rattle.estelle_model_fates.specs.Fates.{dropped_by}
use Rattle.trace_text.specs.Forms.{IsPath, IsTransition, IsPair, IsOut, AreOutcome, IsLater, EndsBehind, GoOn, HasForm}
use Rattle.trace_forms.specs.Numbers.{PathFits, OutFits, OutcomeFits, PairFits, EventFits, NumbersFit}
use Rattle.trace_forms.proofs.Instances.{PathWithin}
use Rattle.trace_forms.proofs.Selections.{takes_in_order}
use Rattle.trace_forms.proofs.Drops.{AreOnce, HasSorted, SortedFrom, start_sorted, fire_sorted, drops_once, rise}
use Rattle.trace_forms.proofs.Acts.{OutWithin}
use Rattle.trace_forms.proofs.Firings.{IsTellable, IsWithin, later_within, FiredWithin, fire_within, start_within}
use Rattle.trace_forms.proofs.Lists.{all_has}

-- ---- fields

path_form : (n : ℕ) (p : Path) → PathWithin n p → PathFits p → IsPath p
path_form n [] h k = tt
path_form n (x ∷ p) h k = ((h.0.0, k.0.1), path_form n p h.1 k.1)

outs_form : (n : ℕ) (outs : List Out) → AllByRecursion (OutWithin n) outs → AllByRecursion OutFits outs → AllByRecursion IsOut outs
outs_form n [] h k = tt
outs_form n (o ∷ outs) h k = (record { path = path_form n o.path h.0.path k.0; ip = h.0.ip; name = h.0.name; values = h.0.values }, outs_form n outs h.1 k.1)

outcome_form : (n made : ℕ) (outs : List Out) (drops : List ℕ) → AllByRecursion (OutWithin n) outs → SortedFrom 0 drops → AreOnce made drops → OutcomeFits outs drops → AreOutcome outs drops
outcome_form n made outs drops h sorted once fits = (outs_form n outs h fits.0, rise 0 made drops sorted once fits.1 (omega arith))

-- ---- the end

abbrev EndsAt : Option Event → End → Type 0
EndsAt o (end.Faulted kind) = IsFault o kind
EndsAt o _ = IsNoFault o

closes_at : (s : Subject) (budget : ℕ) (events : List Event) (e : End) → Closes s budget events e → EndsAt (last_event events) e
closes_at s budget events end.Dead h = h.0
closes_at s budget events end.Turns h = h
closes_at s budget events end.Clock h = h
closes_at s budget events (end.Faulted kind) h = h

ends_behind : (last : Event) (e : End) → EndsAt (Some last) e → EndsBehind last e
ends_behind last end.Dead h = h
ends_behind last end.Turns h = h
ends_behind last end.Clock h = h
ends_behind last (end.Faulted kind) h = h

no_fault : (last f : Event) (es : List Event) → IsLastIfFault last (f ∷ es) → IsNoFault (Some last)
no_fault (Start outs drops) f es h = tt
no_fault (Select system now takes) f es h = tt
no_fault (Fire m n outs drops) f es h = tt
no_fault (Fault m n kind) f es h = absurd (cc)

-- ---- later events

module _ (s : Subject) (tellable : IsTellable s) (budget : ℕ) where
  number_form : (k n : ℕ) (t : Transition) → transition s k n ≡ Some t → IsTransition n
  number_form k zero t e = absurd (cc)
  number_form k (suc n) t e = let less = slice_get_within (transitions s k) n t e in let few = tellable.few k in (omega arith, omega (arith, less, few))

  -- an instance that is there, and the number of one of its transitions
  record IsTold (g : Situation) (p : Path) (n : ℕ) : Type 0 where
    instance : Instance
    there : fin.get g.core.instances p ≡ Some instance
    number : IsTransition n

  guard_told : (g : Situation) (p : Path) (n : ℕ) → (guard s budget g p n ≡ Off → ⊥) → IsTold g p n
  guard_told g p n on = by (fin.get g.core.instances p) refl on
    where
      of_instance : (i : Instance) → fin.get g.core.instances p ≡ Some i → (o : Option Transition) → transition s i.body n ≡ o → (guard_of s budget g p (fin.contains_key g.timers (record { path = p; trans = n })) i o ≡ Off → ⊥) → IsTold g p n
      of_instance i there None e h = absurd (h refl)
      of_instance i there (Some t) e h = record { instance = i; there = there; number = number_form i.body n t e }

      by : (o : Option Instance) → fin.get g.core.instances p ≡ o → (guard_at s budget g p n o ≡ Off → ⊥) → IsTold g p n
      by None there h = absurd (h refl)
      by (Some i) there h = of_instance i there (transition s i.body n) refl h

  fire_told : (P : Firing → Type 0) → (P Undefined → ⊥) → (g : Situation) (p : Path) (n : ℕ) → P (fire s budget g p n) → IsTold g p n
  fire_told P never g p n h = by (fin.get g.core.instances p) refl h
    where
      of_instance : (i : Instance) → fin.get g.core.instances p ≡ Some i → (o : Option Transition) → transition s i.body n ≡ o → P (untimed p n (fire_of s budget g p o)) → IsTold g p n
      of_instance i there None e k = absurd (never k)
      of_instance i there (Some t) e k = record { instance = i; there = there; number = number_form i.body n t e }

      by : (o : Option Instance) → fin.get g.core.instances p ≡ o → P (untimed p n (fire_of s budget g p (transition_at s n o))) → IsTold g p n
      by None there k = absurd (never k)
      by (Some i) there k = of_instance i there (transition s i.body n) refl k

  told_path : (n : ℕ) (g : Situation) → IsWithin n g → (p : Path) (k : ℕ) → IsTold g p k → PathFits p → IsPath p
  told_path n g h p k t fits = path_form n p (h.instances.each p t.instance t.there).path fits

  on_not_off : (x : Guard) → is_on x ≡ true → x ≡ Off → ⊥
  on_not_off (On low high) e f = absurd (cc)
  on_not_off Off e f = absurd (cc)
  on_not_off (Faulted kind) e f = absurd (cc)

  failed_not_off : (kind : fault.Fault) (x : Guard) → x ≡ Faulted kind → x ≡ Off → ⊥
  failed_not_off kind x e f = let wrong : Faulted kind ≡ Off = sym e ∙ f in absurd (cc)

  -- a selection
  select_form : (n : ℕ) (g : Situation) → IsWithin n g → (system : Path) (now : ℕ) (takes : List Pair) → EventFits (Select system now takes) → MaySelect s budget g system now takes → IsLater (Select system now takes)
  select_form n g h system now takes fits m =
      let there = system_there s g system m.is_system in
      let last = m.moment in
      let all = legal_selected s budget (renew s budget g system now) m.selects in (
        path_form n system (h.instances.each system there.0 there.1).path fits.0,
        (omega arith, omega (arith, last)),
        (
          all_has IsPair PairFits takes (λ p k f.
              let on = and_both (is_on (guard s budget (renew s budget g system now) p.path p.trans)) _ (all.may p k) in
              let t = guard_told (renew s budget g system now) p.path p.trans (on_not_off (guard s budget (renew s budget g system now) p.path p.trans) on.0) in
              (path_form n p.path (h.instances.each p.path t.instance t.there).path f, t.number)) fits.1,
          takes_in_order s budget (renew s budget g system now) system takes m.selects,
        ),
      )

  -- a firing
  run_outs : (n : ℕ) (f : Firing) → FiredWithin n f → HasSorted f → (outs : List Out) (drops : List ℕ) → HasRun outs drops f → AllByRecursion (OutWithin n) outs × SortedFrom 0 drops
  run_outs n (Ran after outs' drops' left) h sorted outs drops ran = (subst (AllByRecursion (OutWithin n)) ran.0 h.1, subst (SortedFrom 0) ran.1 sorted)
  run_outs n (Failed kind left) h sorted outs drops ran = absurd ran
  run_outs n Undefined h sorted outs drops ran = absurd ran

  fired_within : (n m : ℕ) (g : Situation) (p : Pair) (f : Firing) → n ≤ m → IsWithin n g → FiredWithin m f → IsWithin m (fired p g f)
  fired_within n m g p (Ran after outs drops left) h k w = record { instances = w.0.instances; mail = w.0.mail }
  fired_within n m g p (Failed kind left) h k w = later_within n m g h k
  fired_within n m g p Undefined h k w = later_within n m g h k

  next_within : (n : ℕ) (g : Situation) (e : Event) → IsWithin n g → IsWithin (n + budget) (next s budget g e)
  next_within n g (Start outs drops) h = later_within n (n + budget) g (omega arith) h
  next_within n g (Select system now takes) h = let w = later_within n (n + budget) g (omega arith) h in record { instances = w.instances; mail = w.mail }
  next_within n g (Fire m k outs drops) h = fired_within n (n + budget) g (pair m k) (fire s budget g m k) (omega arith) h (fire_within s tellable budget n (n + budget) (omega arith) g h m k)
  next_within n g (Fault m k kind) h = later_within n (n + budget) g (omega arith) h

  module _ (made : ℕ) where
    later_form : (n : ℕ) (g : Situation) → IsWithin n g → (e : Event) → EventFits e → AreOnce made (dropped_by e) → Applies s budget g e → IsLater e
    later_form n g h (Start outs drops) fits once a = absurd a
    later_form n g h (Select system now takes) fits once a = select_form n g h system now takes fits a
    later_form n g h (Fire m k outs drops) fits once a =
        let t = fire_told (HasRun outs drops) (λ none. none) g m k a.ran in
        let r = run_outs (n + budget) (fire s budget g m k) (fire_within s tellable budget n (n + budget) (omega arith) g h m k) (fire_sorted s budget g m k) outs drops a.ran in
        (told_path n g h m k t fits.0, t.number, outcome_form (n + budget) made outs drops r.0 r.1 once fits.1)
    later_form n g h (Fault m k kind) fits once (inl a) = let t = fire_told (HasFailed kind) (λ none. none) g m k a.failed in (told_path n g h m k t fits, t.number)
    later_form n g h (Fault m k kind) fits once (inr a) = let t = guard_told g m k (failed_not_off kind (guard s budget g m k) a.first.faults) in (told_path n g h m k t fits, t.number)

    goes_form : (es : List Event) (n : ℕ) (g : Situation) → IsWithin n g → Goes s budget g es → AllByRecursion EventFits es → AllByRecursion (λ (e : Event). AreOnce made (dropped_by e)) es
        → (last : Event) → IsLastIfFault last es → (e : End) → EndsAt (last_event (last ∷ es)) e → GoOn last es e
    goes_form [] n g h goes fits once last is e ends = ends_behind last e ends
    goes_form (f ∷ es) n g h goes fits once last is e ends = (
      no_fault last f es is,
      later_form n g h f fits.0 once.0 goes.0,
      goes_form es (n + budget) (next s budget g f) (next_within n g f h) goes.2 fits.1 once.1 f goes.1 e ends,
    )

    -- ---- from the start on

    start_form : (first : Firing) → FiredWithin budget first → HasSorted first → (f : Event) (es : List Event) → Begins s budget first f es → AllByRecursion EventFits (f ∷ es) → AllByRecursion (λ (e : Event). AreOnce made (dropped_by e)) (f ∷ es)
        → (e : End) → EndsAt (last_event (f ∷ es)) e → HasForm (f ∷ es) e
    start_form (Ran g outs drops left) h sorted (Start outs' drops') es begins fits once e ends = (
      outcome_form budget made outs' drops' (subst (AllByRecursion (OutWithin budget)) (sym begins.0) h.1) (subst (SortedFrom 0) (sym begins.1) sorted) once.0 fits.0,
      goes_form es budget g h.0 begins.2 fits.1 once.1 (Start outs' drops') tt e ends,
    )
    start_form (Ran g outs drops left) h sorted (Select system now takes) es begins fits once e ends = absurd begins
    start_form (Ran g outs drops left) h sorted (Fire m n outs' drops') es begins fits once e ends = absurd begins
    start_form (Ran g outs drops left) h sorted (Fault m n kind) es begins fits once e ends = absurd begins
    start_form (Failed kind left) h sorted (Fault m n kind') [] begins fits once e ends = ((begins.0, begins.1), ends_behind (Fault m n kind') e ends)
    start_form (Failed kind left) h sorted (Fault m n kind') (f ∷ es) begins fits once e ends = absurd (let wrong = begins.3 in cc)
    start_form (Failed kind left) h sorted (Start outs drops) es begins fits once e ends = absurd begins
    start_form (Failed kind left) h sorted (Select system now takes) es begins fits once e ends = absurd begins
    start_form (Failed kind left) h sorted (Fire m n outs drops) es begins fits once e ends = absurd begins
    start_form Undefined h sorted f es begins fits once e ends = absurd begins

  pub run_form : (events : List Event) → IsRun s budget events → (e : End) → Closes s budget events e → NumbersFit events → HasForm events e
  run_form [] run e closes fits = absurd run
  run_form (f ∷ es) run e closes fits =
      start_form (situation s budget (f ∷ es)).made (start s budget) (start_within s tellable budget) (start_sorted s budget) f es run fits (drops_once s budget (f ∷ es) run) e (closes_at s budget (f ∷ es) e closes)
