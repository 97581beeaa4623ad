-- Every event keeps a situation legal, and so every situation of a run is legal.
use Rattle.std.proofs.Common.{◌≡◌, ℕ, zero, suc, Bool, true, false, List, [], ◌∷◌, ◌++◌, take, Option, Some, None, cond, refl, sym, ap, ap₂, subst, ◌∙◌, inl, inr}
use Rattle.std.specs.Prelude.{◌≢◌, nat_eq, slice_get, Contains}
use Rattle.std.specs.FinMap as map
use Rattle.std.specs.Str.{bytes_eq}
use Rattle.estelle_tree.specs.declared.transition.Pair.{Pair}
use Rattle.estelle_tree.specs.Paths.{Path, is_inside}
use Rattle.estelle_tree.specs.Timers.{pair}
use Rattle.estelle_model.specs.declared.effect.Out.{Out}
use Rattle.estelle_model.specs.declared.event.Event.{Event}
use Rattle.estelle_model.specs.declared.event.Event.TheVariants.{Start, Select, Fire, Fault}
use Rattle.estelle_model.specs.declared.job.Guard.{Guard}
use Rattle.estelle_model.specs.declared.job.Guard.TheVariants.{Off}
use Rattle.estelle_model.specs.Core.{Instance}
use Rattle.estelle_model.specs.Transitions.{Transition}
use Rattle.estelle_model.specs.Subject.{Subject, transition}
use Rattle.estelle_model.specs.Situation.{Situation}
use Rattle.estelle_model.specs.Queues.{Found, NotNeeded, Head, Absent, is_named, found, named, received}
use Rattle.estelle_model.specs.Firing.{Firing, Ran, Failed, Undefined, transition_at, fire, start, is_in_state, guard_with, guard_found, guard_of, guard_at, guard}
use Rattle.estelle_model.specs.Delays.{is_on, renew}
use Rattle.estelle_model.specs.Runs.{same_pair, without, fired, next, MaySelect, HasRun, Goes, Begins, after_events, started, after_first}
use Rattle.estelle_model.specs.Runs as runs
use Rattle.estelle_model_legality.specs.Situations.{IsLegal}
use Rattle.estelle_model_legality.specs.Instances.{LeadsToStates}
use Rattle.estelle_model_legality.specs.Pending.{MayBePending}
use Rattle.estelle_model_legality.specs.Keeping.{EventsKeepLegal, IsStarted, HasStarted, RunsAreLegal}
use Rattle.estelle_model_legality.proofs.Lists.{and_both, both_and, not_true, not_both, path_is, same_path, number_is, same_number, in_none, in_head, in_tail, in_cases}
use Rattle.estelle_model_legality.proofs.Effects.{waits_of, of_waits}
use Rattle.estelle_model_legality.proofs.Fired.{HasFired, within_of, fire_keeps}
use Rattle.estelle_model_legality.proofs.Others.{pending_stays}
use Rattle.estelle_model_legality.proofs.Apart.{Apart, index_of, apart_tail, AreApart, all_of_apart, apart_of_all, all_append}
use Rattle.estelle_model_legality.proofs.Members.{Has, has_contained, contains_has, has_append}
use Rattle.estelle_model_legality.proofs.Ways.{inside_trans, comparable}
use Rattle.estelle_model_legality.proofs.Systems.{legal_tree, one_system}
use Rattle.estelle_model_legality.proofs.Selected.{IsSelected, selected}
use Rattle.estelle_model_legality.proofs.Delays.{renewed_bounded}
use Rattle.estelle_model_legality.proofs.Started.{start_is_legal}

contained : (xs : List Pair) (k : ℕ) (p : Pair) → slice_get xs k ≡ Some p → Contains xs p
contained [] k p e = absurd (cc)
contained (x ∷ xs) zero p e = let is : x ≡ p = cc in subst (λ (y : Pair). Contains (x ∷ xs) y) is (in_head Pair x xs)
contained (x ∷ xs) (suc k) p e = in_tail Pair p x xs (contained xs k p e)

without_was : (p : Pair) (xs : List Pair) (q : Pair) → Contains (without p xs) q → Contains xs q
without_was p [] q c = c
without_was p (x ∷ xs) q c = by (same_pair p x) c (without_was p xs q)
  where
    by : (b : Bool) → Contains (cond b xs (x ∷ without p xs)) q → (Contains (without p xs) q → Contains xs q) → Contains (x ∷ xs) q
    by true d rest = in_tail Pair q x xs d
    by false d rest = elim (in_cases Pair q x (without p xs) d) [ inl e ↦ subst (λ (y : Pair). Contains (x ∷ xs) y) (sym e) (in_head Pair x xs) | inr f ↦ in_tail Pair q x xs (rest f) ]

apart_without : (p : Pair) (xs : List Pair) → Apart xs → Apart (without p xs)
apart_without p [] h = h
apart_without p (x ∷ xs) h = by (same_pair p x) (apart_without p xs (apart_tail x xs h))
  where
    by : (b : Bool) → Apart (without p xs) → Apart (cond b xs (x ∷ without p xs))
    by true rest i j y z n a c = apart_tail x xs h i j y z n a c
    by false rest zero zero y z n a c = absurd (n refl)
    by false rest zero (suc j) y z n a c = let k = index_of xs z (without_was p xs z (contained (without p xs) j z c)) in h 0 (suc k.0) y z (λ e. absurd (cc)) a k.1
    by false rest (suc i) zero y z n a c = let k = index_of xs y (without_was p xs y (contained (without p xs) i y a)) in h (suc k.0) 0 y z (λ e. absurd (cc)) k.1 c
    by false rest (suc i) (suc j) y z n a c = rest i j y z (λ e. n (ap (λ (k : ℕ). suc k) e)) a c

same_pair_is : (p q : Pair) → same_pair p q ≡ true → p ≡ q
same_pair_is p q h =
    let x = and_both (bytes_eq p.path q.path) (nat_eq p.trans q.trans) h in
    ap₂ (λ (a : Path) (n : ℕ). record { path = a; trans = n }) (same_path p.path q.path x.0) (same_number p.trans q.trans x.1)

same_pair_itself : (p : Pair) → same_pair p p ≡ true
same_pair_itself p = both_and (bytes_eq p.path p.path) (nat_eq p.trans p.trans) (path_is p.path) (number_is p.trans)

-- the others lie outside the one that is taken
others_outside : (p : Pair) (xs : List Pair) → Apart xs → Contains xs p → (q : Pair) → Contains (without p xs) q → is_inside p.path q.path ≡ false
others_outside p [] h c q d = absurd (in_none Pair p c)
others_outside p (x ∷ xs) h c q d = by (same_pair p x) refl d (others_outside p xs (apart_tail x xs h))
  where
    by : (b : Bool) → same_pair p x ≡ b → Contains (cond b xs (x ∷ without p xs)) q → (Contains xs p → (y : Pair) → Contains (without p xs) y → is_inside p.path y.path ≡ false) → is_inside p.path q.path ≡ false
    by true e f rest = let k = index_of xs q f in h 0 (suc k.0) p q (λ g. absurd (cc)) (ap (λ (y : Pair). Some y) (sym (same_pair_is p x e))) k.1
    by false e f rest = elim (in_cases Pair p x xs c) [
      | inl g ↦ absurd (not_both (same_pair p x) (ap (same_pair p) (sym g) ∙ same_pair_itself p) e)
      | inr g ↦ elim (in_cases Pair q x (without p xs) f) [
        | inl same ↦ let k = index_of xs p g in h (suc k.0) 0 p q (λ z. absurd (cc)) k.1 (ap (λ (y : Pair). Some y) (sym same))
        | inr more ↦ rest g q more
      ]
    ]

module _ (s : Subject) (g : Situation) (legal : IsLegal s g) (m : Path) (n : ℕ) (pending : Contains g.pending (pair m n)) where
  legal_fired : (f : Firing) → HasFired s m g f → (outs : List Out) (drops : List ℕ) → HasRun outs drops f → IsLegal s (fired (pair m n) g f)
  legal_fired (Ran after outs' drops' left) h outs drops ran =
      let same : without (pair m n) after.pending ≡ without (pair m n) g.pending = ap (without (pair m n)) h.pending in
      record {
        types = h.within.types;
        instances = h.within.instances;
        links = h.within.links;
        mail = of_waits s (record after { pending = without (pair m n) after.pending }) (waits_of s after h.within.mail);
        pending = record {
          each = λ p c.
              let d : Contains (without (pair m n) g.pending) p = subst (λ (ps : List Pair). Contains ps p) same c in
              pending_stays s m g (record after { pending = without (pair m n) after.pending }) h.others h.mail p
              (others_outside (pair m n) g.pending legal.pending.apart pending p d) (legal.pending.each p (without_was (pair m n) g.pending p d));
          apart = subst Apart (sym same) (apart_without (pair m n) g.pending legal.pending.apart);
        };
        timers = h.timers legal.timers;
      }
  legal_fired (Failed kind left) h outs drops ran = absurd ran
  legal_fired Undefined h outs drops ran = absurd ran

-- ---- a selection

module _ (s : Subject) (budget : ℕ) (g : Situation) where
  abbrev IsOn : Guard → Type 0
  IsOn x = is_on x ≡ true

  -- what is enabled is a transition of an instance that is there, and what it receives is there
  record IsEnabled (p : Pair) : Type 0 where
    instance : Instance
    there : map.get g.core.instances p.path ≡ Some instance
    transition : Transition
    its : transition_at s p.trans (Some instance) ≡ Some transition
    head : received s g p.path transition.when ≢ Absent

  heard : (p : Path) (t : Transition) (timed : Bool) (f : Found) → IsOn (guard_found s budget g p t timed f) → named t.when f ≢ Absent
  heard p t timed NotNeeded on = λ e. absurd (cc)
  heard p t timed Absent on = absurd (let wrong : false ≡ true = on in cc)
  heard p t timed (Head i) on = by (is_named i t.when) on
    where
      by : (b : Bool) → IsOn (cond b (guard_with s budget g p t timed i.values) Off) → cond b (Head i) Absent ≢ Absent
      by true h = λ e. absurd (cc)
      by false h = absurd (let wrong : false ≡ true = h in cc)

  in_state : (p : Path) (t : Transition) (timed : Bool) (f : Found) (b : Bool) → IsOn (cond b (guard_found s budget g p t timed f) Off) → named t.when f ≢ Absent
  in_state p t timed f true on = heard p t timed f on
  in_state p t timed f false on = absurd (let wrong : false ≡ true = on in cc)

  enabled : (p : Pair) → IsOn (guard s budget g p.path p.trans) → IsEnabled p
  enabled p on = by (map.get g.core.instances p.path) refl on
    where
      of_instance : (i : Instance) → map.get g.core.instances p.path ≡ Some i → (o : Option Transition) → transition s i.body p.trans ≡ o → (timed : Bool) → IsOn (guard_of s budget g p.path timed i o) → IsEnabled p
      of_instance i there None its timed h = absurd (let wrong : false ≡ true = h in cc)
      of_instance i there (Some t) its timed h = record { instance = i; there = there; transition = t; its = its; head = in_state p.path t timed (found s g p.path t.when) (is_in_state t.from i.state) h }

      by : (o : Option Instance) → map.get g.core.instances p.path ≡ o → IsOn (guard_at s budget g p.path p.trans o) → IsEnabled p
      by None there h = absurd (let wrong : false ≡ true = h in cc)
      by (Some i) there h = of_instance i there (transition s i.body p.trans) refl (map.contains_key g.timers (record { path = p.path; trans = p.trans })) h

module _ (s : Subject) (budget : ℕ) (g : Situation) (legal : IsLegal s g) (system : Path) (now : ℕ) (takes : List Pair) (may : MaySelect s budget g system now takes) where
  abbrev renewed : Situation
  renewed = renew s budget g system now

  abbrev after : Situation
  after = runs.selected s budget g system now takes

  taken : IsSelected s budget renewed system takes
  taken = selected s budget renewed may.selects

  -- what is pending elsewhere stays so
  still_pending : (p : Pair) → MayBePending s g p → MayBePending s after p
  still_pending p h = record { system = h.system; is_system = h.is_system; inside = h.inside; instance = h.instance; there = h.there; transition = h.transition; its = h.its; head = h.head }

  now_pending : (p : Pair) → Has takes p → MayBePending s after p
  now_pending p h =
      let e = enabled s budget renewed p (and_both (is_on (guard s budget renewed p.path p.trans)) _ (taken.may p h)).0 in
      record { system = system; is_system = may.is_system; inside = taken.inside p h; instance = e.instance; there = e.there; transition = e.transition; its = e.its; head = e.head }

  -- what is pending lies outside the system, and its instance is not above it, since no system stands below another
  apart_from : (p q : Pair) → Has g.pending p → Has takes q → AreApart p q
  apart_from p q h k = (
    not_true (is_inside p.path q.path) (λ t. elim (comparable p.path system q.path t (taken.inside q k)) [
      | inl up ↦ below_other up
      | inr down ↦ may.idle p (contains_has g.pending p h) down
    ]),
    not_true (is_inside q.path p.path) (λ t. may.idle p (contains_has g.pending p h) (inside_trans system q.path p.path (taken.inside q k) t)),
  )
    where
      below_other : is_inside p.path system ≡ true → ⊥
      below_other up =
          let its = legal.pending.each p (contains_has g.pending p h) in
          let same : system ≡ its.system = one_system s g (legal_tree s g.core.instances legal.instances) its.system system its.is_system may.is_system (inside_trans its.system p.path system its.inside up) in
          may.idle p (contains_has g.pending p h) (ap (λ (x : Path). is_inside x p.path) same ∙ its.inside)

  pub selection_keeps : IsLegal s after
  selection_keeps = record {
    types = legal.types;
    instances = legal.instances;
    links = legal.links;
    mail = of_waits s after (waits_of s g legal.mail);
    pending = record {
      each = λ p c. elim (has_append g.pending takes p (has_contained (g.pending ++ takes) p c)) [ inl h ↦ still_pending p (legal.pending.each p (contains_has g.pending p h)) | inr h ↦ now_pending p h ];
      apart = apart_of_all (g.pending ++ takes) (all_append g.pending takes (all_of_apart g.pending legal.pending.apart) taken.apart apart_from);
    };
    timers = renewed_bounded s budget g system now legal.timers;
  }

-- ---- events

pub events_keep : EventsKeepLegal
events_keep s leads budget g legal (Start outs drops) applies = absurd applies
events_keep s leads budget g legal (Select system now takes) applies = selection_keeps s budget g legal system now takes applies
events_keep s leads budget g legal (Fire m n outs drops) applies = legal_fired s g legal m n applies.pending (fire s budget g m n) (fire_keeps s leads budget g (within_of s g legal) m n) outs drops applies.ran
events_keep s leads budget g legal (Fault m n kind) applies = legal

-- ---- runs

module _ (s : Subject) (leads : LeadsToStates s) (budget : ℕ) where
  goes_legal : (es : List Event) (g : Situation) → IsLegal s g → Goes s budget g es → (i : ℕ) → IsLegal s (after_events s budget g (take i es))
  goes_legal es g legal goes zero = legal
  goes_legal [] g legal goes (suc i) = legal
  goes_legal (e ∷ es) g legal goes (suc i) = goes_legal es (next s budget g e) (events_keep s leads budget g legal e goes.0) goes.2 i

  of_start : (first : Firing) (e : Event) (es : List Event) → IsStarted s first → HasStarted first → Begins s budget first e es → (i : ℕ) → IsLegal s (after_first s budget (started s first) (take i (e ∷ es)))
  of_start (Ran g outs drops left) e es legal ran begins zero = legal
  of_start (Ran g outs drops left) (Start outs' drops') es legal ran begins (suc i) = goes_legal es g legal begins.2 i
  of_start (Ran g outs drops left) (Select system now takes) es legal ran begins (suc i) = absurd begins
  of_start (Ran g outs drops left) (Fire m n outs' drops') es legal ran begins (suc i) = absurd begins
  of_start (Ran g outs drops left) (Fault m n kind) es legal ran begins (suc i) = absurd begins
  of_start (Failed kind left) e es legal ran begins i = absurd ran
  of_start Undefined e es legal ran begins i = absurd ran

pub runs_are_legal : RunsAreLegal
runs_are_legal s leads budget [] run ran i = absurd run
runs_are_legal s leads budget (e ∷ es) run ran i = of_start s leads budget (start s budget) e es (start_is_legal s leads budget) ran run i
