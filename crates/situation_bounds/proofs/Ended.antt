-- After a fault the clock is not waited for.
use Rattle.std.proofs.Common.{◌≡◌, ◌⊎◌, ◌≤◌, ℕ, zero, suc, Bool, true, false, List, [], ◌∷◌, ◌++◌, length, drop, Option, Some, None, refl, sym, ap, subst, ◌∙◌, cond, inl, inr}
use Rattle.std.specs.Prelude.{◌||◌, ◌&&◌, not, nat_lt, is_some, option_map, option_and_then, slice_get, Contains}
use Rattle.std.specs.List.{list_any}
use Rattle.std.specs.FinMap as map
use Rattle.std.specs.Ordering.{eq_by_cmp}
use Rattle.std.proofs.lemmas.List.{drop-append-le}
use Rattle.pascal_values.specs.declared.fault.Fault as fault
use Rattle.estelle_tree.specs.declared.tree.specification.SysAttr.{SysAttr}
use Rattle.estelle_tree.specs.declared.tree.specification.SysAttr.TheVariants as system
use Rattle.estelle_tree.specs.declared.transition.Pair.{Pair}
use Rattle.estelle_tree.specs.Paths.{Path, path_cmp}
use Rattle.estelle_tree.specs.Timers.{pair}
use Rattle.estelle_model.specs.declared.event.Event.{Event}
use Rattle.estelle_model.specs.declared.event.Event.TheVariants.{Fault}
use Rattle.estelle_model.specs.Core.{Instance}
use Rattle.estelle_model.specs.Bodies.{BodyAlone, system_attribute}
use Rattle.estelle_model.specs.Transitions.{Transition}
use Rattle.estelle_model.specs.Subject.{Subject, body, new_instance, transitions, numbered_one, transition}
use Rattle.estelle_model.specs.Situation.{Situation}
use Rattle.estelle_model.specs.Attributes.{attribute, is_empty, is_system, IsSystem}
use Rattle.estelle_model.specs.Choosers.{Draw}
use Rattle.estelle_model.specs.Firing.{Firing, Ran, Failed, Undefined, alone, bare, start, guard, guard_at, guard_of}
use Rattle.estelle_model.specs.Delays.{is_on}
use Rattle.estelle_model.specs.Runs.{Begins, IsRun, started, situation}
use Rattle.estelle_model.specs.Schedule.{Kept, IsDue, IsWaiting, awaits_clock, selects, IsPlanned}
use Rattle.estelle_model.proofs.Maps.{total}
use Rattle.estelle_model_legality.specs.Instances.{LeadsToStates}
use Rattle.estelle_model_legality.proofs.Lists.{in_none, or_cases, any_append}
use Rattle.situation_steps.proofs.Going.{situation-push, awaits-push}

none_at : (ps : List Pair) → ps ≡ [] → (i : ℕ) (p : Pair) → slice_get ps i ≡ Some p → ⊥
none_at [] none i p is = cc
none_at (q ∷ ps) none i p is = cc

module _ (s : Subject) (budget : ℕ) where
  -- ---- after a fault that came later

  module _ (es : List Event) (run : IsRun s budget es) (m : Path) (n : ℕ) (kind : fault.Fault) where
    abbrev e : Event
    e = Fault m n kind

    same : situation s budget (es ++ e ∷ []) ≡ situation s budget es
    same = situation-push s budget es e run

    clock_same : (waited : ℕ) → waited ≤ length es → (system : Path) → awaits_clock system waited (es ++ e ∷ []) ≡ awaits_clock system waited es
    clock_same waited within system =
        ap (λ (ds : List Event). nat_lt 0 waited && not (list_any (selects system) ds)) (drop-append-le waited es (e ∷ []) within)
        ∙ ap (λ b. nat_lt 0 waited && not b) (any_append Event (selects system) (drop waited es) e ∙ or_false (list_any (selects system) (drop waited es)))
      where
        or_false : (b : Bool) → (b || false) ≡ b
        or_false true = refl
        or_false false = refl

    -- what was due still is
    still_due : (waited : ℕ) → waited ≤ length es → (system : Path) → IsDue s budget es waited system → IsDue s budget (es ++ e ∷ []) waited system
    still_due waited within system due = record {
      is_system = subst (λ (g : Situation). IsSystem s g system) (sym same) due.is_system;
      idle = λ p c. due.idle p (subst (λ (g : Situation). Contains g.pending p) same c);
      awaits = (λ i. awaits-push s budget system es e run i || clock_same waited within system i) ∙ due.awaits;
    }

    pub no_wait : {C : Type 0} (draw : Draw C) (kept : Kept C) (rest : C) → kept.waited ≤ length es → IsPlanned draw s budget es kept e rest → IsWaiting s budget (es ++ e ∷ []) kept.waited → ⊥
    no_wait draw kept rest within (inl guard) waiting = waiting.none_due guard.system (still_due kept.waited within guard.system guard.due.due)
    no_wait draw kept rest within (inr firing) waiting =
        let none : (situation s budget es).pending ≡ [] = ap (λ (g : Situation). g.pending) (sym same) ∙ waiting.idle in
        none_at (situation s budget es).pending none _ (pair m n) firing.picked.takes

  -- ---- after the fault of the start

  faulted : (f : Firing) (m : Path) (n : ℕ) (kind : fault.Fault) (es : List Event) → Begins s budget f (Fault m n kind) es → started s f ≡ bare s
  faulted (Ran g outs drops left) m n kind es h = absurd h
  faulted (Failed kind' left) m n kind es h = refl
  faulted Undefined m n kind es h = absurd h

  -- what is enabled of the specification alone is a transition of its own
  enabled_there : (o : Option Transition) (p : Path) (timed : Bool) (i : Instance) → is_on (guard_of s budget (bare s) p timed i o) ≡ true → is_some o ≡ true
  enabled_there None p timed i on = absurd (let wrong : false ≡ true = on in cc)
  enabled_there (Some t) p timed i on = refl

  some_numbered : (ts : List Transition) (n : ℕ) → is_some (numbered_one ts n) ≡ true → is_empty ts ≡ false
  some_numbered [] zero is = absurd (cc)
  some_numbered [] (suc n) is = absurd (cc)
  some_numbered (t ∷ ts) n is = refl

  pub has_own : (p : Path) (n : ℕ) → is_on (guard s budget (bare s) p n) ≡ true → (i : Instance) × (map.get (bare s).core.instances [] ≡ Some i) × (i.body ≡ 0) × (is_empty (transitions s 0) ≡ false)
  has_own p n on = by (body s 0) refl on
    where
      of_instance : (b : BodyAlone) (o : Option Instance) (c : Bool) → o ≡ cond c (Some (new_instance s 0 b [])) None → is_on (guard_at s budget (bare s) p n o) ≡ true → is_empty (transitions s 0) ≡ false
      of_instance b None true e on = absurd (cc)
      of_instance b None false e on = absurd (let wrong : false ≡ true = on in cc)
      of_instance b (Some i) false e on = absurd (cc)
      of_instance b (Some i) true e on =
          let same : i ≡ new_instance s 0 b [] = cc in
          some_numbered (transitions s 0) n (ap (λ (j : Instance). is_some (transition s j.body n)) (sym same) ∙ enabled_there (transition s i.body n) p _ i on)

      by : (o : Option BodyAlone) → body s 0 ≡ o → is_on (guard_at s budget (bare s) p n (map.get (alone (option_map (λ b. new_instance s 0 b []) o)) p)) ≡ true
          → (i : Instance) × (map.get (alone (option_map (λ b. new_instance s 0 b []) o)) [] ≡ Some i) × (i.body ≡ 0) × (is_empty (transitions s 0) ≡ false)
      by None is on = absurd (let wrong : false ≡ true = sym (ap (λ o. is_on (guard_at s budget (bare s) p n o)) (map.get-empty path_cmp p)) ∙ on in cc)
      by (Some b) is on = (
        new_instance s 0 b [],
        map.get-insert total map.empty [] (new_instance s 0 b []) [],
        refl,
        of_instance b (map.get (alone (Some (new_instance s 0 b []))) p) (eq_by_cmp path_cmp p []) (map.get-insert total map.empty [] (new_instance s 0 b []) p ∙ ap (λ o. cond (eq_by_cmp path_cmp p []) (Some (new_instance s 0 b [])) o) (map.get-empty path_cmp p)) on,
      )

  system_own : (o : Option SysAttr) → is_some (option_map system_attribute o) ≡ true → is_system (option_map system_attribute o) ≡ true
  system_own None e = absurd (let wrong : false ≡ true = e in cc)
  system_own (Some (system.Systemprocess span)) e = refl
  system_own (Some (system.Systemactivity span)) e = refl

  module _ (leads : LeadsToStates s) where
    -- the specification is then a system that is due
    pub no_first_wait : (m : Path) (n : ℕ) (kind : fault.Fault) → IsRun s budget (Fault m n kind ∷ []) → IsWaiting s budget (Fault m n kind ∷ []) 0 → ⊥
    no_first_wait m n kind run waiting =
        let bare_is = faulted (start s budget) m n kind [] run in
        let own = has_own waiting.path waiting.trans (ap (λ (g : Situation). is_on (guard s budget g waiting.path waiting.trans)) (sym bare_is) ∙ waiting.enabled) in
        waiting.none_due [] (record {
          is_system = subst (λ (g : Situation). IsSystem s g []) (sym bare_is)
              (ap (λ (o : Option Instance). is_system (option_and_then (λ (i : Instance). attribute s i.body) o)) own.1 ∙ ap (λ (k : ℕ). is_system (attribute s k)) own.2
              ∙ system_own s.specification.attr (attributed (or_cases (is_some (attribute s 0)) (is_empty (transitions s 0)) leads.root) own.3));
          idle = λ p c inside. in_none Pair p (subst (λ (g : Situation). Contains g.pending p) bare_is c);
          awaits = refl;
        })
      where
        attributed : (is_some (attribute s 0) ≡ true) ⊎ (is_empty (transitions s 0) ≡ true) → is_empty (transitions s 0) ≡ false → is_some (attribute s 0) ≡ true
        attributed (inl is) some = is
        attributed (inr none) some = absurd (let wrong : true ≡ false = sym none ∙ some in cc)
