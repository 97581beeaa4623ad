-- Where nothing is due or pending but a timer runs, the clock is waited for, and after that every system awaits a selection.
use Rattle.std.proofs.Common.{◌≡◌, ◌⊎◌, ◌≤◌, ℕ, Bool, true, false, not, List, [], ◌∷◌, map as each, length, drop, Option, Some, None, refl, sym, ap, subst, cond, ◌∙◌, inl, inr, arith}
use Rattle.std.specs.Prelude.{T, fold, min, max, nat_le, nat_lt, is_some, unwrap_or}
use Rattle.std.specs.List.{list_any, AllByRecursion}
use Rattle.std.specs.FinMap as map
use Rattle.std.specs.FinMap.{is_sorted}
use Rattle.std.specs.Ordering.{is_lt, is_eq, eq_by_cmp}
use Rattle.std.specs.declared.cmp.Ordering.{Ordering}
use Rattle.std.specs.declared.cmp.Ordering.TheVariants.{Less, Equal, Greater}
use Rattle.std.proofs.lemmas.Bool.{cases_lt}
use Rattle.std.proofs.lemmas.Bool.Decides.{nat_tests}
use Rattle.std.proofs.lemmas.Cmp.{tied_itself}
use Rattle.std.proofs.Math.Nat.{min-eq_left, min-eq_right}
use Rattle.estelle_tree.specs.declared.transition.Pair.{Pair}
use Rattle.estelle_tree.specs.Paths.{Path, is_inside}
use Rattle.estelle_tree.specs.Timers.{Timer, Timers, pair_cmp, due, least, next_due, last_moment, low_is_over}
use Rattle.estelle_model.specs.declared.event.Event.{Event}
use Rattle.estelle_model.specs.Subject.{Subject}
use Rattle.estelle_model.specs.Situation.{Situation}
use Rattle.estelle_model.specs.Firing.{guard}
use Rattle.estelle_model.specs.Delays.{is_on, has_delays}
use Rattle.estelle_model.specs.Runs.{IsRun, situation}
use Rattle.estelle_model.specs.Schedule.{awaits, awaits_clock, selects}
use Rattle.estelle_model.proofs.Maps.{left_of, right_of, equal_of}
use Rattle.estelle_model.proofs.Pairs.{pairs_total, pairs_apart}
use Rattle.estelle_model_legality.proofs.Lists.{or_right, both_and, not_both}
use Rattle.estelle_model_legality.proofs.Members.{Has, has_contained, contains_has}
use Rattle.situation_steps.specs.declared.systems.System.{System}
use Rattle.situation_steps.specs.declared.systems.Time.{Time}
use Rattle.situation_steps.specs.Systems.{NoneIsDue, IsKept, after_wait}
use Rattle.situation_steps.specs.UnderWay.{IsSettledIfDone, WillFire, IsUnderWay}
use Rattle.situation_steps.specs.Laws.{MayWait, TimersAreWaitedFor, WaitsGoOn}
use Rattle.situation_steps.proofs.Listed.{has_each, each_has}
use Rattle.situation_steps.proofs.Due.{kept_system, none_are_due}
use Rattle.situation_steps.proofs.Settled.{all_settled, none_awaits}

-- ---- the timer that is due first

smaller : (a b : ℕ) → (min a b ≡ a) ⊎ (min a b ≡ b)
smaller a b = elim (cases_lt a b) [ inl less ↦ inl (min-eq_left (omega (arith, less))) | inr more ↦ inr (min-eq_right more) ]

least_has : (ns : List ℕ) (a : ℕ) → Has (a ∷ ns) (fold min a ns)
least_has [] a = inl refl
least_has (n ∷ ns) a = elim (least_has ns (min a n)) [
  | inl is ↦ elim (smaller a n) [ inl e ↦ inl (sym e ∙ is) | inr e ↦ inr (inl (sym e ∙ is)) ]
  | inr h ↦ inr (inr h)
]

least_of : (ns : List ℕ) (d : ℕ) → least ns ≡ Some d → Has ns d
least_of [] d e = absurd (cc)
least_of (n ∷ ns) d e = let same : fold min n ns ≡ d = cc in subst (Has (n ∷ ns)) same (least_has ns n)

not_tied : (o : Ordering) → T (is_lt o) → o ≡ Equal → ⊥
not_tied Less h e = cc
not_tied Equal h e = h
not_tied Greater h e = h

below_not_tied : (p : Pair) (es : List (Pair × Timer)) → T (map.Entries.below_all pair_cmp p es) → (e : Pair × Timer) → Has es e → p ≡ e.0 → ⊥
below_not_tied p [] h e has same = has
below_not_tied p (x ∷ es) h e (inl is) same =
    not_tied (pair_cmp p x.0) (left_of _ _ h) (ap (pair_cmp p) (ap (λ (y : Pair × Timer). y.0) is ∙ sym same) ∙ tied_itself pairs_total p)
below_not_tied p (x ∷ es) h e (inr has) same = below_not_tied p es (right_of (is_lt (pair_cmp p x.0)) _ h) e has same

entry_found : (es : List (Pair × Timer)) → T (is_sorted pair_cmp es) → (e : Pair × Timer) → Has es e → map.find pair_cmp e.0 es ≡ Some e.1
entry_found [] h e has = absurd has
entry_found (x ∷ es) h e (inl is) =
    subst (λ (y : Pair × Timer). map.find pair_cmp y.0 (x ∷ es) ≡ Some y.1) is (ap (λ o. cond (is_eq o) (Some x.1) (map.find pair_cmp x.0 es)) (tied_itself pairs_total x.0))
entry_found (x ∷ es) h e (inr has) = by (eq_by_cmp pair_cmp e.0 x.0) refl (entry_found es (right_of (map.Entries.below_all pair_cmp x.0 es) _ h) e has)
  where
    by : (b : Bool) → eq_by_cmp pair_cmp e.0 x.0 ≡ b → map.find pair_cmp e.0 es ≡ Some e.1 → cond b (Some x.1) (map.find pair_cmp e.0 es) ≡ Some e.1
    by true is rest = absurd (below_not_tied x.0 es (left_of _ _ h) e has (sym (pairs_apart e.0 x.0 (equal_of (pair_cmp e.0 x.0) is))))
    by false is rest = rest

-- a timer runs that is due then
record IsFirst (ts : Timers) (d : ℕ) : Type 0 where
  pair : Pair
  timer : Timer
  there : map.get ts pair ≡ Some timer
  its : due timer ≡ d

first_timer : (ts : Timers) (d : ℕ) → next_due ts ≡ Some d → IsFirst ts d
first_timer ts d e =
    let value = each_has due (map.values ts) d (least_of (each due (map.values ts)) d e) in
    let entry = each_has (λ (x : Pair × Timer). x.1) (map.entries ts) value.0 value.1 in
    record {
      pair = entry.0.0;
      timer = entry.0.1;
      there = map.get-entries ts entry.0.0 ∙ entry_found (map.entries ts) (map.entries_sorted ts) entry.0 entry.1;
      its = ap due entry.2 ∙ value.2;
    }

-- ---- lists of events

after_last : (es : List Event) → drop (length es) es ≡ []
after_last [] = refl
after_last (e ∷ es) = after_last es

-- the clock that was waited for just now was so after every selection
awaits_now : (s : Subject) (budget : ℕ) (es : List Event) → IsRun s budget es → (system : Path) → awaits_clock system (length es) es ≡ true
awaits_now s budget [] run system = absurd run
awaits_now s budget (e ∷ es) run system =
    both_and (nat_lt 0 (length (e ∷ es))) (not (list_any (selects system) (drop (length (e ∷ es)) (e ∷ es)))) (grind (arith, nat_tests))
    (ap (λ (xs : List Event). not (list_any (selects system) xs)) (after_last (e ∷ es)))

-- ---- where a timer runs

module _ (s : Subject) (budget : ℕ) (es : List Event) (time : Time) (systems : List System) (w : IsUnderWay s budget es time systems)
    (none : NoneIsDue systems) (idle : (situation s budget es).pending ≡ []) (d : ℕ) (next : next_due (situation s budget es).timers ≡ Some d) where
  abbrev g : Situation
  g = situation s budget es

  abbrev first : IsFirst g.timers d
  first = first_timer g.timers d next

  -- its transition is enabled, of an instance of a system
  record IsEnabled : Type 0 where
    system : System
    among : Has systems system
    inside : is_inside system.path first.pair.path ≡ true
    enabled : is_on (guard s budget g first.pair.path first.pair.trans) ≡ true

  is_enabled : IsEnabled
  is_enabled =
      let runs : map.contains_key g.timers first.pair ≡ true = ap is_some first.there in
      let b = w.below first.pair runs in
      let x = kept_system s budget es time systems w b.0 b.1 in
      let inside : is_inside x.0.path first.pair.path ≡ true = ap (λ (p : Path). is_inside p first.pair.path) x.2 ∙ b.2 in
      record { system = x.0; among = x.1; inside = inside; enabled = (all_settled s budget es time systems w none idle x.0 x.1).timed first.pair.path first.pair.trans inside ∙ runs }

  delays : has_delays s ≡ true
  delays = by (has_delays s) refl
    where
      by : (b : Bool) → has_delays s ≡ b → b ≡ true
      by true e = refl
      by false e =
          let gone : None ≡ Some first.timer = sym (ap (λ (ts : Timers). map.get ts first.pair) (w.untimed e) ∙ map.get-empty pair_cmp first.pair) ∙ first.there in
          absurd (cc)

  none_fires : WillFire s budget g time.known systems → ⊥
  none_fires (inl pends) = pends idle
  none_fires (inr will) = not_both will.system.awaits will.awaits (none_awaits s budget es time systems w none idle will.system (has_contained systems will.system will.among))

  once : time.may_wait ≡ true
  once = by time.may_wait refl
    where
      by : (b : Bool) → time.may_wait ≡ b → b ≡ true
      by true e = refl
      by false e = absurd (none_fires (w.fires_first e))

  waited_for : MayWait s budget es time d
  waited_for = record {
    waiting = record {
      delays = delays;
      none_due = none_are_due s budget es time systems w none;
      idle = idle;
      path = first.pair.path;
      trans = first.pair.trans;
      enabled = is_enabled.enabled;
    };
    until = ap (λ (o : Option ℕ). max (unwrap_or o last_moment) time.known) next;
    once = once;
    delays = delays;
  }

  module _ (now : ℕ) (later : max d time.known ≤ now) where
    over : low_is_over now (map.get g.timers first.pair) ≡ true
    over = ap (low_is_over now) first.there ∙ ap (λ (n : ℕ). nat_le n now) first.its ∙ (let less : d ≤ now = omega (arith, later) in grind (arith, nat_tests, less))

    all_kept : (xs : List System) → AllByRecursion (IsKept s budget es time.waited) xs → AllByRecursion (IsKept s budget es (length es)) (each after_wait xs)
    all_kept [] k = tt
    all_kept (x ∷ xs) k =
        (record { awaits = sym (or_right (awaits s budget x.path es) (awaits_clock x.path (length es) es) (awaits_now s budget es w.run x.path)); pending = k.0.pending }, all_kept xs k.1)

    none_settled : (xs : List System) → AllByRecursion (IsSettledIfDone s budget g) (each after_wait xs)
    none_settled [] = tt
    none_settled (x ∷ xs) = ((λ waits idle. absurd (let wrong : true ≡ false = waits in cc)), none_settled xs)

    same_paths : (xs : List System) → each (λ (x : System). x.path) (each after_wait xs) ≡ each (λ (x : System). x.path) xs
    same_paths [] = refl
    same_paths (x ∷ xs) = ap (λ (ps : List Path). x.path ∷ ps) (same_paths xs)

    goes_on : IsUnderWay s budget es (record { known = now; waited = length es; may_wait = false }) (each after_wait systems)
    goes_on = record {
      run = w.run;
      goes_on = w.goes_on;
      legal = w.legal;
      root = w.root;
      below = w.below;
      untimed = w.untimed;
      no_later = omega (arith, w.no_later, later);
      undelayed = λ never. absurd (not_both (has_delays s) delays never);
      waited = omega arith;
      fires_first = λ waits. inr (record {
        system = after_wait is_enabled.system;
        among = contains_has (each after_wait systems) (after_wait is_enabled.system) (has_each after_wait systems is_enabled.system is_enabled.among);
        awaits = refl;
        over = record { path = first.pair.path; trans = first.pair.trans; inside = is_enabled.inside; enabled = is_enabled.enabled; over = over };
      });
      all = same_paths systems ∙ w.all;
      kept = all_kept systems w.kept;
      settled = none_settled systems;
    }

pub timers_are_waited_for : TimersAreWaitedFor
timers_are_waited_for s leads budget es time systems w none idle d next = waited_for s budget es time systems w none idle d next

pub waits_go_on : WaitsGoOn
waits_go_on s leads budget es time systems w none idle d next now later = goes_on s budget es time systems w none idle d next now later
