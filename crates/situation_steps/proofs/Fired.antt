-- After a firing the run goes on.
use Rattle.std.proofs.Common.{◌≡◌, ◌≤◌, ◌+◌, ◌-◌, ℕ, zero, suc, Bool, true, false, List, [], ◌∷◌, ◌++◌, map as each, length, drop, None, refl, sym, ap, subst, cond, ◌∙◌, inl, inr, arith, length-append}
use Rattle.std.specs.Prelude.{◌&&◌, ◌||◌, not, Contains, filter, is_some, nat_eq, nat_lt}
use Rattle.std.specs.Str.{bytes_eq}
use Rattle.std.specs.List.{list_any}
use Rattle.std.specs.FinMap as map
use Rattle.std.specs.Ordering.{eq_by_cmp}
use Rattle.std.proofs.lemmas.List.Sums.{length-filter}
use Rattle.estelle_tree.specs.declared.transition.Pair.{Pair}
use Rattle.estelle_tree.specs.Paths.{Path, is_inside}
use Rattle.estelle_tree.specs.Timers.{Timers, pair, pair_cmp}
use Rattle.estelle_model.specs.declared.effect.Effect.{Effect}
use Rattle.estelle_model.specs.declared.event.Event.{Event}
use Rattle.estelle_model.specs.declared.event.Event.TheVariants.{Fire}
use Rattle.estelle_model.specs.declared.image.Image.{Image}
use Rattle.estelle_model.specs.Core.{Core}
use Rattle.estelle_model.specs.Subject.{Subject}
use Rattle.estelle_model.specs.Situation.{Situation, Acting}
use Rattle.estelle_model.specs.Firing.{Firing, begun, fire, transition_at}
use Rattle.estelle_model.specs.Delays.{is_on}
use Rattle.estelle_model.specs.Runs.{MayFire, HasRun, same_pair, without, fired, next, situation}
use Rattle.estelle_model.specs.Ends.{IsNoFault}
use Rattle.estelle_model.specs.Jobs.{put, taken_by, IsPut}
use Rattle.estelle_model.specs.Schedule.{arrives, awaits, awaits_clock, selects}
use Rattle.estelle_model.proofs.Maps.{equal_of}
use Rattle.estelle_model.proofs.Pairs.{pairs_total, pairs_apart}
use Rattle.estelle_model.proofs.PrivateParts.{remove_empty}
use Rattle.estelle_model_legality.specs.Instances.{LeadsToStates}
use Rattle.estelle_model_legality.specs.Situations.{IsLegal}
use Rattle.estelle_model_legality.proofs.Keeping.{events_keep}
use Rattle.estelle_model_legality.proofs.Lists.{and_both, not_both, not_true, same_path, path_is, number_is, both_and, same_number, or_none}
use Rattle.estelle_model_legality.proofs.Members.{Has, has_contained}
use Rattle.effect_log.specs.Putting.{arrivals}
use Rattle.situation_steps.specs.declared.systems.System.{System}
use Rattle.situation_steps.specs.declared.systems.Time.{Time}
use Rattle.situation_steps.specs.Systems.{systems_of, count_inside, IsKept, after_firing}
use Rattle.situation_steps.specs.Others.{LeavesOthers}
use Rattle.situation_steps.specs.UnderWay.{AreBelowSystems, HasRoot, IsSettled, IsSettledIfDone, IsUnderWay}
use Rattle.situation_steps.specs.Laws.{HasFired, FiringsGoOn}
use Rattle.situation_steps.proofs.Going.{last-push, IsRun-push, situation-push, awaits-push}
use Rattle.estelle_model_apart.proofs.Rest.{SameRest, all_rest, taken_by_core, taken_by_rest}
use Rattle.situation_steps.proofs.Roots.{body_at, has_root, root_body, root_stays}
use Rattle.situation_steps.proofs.Listed.{all_at, all_each}
use Rattle.situation_steps.proofs.Due.{system_listed, listed_system, system_kept, is_kept}
use Rattle.situation_steps.proofs.Others.{firings_leave_others}

-- ---- what is pending without a firing

same_is : (p q : Pair) → same_pair p q ≡ true → q ≡ p
same_is p q e =
    let both = and_both (bytes_eq p.path q.path) (nat_eq p.trans q.trans) e in
    let paths = same_path p.path q.path both.0 in
    let numbers = same_number p.trans q.trans both.1 in
    λ i. record { path = sym paths i; trans = sym numbers i }

is_same : (p q : Pair) → q ≡ p → same_pair p q ≡ true
is_same p q e = ap (same_pair p) e ∙ both_and (bytes_eq p.path p.path) (nat_eq p.trans p.trans) (path_is p.path) (number_is p.trans)

module _ (test : Pair → Bool) (p : Pair) where
  abbrev passing : List Pair → ℕ
  passing ps = length (filter test ps)

  one_more : (q : Pair) (qs : List Pair) → passing (q ∷ qs) ≡ cond (test q) 1 0 + passing qs
  one_more q qs = by (test q)
    where
      by : (b : Bool) → length (cond b (q ∷ filter test qs) (filter test qs)) ≡ cond b 1 0 + passing qs
      by true = omega arith
      by false = omega arith

  -- one that was there no longer counts
  less_one : (ps : List Pair) → Has ps p → cond (test p) 1 0 + passing (without p ps) ≡ passing ps
  less_one [] h = absurd h
  less_one (q ∷ qs) h = by (same_pair p q) refl h (less_one qs)
    where
      by : (b : Bool) → same_pair p q ≡ b → Has (q ∷ qs) p → (Has qs p → cond (test p) 1 0 + passing (without p qs) ≡ passing qs)
          → cond (test p) 1 0 + passing (cond b qs (q ∷ without p qs)) ≡ passing (q ∷ qs)
      by true is h rest = ap (λ (r : Pair). cond (test r) 1 0 + passing qs) (sym (same_is p q is)) ∙ sym (one_more q qs)
      by false is (inl e) rest = absurd (not_both (same_pair p q) (is_same p q e) is)
      by false is (inr h) rest =
          let one = one_more q (without p qs) in
          let all = one_more q qs in
          omega (arith, rest h, one, all)

fewer : (b : Bool) (a n : ℕ) → cond b 1 0 + a ≡ n → cond b (n - 1) n ≡ a
fewer true a n e = omega (arith, e)
fewer false a n e = omega (arith, e)

-- where it is pending, and so many at or below a system
pub count_without : (system : Path) (p : Pair) (ps : List Pair) → Contains ps p → cond (is_inside system p.path) (count_inside system ps - 1) (count_inside system ps) ≡ count_inside system (without p ps)
count_without system p ps c =
    fewer (is_inside system p.path) (count_inside system (without p ps)) (count_inside system ps)
    (ap (λ (k : ℕ). cond (is_inside system p.path) 1 0 + k) (sym (length-filter (λ (q : Pair). is_inside system q.path) (without p ps)))
    ∙ less_one (λ (q : Pair). is_inside system q.path) p ps (has_contained ps p c)
    ∙ length-filter (λ (q : Pair). is_inside system q.path) ps)

-- ---- what awaits a selection

drop_push : (n : ℕ) (es : List Event) (e : Event) → n ≤ length es → drop n (es ++ e ∷ []) ≡ drop n es ++ e ∷ []
drop_push zero es e h = refl
drop_push (suc n) [] e h = absurd (omega (arith, h))
drop_push (suc n) (x ∷ es) e h = drop_push n es e (omega (arith, h))

any_push : (test : Event → Bool) (es : List Event) (e : Event) → test e ≡ false → list_any test (es ++ e ∷ []) ≡ list_any test es
any_push test [] e h = ap (λ b. b || false) h
any_push test (x ∷ es) e h = ap (λ b. test x || b) (any_push test es e h)

clock_push : (system : Path) (waited : ℕ) (es : List Event) (e : Event) → selects system e ≡ false → waited ≤ length es → awaits_clock system waited (es ++ e ∷ []) ≡ awaits_clock system waited es
clock_push system waited es e h within =
    ap (λ (xs : List Event). nat_lt 0 waited && not (list_any (selects system) xs)) (drop_push waited es e within)
    ∙ ap (λ b. nat_lt 0 waited && not b) (any_push (selects system) (drop waited es) e h)

same_either : (b c d e f : Bool) → (b ≡ false → c ≡ d) → (b || (c || (e || f))) ≡ ((b || (d || e)) || f)
same_either true c d e f h = refl
same_either false true d e f h = ap (λ x. (x || e) || f) (h refl)
same_either false false d e f h = ap (λ x. (x || e) || f) (h refl)

-- ---- timers

less_timers : (ts : Timers) (p q : Pair) → map.contains_key (map.remove ts p) q ≡ true → map.contains_key ts q ≡ true
less_timers ts p q h = by (eq_by_cmp pair_cmp q p) (ap is_some (sym (map.get-remove pairs_total ts p q)) ∙ h)
  where
    by : (b : Bool) → is_some (cond b None (map.get ts q)) ≡ true → map.contains_key ts q ≡ true
    by true e = absurd (let wrong : false ≡ true = e in cc)
    by false e = e

equal_is : (p q : Pair) → eq_by_cmp pair_cmp q p ≡ true → q ≡ p
equal_is p q e = pairs_apart q p (equal_of (pair_cmp q p) e)

other_timers : (ts : Timers) (p q : Pair) → (q ≡ p → ⊥) → map.contains_key (map.remove ts p) q ≡ map.contains_key ts q
other_timers ts p q differ = ap is_some (map.get-remove pairs_total ts p q ∙ ap (λ b. cond b None (map.get ts q)) (not_true (eq_by_cmp pair_cmp q p) (λ e. differ (equal_is p q e))))

-- ---- a firing

module _ (s : Subject) (leads : LeadsToStates s) (budget : ℕ) (es : List Event) (time : Time) (systems : List System) (w : IsUnderWay s budget es time systems)
    (m : Path) (n : ℕ) (pending : Contains (situation s budget es).pending (pair m n))
    (g : Situation) (begins : g ≡ taken_by s (situation s budget es) m (transition_at s n (map.get (situation s budget es).core.instances m)))
    (image : Image) (effects : List Effect) (left : ℕ) (p : IsPut s m n g image effects left (fire s budget (situation s budget es) m n)) where
  abbrev h : Situation
  h = situation s budget es

  abbrev a : Acting
  a = put m p.log image.parts (begun g)

  abbrev e : Event
  e = Fire m n a.outs a.drops

  abbrev at : List Path
  at = arrivals p.log (begun g)

  abbrev j : Situation
  j = next s budget h e

  taken_same : SameRest h g
  taken_same = subst (SameRest h) (sym begins) (taken_by_rest s h m (transition_at s n (map.get h.core.instances m)))

  put_same : SameRest g a.situation
  put_same = let r = all_rest p.log (begun g) in record { timers = r.timers; now = r.now; pending = r.pending }

  may : MayFire s budget h m n a.outs a.drops
  may = record { pending = pending; ran = subst (λ (f : Firing). HasRun a.outs a.drops f) (sym p.result) (refl, refl) }

  timers : map.remove a.situation.timers (pair m n) ≡ map.remove h.timers (pair m n)
  timers = ap (λ (ts : Timers). map.remove ts (pair m n)) (put_same.timers ∙ taken_same.timers)

  left_pending : without (pair m n) a.situation.pending ≡ without (pair m n) h.pending
  left_pending = ap (without (pair m n)) (put_same.pending ∙ taken_same.pending)

  next_is : j ≡ record a.situation { timers = map.remove h.timers (pair m n); pending = without (pair m n) h.pending }
  next_is = ap (fired (pair m n) h) p.result ∙ (λ i. record a.situation { timers = timers i; pending = left_pending i })

  next_timers : j.timers ≡ map.remove h.timers (pair m n)
  next_timers = ap (λ (x : Situation). x.timers) next_is

  pushed : situation s budget (es ++ e ∷ []) ≡ j
  pushed = situation-push s budget es e w.run

  others : LeavesOthers s budget h j m at
  others = firings_leave_others s leads budget h w.legal m n pending g begins image effects left p

  below : AreBelowSystems s j
  below q there =
      let b = w.below q (less_timers h.timers (pair m n) q (ap (λ (ts : Timers). map.contains_key ts q) (sym next_timers) ∙ there)) in
      (b.0, listed_system s j b.0 (subst (λ (ps : List Path). Has ps b.0) (sym others.systems) (system_listed s h b.0 b.1)), b.2)

  root : HasRoot j
  root = has_root j (
      ap (λ (x : Situation). body_at [] x.core.instances) next_is
      ∙ root_stays s n g image effects left (fire s budget h m n) m p
      ∙ ap (λ (x : Core). body_at [] x.instances) (ap (λ (x : Situation). x.core) begins ∙ taken_by_core s h m (transition_at s n (map.get h.core.instances m)))
      ∙ root_body h w.root)

  kept : (x : System) → Has systems x → IsKept s budget (es ++ e ∷ []) time.waited (after_firing m at x)
  kept x there =
      let k = is_kept s budget es time systems w x there in
      record {
        awaits =
            ap (λ b. is_inside x.path m || (list_any (is_inside x.path) at || b)) k.awaits
            ∙ same_either (is_inside x.path m) (list_any (is_inside x.path) at) (arrives x.path h j) (awaits s budget x.path es) (awaits_clock x.path time.waited es)
            (λ other. sym (others.arrives x.path (system_kept s budget es time systems w x there) other))
            ∙ (λ i. sym (awaits-push s budget x.path es e w.run) i || sym (clock_push x.path time.waited es e refl w.waited) i);
        pending =
            ap (λ (k : ℕ). cond (is_inside x.path m) (k - 1) k) k.pending
            ∙ count_without x.path (pair m n) h.pending pending
            ∙ ap (count_inside x.path) (sym (ap (λ (y : Situation). y.pending) (pushed ∙ next_is)));
      }

  not_its : (x q : Path) (k : ℕ) → is_inside x m ≡ false → is_inside x q ≡ true → pair q k ≡ pair m n → ⊥
  not_its x q k outside inside same = not_both (is_inside x m) (ap (λ (r : Pair). is_inside x r.path) (sym same) ∙ inside) outside

  settled : (x : System) → Has systems x → IsSettledIfDone s budget j (after_firing m at x)
  settled x there waits none =
      let first = or_none (is_inside x.path m) (list_any (is_inside x.path) at || x.awaits) waits in
      let second = or_none (list_any (is_inside x.path) at) x.awaits first.1 in
      let idle : x.pending ≡ 0 = ap (λ b. cond b (x.pending - 1) x.pending) (sym first.0) ∙ none in
      let before : IsSettled s budget h x.path = all_at (IsSettledIfDone s budget h) systems x w.settled there second.1 idle in
      let same = others.guards x.path (system_kept s budget es time systems w x there) first.0 second.0 in
      record {
        sound = λ q k kind inside faults. before.sound q k kind inside (sym (same q k inside) ∙ faults);
        timed = λ q k inside.
            ap is_on (same q k inside) ∙ before.timed q k inside
            ∙ sym (other_timers h.timers (pair m n) (pair q k) (not_its x.path q k first.0 inside))
            ∙ ap (λ (ts : Timers). map.contains_key ts (pair q k)) (sym next_timers);
      }

  same_paths : (xs : List System) → each (λ (x : System). x.path) (each (after_firing m at) xs) ≡ each (λ (x : System). x.path) xs
  same_paths [] = refl
  same_paths (x ∷ xs) = ap (λ (ps : List Path). x.path ∷ ps) (same_paths xs)

  has_fired : HasFired s budget es time systems m n a at
  has_fired = record {
    under_way = record {
      run = IsRun-push s budget es e w.run w.goes_on may;
      goes_on = subst IsNoFault (sym (last-push es e)) tt;
      legal = subst (IsLegal s) (sym pushed) (events_keep s leads budget h w.legal e may);
      root = subst HasRoot (sym pushed) root;
      below = subst (AreBelowSystems s) (sym pushed) below;
      untimed = λ never. ap (λ (x : Situation). x.timers) pushed ∙ next_timers ∙ ap (λ (ts : Timers). map.remove ts (pair m n)) (w.untimed never) ∙ remove_empty (pair m n);
      no_later =
          let now : (situation s budget (es ++ e ∷ [])).now ≡ h.now = ap (λ (x : Situation). x.now) (pushed ∙ next_is) ∙ put_same.now ∙ taken_same.now in
          omega (arith, now, w.no_later);
      undelayed = w.undelayed;
      waited = omega (arith, w.waited, length-append es (e ∷ []));
      fires_first = λ waited. absurd (let wrong : true ≡ false = waited in cc);
      all = same_paths systems ∙ w.all ∙ sym others.systems ∙ ap (systems_of s) (sym pushed);
      kept = all_each (IsKept s budget (es ++ e ∷ []) time.waited) (after_firing m at) systems kept;
      settled = all_each (IsSettledIfDone s budget (situation s budget (es ++ e ∷ []))) (after_firing m at) systems
          (λ x there. subst (λ (y : Situation). IsSettledIfDone s budget y (after_firing m at x)) (sym pushed) (settled x there));
    };
    situation_is = pushed ∙ next_is;
  }

pub firings_go_on : FiringsGoOn
firings_go_on s leads budget es time systems w m n pending g begins image effects left p = has_fired s leads budget es time systems w m n pending g begins image effects left p
