-- The least moment of a map of timers.
use Rattle.std.specs.Prelude.{cond, IfSome, T, ◌&&◌}
use Rattle.std.specs.FinMap.{is_sorted}
use Rattle.std.specs.FinMap.Entries.{below_all}
use Rattle.std.specs.Option.{unwrap_or}
use Rattle.std.proofs.Common.{◌≡◌, ℕ, zero, suc, ◌≤◌, ◌<◌, min, Bool, true, false, List, [], ◌∷◌, length, map as each, fold, Some, None, arith, refl, sym, ap, subst, ◌∙◌}
use Rattle.std.proofs.Math.Nat.{min-le_left, min-le_right}
use Rattle.std.specs.Ordering.{is_eq, is_gt, is_lt, nat_cmp, ordering_then, eq_by_cmp}
use Rattle.std.specs.Option.{option_map}
use Rattle.std.specs.List.{list_any}
use Rattle.std.specs.BTreeSet as sorted
use Rattle.std.specs.BTreeSet.{BTreeSet}
use Rattle.std.specs.FinMap as map
use Rattle.std.specs.declared.option.Option.{Option}
use Rattle.std.specs.declared.cmp.Ordering.{Ordering}
use Rattle.std.specs.declared.cmp.Ordering.TheVariants.{Less, Equal, Greater}
use Rattle.std.proofs.lemmas.Map.Keys.{le_from_not_gt}
use Rattle.std.proofs.lemmas.Bool.{eqb-true, eq-eqb}
use Rattle.estelle_tree.specs.declared.transition.Pair.{Pair}
use Rattle.estelle_tree.specs.Timers.{Timer, pair, pair_cmp, due, least, next_due}
use Rattle.delay_timers.specs.declared.kept.Running.{Running}
use Rattle.delay_timers.specs.declared.kept.Due.{Due}
use Rattle.delay_timers.specs.Kept.{Rows, running_at, as_timer, seen, due_cmp, is_due, IsKept}
use Rattle.delay_timers.proofs.Orders.{pair_itself, same_pair}
use Rattle.delay_timers.proofs.Seen.{get_seen}

T_left : (a b : Bool) → T (a && b) → T a
T_left true b p = tt
T_left false b p = p

T_right : (a b : Bool) → T (a && b) → T b
T_right true b p = p
T_right false b p = absurd p

-- d is at most each number of the list
AtMostEach : ℕ → List ℕ → Type 0
AtMostEach d [] = Unit {0}
AtMostEach d (n ∷ ns) = (d ≤ n) × AtMostEach d ns

at_least : (d a : ℕ) (ns : List ℕ) → d ≤ a → AtMostEach d ns → d ≤ fold min a ns
unfolding AtMostEach
at_least d a [] h hs = h
at_least d a (n ∷ ns) h hs = at_least d (min a n) ns (both d a n h hs.0) hs.1
  where
    both : (d a n : ℕ) → d ≤ a → d ≤ n → d ≤ min a n
    both d a n h g = grind arith

at_most : (a : ℕ) (ns : List ℕ) → fold min a ns ≤ a
at_most a [] = omega arith
at_most a (n ∷ ns) = let h = at_most (min a n) ns in let g = min-le_left a n in omega arith

equal_to : (a b : ℕ) → a ≤ b → b ≤ a → a ≡ b
equal_to a b h g = omega arith

-- ---- of entries

moments : List (Pair × Timer) → List ℕ
moments es = each (λ (t : Timer). due t) (each (λ (e : Pair × Timer). e.1) es)

some_equal : (x y : Timer) → Some x ≡ Some y → due x ≡ due y
some_equal x y e = ap (λ (o : Option Timer). due (unwrap_or o x)) e

never : {x : Timer} {o : Option Timer} → Some x ≡ o → o ≡ None → ⊥
never e f = absurd (cc)

found_here : (e : Pair × Timer) (es : List (Pair × Timer)) → map.find pair_cmp e.0 (e ∷ es) ≡ Some e.1
found_here e es = ap (λ b. cond b (Some e.1) (map.find pair_cmp e.0 es)) (pair_itself e.0)

-- no later entry has the key of the first one
none_after : (k : Pair) (es : List (Pair × Timer)) → T (below_all pair_cmp k es) → map.find pair_cmp k es ≡ None
none_after k [] h = refl
none_after k (e ∷ es) h = ap (λ b. cond b (Some e.1) (map.find pair_cmp k es)) (apart (pair_cmp k e.0) (T_left (is_lt (pair_cmp k e.0)) _ h)) ∙ none_after k es (T_right (is_lt (pair_cmp k e.0)) _ h)
  where
    apart : (r : Ordering) → T (is_lt r) → is_eq r ≡ false
    apart Less h = refl
    apart Equal h = absurd h
    apart Greater h = refl

found_later : (e : Pair × Timer) (es : List (Pair × Timer)) → T (below_all pair_cmp e.0 es) → (q : Pair) (t : Timer) → map.find pair_cmp q es ≡ Some t → map.find pair_cmp q (e ∷ es) ≡ Some t
found_later e es below q t h =
    elim (eq_by_cmp pair_cmp q e.0) as (λ b. eq_by_cmp pair_cmp q e.0 ≡ b → cond b (Some e.1) (map.find pair_cmp q es) ≡ Some t) [
      | true ↦ λ at. absurd (never (sym h) (ap (λ k. map.find pair_cmp k es) (same_pair q e.0 at) ∙ none_after e.0 es below))
      | false ↦ λ off. h
    ] refl

-- what is at most the moment of each timer that is found is at most each moment
at_most_each : (d : ℕ) (es : List (Pair × Timer)) → T (is_sorted pair_cmp es) → ((q : Pair) (t : Timer) → map.find pair_cmp q es ≡ Some t → d ≤ due t) → AtMostEach d (moments es)
unfolding AtMostEach moments
at_most_each d [] s h = tt
at_most_each d (e ∷ es) s h = (h e.0 e.1 (found_here e es), at_most_each d es (T_right (below_all pair_cmp e.0 es) _ s) (λ q t f. h q t (found_later e es (T_left (below_all pair_cmp e.0 es) _ s) q t f)))

reached : (d a : ℕ) (es : List (Pair × Timer)) (q : Pair) (t : Timer) → map.find pair_cmp q es ≡ Some t → due t ≡ d → fold min a (moments es) ≤ d
unfolding moments
reached d a [] q t f e = absurd (never (sym f) refl)
reached d a (x ∷ xs) q t f e =
    elim (eq_by_cmp pair_cmp q x.0) as (λ b. cond b (Some x.1) (map.find pair_cmp q xs) ≡ Some t → fold min (min a (due x.1)) (moments xs) ≤ d) [
      | true ↦ λ g. let h = at_most (min a (due x.1)) (moments xs) in let i = min-le_right a (due x.1) in let j = some_equal x.1 t g in omega arith
      | false ↦ λ g. reached d (min a (due x.1)) xs q t g e
    ] f

least_is : (d : ℕ) (es : List (Pair × Timer)) → T (is_sorted pair_cmp es) → (q : Pair) (t : Timer) → map.find pair_cmp q es ≡ Some t → due t ≡ d → ((q : Pair) (t : Timer) → map.find pair_cmp q es ≡ Some t → d ≤ due t) → least (moments es) ≡ Some d
unfolding moments AtMostEach
least_is d [] s q t f e h = absurd (never (sym f) refl)
least_is d (x ∷ xs) s q t f e h =
    let all = at_most_each d (x ∷ xs) s h in
    ap (λ (n : ℕ). Some n)
    (equal_to (fold min (due x.1) (moments xs)) d
    (elim (eq_by_cmp pair_cmp q x.0) as (λ b. cond b (Some x.1) (map.find pair_cmp q xs) ≡ Some t → fold min (due x.1) (moments xs) ≤ d) [
      | true ↦ λ g. let i = at_most (due x.1) (moments xs) in let j = some_equal x.1 t g in omega arith
      | false ↦ λ g. reached d (due x.1) xs q t g e
    ] f)
    (at_least d (due x.1) (moments xs) all.0 all.1))

no_entries : (es : List (Pair × Timer)) → ((q : Pair) → map.find pair_cmp q es ≡ None) → least (moments es) ≡ None
unfolding moments
no_entries [] h = refl
no_entries (e ∷ es) h = absurd (never (sym (found_here e es)) (h e.0))

-- ---- of the rows and their moments

due_of : Pair → Running → Due
due_of q r = record { moment = due (as_timer r); path = r.path; trans = q.trans }

module _ (rows : Rows) (dues : BTreeSet Due) (k : IsKept rows dues) where
  is_told : (q : Pair) (r : Running) → running_at rows q ≡ Some r → sorted.contains due_cmp dues (due_of q r) ≡ true
  unfolding due_of
  is_told q r e =
      let own : r.path.items ≡ q.path = subst (λ (o : Option Running). IfSome o (λ x. x.path.items ≡ q.path)) e (k.own q) in
      k.told (due_of q r) ∙ ap (λ p. is_due (due (as_timer r)) (running_at rows (pair p q.trans))) own ∙ ap (is_due (due (as_timer r))) e ∙ eq-eqb _ _ refl

  found_as : (q : Pair) → map.find pair_cmp q (map.entries (seen rows)) ≡ option_map as_timer (running_at rows q)
  found_as q = sym (map.get-entries (seen rows) q) ∙ get_seen rows k.ordered q

  nothing_runs : length dues.keys ≡ 0 → (q : Pair) → running_at rows q ≡ None
  nothing_runs none q = by (running_at rows q) refl
    where
      empty : (test : Due → Bool) (ds : List Due) → length ds ≡ 0 → list_any test ds ≡ false
      empty test [] e = refl
      empty test (d ∷ ds) e = absurd (omega arith)

      by : (o : Option Running) → running_at rows q ≡ o → o ≡ None
      by None e = refl
      by (Some r) e = let a = is_told q r e in let b = empty (λ d. is_eq (due_cmp (due_of q r) d)) dues.keys none in absurd (cc)

  pub none_due : length dues.keys ≡ 0 → next_due (seen rows) ≡ None
  unfolding moments
  none_due none = no_entries (map.entries (seen rows)) (λ q. found_as q ∙ ap (option_map as_timer) (nothing_runs none q))

  below : (d : Due) → sorted.IsLowerBound due_cmp dues d → (q : Pair) (r : Running) → running_at rows q ≡ Some r → d.moment ≤ due (as_timer r)
  unfolding due_of
  below d least q r e = le_from_not_gt _ _ (first (nat_cmp d.moment (due (as_timer r))) _ (least (due_of q r) (is_told q r e)))
    where
      first : (a b : Ordering) → is_gt (ordering_then a b) ≡ false → is_gt a ≡ false
      first Less b e = refl
      first Equal b e = refl
      first Greater b e = e

  below_found : (d : Due) → sorted.IsLowerBound due_cmp dues d → (q : Pair) (t : Timer) → map.find pair_cmp q (map.entries (seen rows)) ≡ Some t → d.moment ≤ due t
  below_found d least q t f = by (running_at rows q) refl (sym (found_as q) ∙ f)
    where
      by : (o : Option Running) → running_at rows q ≡ o → option_map as_timer (running_at rows q) ≡ Some t → d.moment ≤ due t
      by None e g = absurd (never (sym g) (ap (option_map as_timer) e))
      by (Some r) e g = subst (λ n. d.moment ≤ n) (some_equal (as_timer r) t (sym (ap (option_map as_timer) e) ∙ g)) (below d least q r e)

  pub some_due : (d : Due) → sorted.contains due_cmp dues d ≡ true → sorted.IsLowerBound due_cmp dues d → next_due (seen rows) ≡ Some d.moment
  unfolding moments
  some_due d has least = by (running_at rows (pair d.path.items d.trans)) refl
    where
      by : (o : Option Running) → running_at rows (pair d.path.items d.trans) ≡ o → next_due (seen rows) ≡ Some d.moment
      by None e = let a = sym has ∙ k.told d ∙ ap (is_due d.moment) e in absurd (cc)
      by (Some r) e =
          let is = sym (k.told d ∙ ap (is_due d.moment) e) ∙ has in
          least_is d.moment (map.entries (seen rows)) (map.entries_sorted (seen rows)) (pair d.path.items d.trans) (as_timer r)
          (found_as (pair d.path.items d.trans) ∙ ap (option_map as_timer) e) (sym (eqb-true _ _ is)) (below_found d least)

pub no_more : (n : ℕ) → (0 < n → false ≡ true) → n ≡ 0
no_more zero h = refl
no_more (suc n) h = let e = h (omega arith) in absurd (cc)
