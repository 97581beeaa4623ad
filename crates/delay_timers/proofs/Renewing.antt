-- What starts and drops of many timers come to, and that a renewal's do what the standard says.
use Rattle.std.specs.Prelude.{cond}
use Rattle.std.proofs.Common.{◌≡◌, ℕ, zero, suc, Bool, true, false, not, ◌&&◌, ◌||◌, List, [], ◌∷◌, take, map as each, filter, fold, is_some, Some, None, refl, sym, ap, ◌∙◌}
use Rattle.std.specs.Ordering.{eq_by_cmp}
use Rattle.std.specs.Option.{unwrap_or}
use Rattle.std.specs.List.{list_any, IsDistinct, AllByRecursion}
use Rattle.std.specs.FinMap as map
use Rattle.std.specs.declared.option.Option.{Option}
use Rattle.std.proofs.lemmas.Map.Keys.{IsDistinct-head, IsDistinct-tail, IsDistinct-cons}
use Rattle.estelle_tree.specs.declared.transition.Pair.{Pair}
use Rattle.estelle_tree.specs.declared.transition.Wanted.{Wanted}
use Rattle.estelle_tree.specs.Paths.{Path, is_inside}
use Rattle.estelle_tree.specs.Timers.{Timer, Timers, pair_cmp, timer_of, renewed}
use Rattle.delay_timers.specs.Moments.{pair_of}
use Rattle.delay_timers.specs.Renewal.{started, is_among, all_started, CanStart, all_dropped, lacking}
use Rattle.delay_timers.proofs.Orders.{pairs_total, pairs_apart, pairs_turned, same_pair}

abbrev ties : Pair → Wanted → Bool
ties q w = eq_by_cmp pair_cmp q (pair_of w)

-- ---- at one pair

inserted : (f : Wanted → Timer) (ws : List Wanted) (m : Timers) (q : Pair) → map.get (fold (λ ts w. map.insert ts (pair_of w) (f w)) m ws) q ≡ fold (λ o w. cond (ties q w) (Some (f w)) o) (map.get m q) ws
inserted f [] m q = refl
inserted f (w ∷ ws) m q =
    inserted f ws (map.insert m (pair_of w) (f w)) q ∙ ap (λ o. fold (λ o w. cond (ties q w) (Some (f w)) o) o ws) (map.get-insert pairs_total m (pair_of w) (f w) q)

merged : {X : Type 0} (a b : Bool) (x : Option X) → cond b None (cond a None x) ≡ cond (a || b) None x
merged true true x = refl
merged true false x = refl
merged false b x = refl

pub dropped : (ps : List Pair) (m : Timers) (q : Pair) → map.get (all_dropped ps m) q ≡ cond (is_among ps q) None (map.get m q)
dropped [] m q = refl
dropped (p ∷ ps) m q =
    dropped ps (map.remove m p) q ∙ ap (cond (is_among ps q) None) (map.get-remove pairs_total m p q) ∙ merged (eq_by_cmp pair_cmp q p) (is_among ps q) (map.get m q)

-- ---- that they can start

-- what holds of each pair in the list
none_at : Timers → List Wanted → Type 0
none_at m ws = AllByRecursion (λ w. map.get m (pair_of w) ≡ None) ws

still_none : (now : ℕ) (w : Wanted) (m : Timers) (ws : List Wanted) → AllByRecursion (λ p. eq_by_cmp pair_cmp (pair_of w) p ≡ false) (each pair_of ws) → AllByRecursion (λ x. map.get m (pair_of x) ≡ None) ws → AllByRecursion (λ x. map.get (map.insert m (pair_of w) (started now w)) (pair_of x) ≡ None) ws
still_none now w m [] a h = tt
still_none now w m (x ∷ xs) a h =
    (map.get-insert pairs_total m (pair_of w) (started now w) (pair_of x) ∙ ap (λ b. cond b (Some (started now w)) (map.get m (pair_of x))) (pairs_turned (pair_of x) (pair_of w) ∙ a.0) ∙ h.0, still_none now w m xs a.1 h.1)

can_start : (now : ℕ) (ws : List Wanted) (m : Timers) → IsDistinct (eq_by_cmp pair_cmp) (each pair_of ws) → AllByRecursion (λ x. map.get m (pair_of x) ≡ None) ws → CanStart now ws m
can_start now [] m d h = tt
can_start now (w ∷ ws) m d h =
    (h.0, can_start now ws (map.insert m (pair_of w) (started now w)) (IsDistinct-tail (eq_by_cmp pair_cmp) (pair_of w) (each pair_of ws) d) (still_none now w m ws (IsDistinct-head (eq_by_cmp pair_cmp) (pair_of w) (each pair_of ws) d) h.1))

none_yet : (ws : List Wanted) → AllByRecursion (λ x. map.get (map.empty {K = Pair} {X = Timer} {R = pair_cmp}) (pair_of x) ≡ None) ws
none_yet [] = tt
none_yet (w ∷ ws) = (map.get-empty pair_cmp (pair_of w), none_yet ws)

pub all_can : (now : ℕ) (ws : List Wanted) → IsDistinct (eq_by_cmp pair_cmp) (each pair_of ws) → CanStart now ws map.empty
all_can now ws d = can_start now ws map.empty d (none_yet ws)

apart_filtered : (p : Pair) (test : Wanted → Bool) (ws : List Wanted) → AllByRecursion (λ x. eq_by_cmp pair_cmp p x ≡ false) (each pair_of ws) → AllByRecursion (λ x. eq_by_cmp pair_cmp p x ≡ false) (each pair_of (filter test ws))
apart_filtered p test [] h = tt
apart_filtered p test (w ∷ ws) h =
    elim (test w) as (λ b. AllByRecursion (λ x. eq_by_cmp pair_cmp p x ≡ false) (each pair_of (cond b (w ∷ filter test ws) (filter test ws)))) [ true ↦ (h.0, apart_filtered p test ws h.1) | false ↦ apart_filtered p test ws h.1 ]

distinct_filtered : (test : Wanted → Bool) (ws : List Wanted) → IsDistinct (eq_by_cmp pair_cmp) (each pair_of ws) → IsDistinct (eq_by_cmp pair_cmp) (each pair_of (filter test ws))
distinct_filtered test [] d = d
distinct_filtered test (w ∷ ws) d =
    let rest = distinct_filtered test ws (IsDistinct-tail (eq_by_cmp pair_cmp) (pair_of w) (each pair_of ws) d) in
    elim (test w) as (λ b. IsDistinct (eq_by_cmp pair_cmp) (each pair_of (cond b (w ∷ filter test ws) (filter test ws)))) [
      | true ↦ IsDistinct-cons (eq_by_cmp pair_cmp) (pair_of w) (each pair_of (filter test ws)) (apart_filtered (pair_of w) test ws (IsDistinct-head (eq_by_cmp pair_cmp) (pair_of w) (each pair_of ws) d)) rest
      | false ↦ rest
    ]

no_timer : (o : Option Timer) → not (is_some o) ≡ true → o ≡ None
no_timer None e = refl
no_timer (Some t) e = absurd (cc)

none_lacking : (m : Timers) (ws : List Wanted) → AllByRecursion (λ x. map.get m (pair_of x) ≡ None) (lacking m ws)
none_lacking m [] = tt
none_lacking m (w ∷ ws) =
    elim (not (map.contains_key m (pair_of w))) as (λ b. not (map.contains_key m (pair_of w)) ≡ b → AllByRecursion (λ x. map.get m (pair_of x) ≡ None) (cond b (w ∷ lacking m ws) (lacking m ws))) [
      | true ↦ λ e. (no_timer (map.get m (pair_of w)) e, none_lacking m ws)
      | false ↦ λ e. none_lacking m ws
    ] refl

pub lacking_can : (now : ℕ) (m : Timers) (ws : List Wanted) → IsDistinct (eq_by_cmp pair_cmp) (each pair_of ws) → CanStart now (lacking m ws) m
lacking_can now m ws d = can_start now (lacking m ws) m (distinct_filtered (λ w. not (map.contains_key m (pair_of w))) ws d) (none_lacking m ws)

-- ---- undone

-- the first ones
pub first_can : {X : Type 0} (f : X → Wanted) (now : ℕ) (i : ℕ) (xs : List X) (m : Timers) → CanStart now (each f xs) m → CanStart now (each f (take i xs)) m
first_can f now zero xs m h = tt
first_can f now (suc i) [] m h = tt
first_can f now (suc i) (x ∷ xs) m h = (h.0, first_can f now i xs (map.insert m (pair_of (f x)) (started now (f x))) h.1)

none_among : (now : ℕ) (ws : List Wanted) (m : Timers) → CanStart now ws m → (q : Pair) → is_among (each pair_of ws) q ≡ true → map.get m q ≡ None
none_among now [] m h q e = absurd (cc)
none_among now (w ∷ ws) m h q e =
    elim (eq_by_cmp pair_cmp q (pair_of w)) as (λ b. eq_by_cmp pair_cmp q (pair_of w) ≡ b → (b || is_among (each pair_of ws) q) ≡ true → map.get m q ≡ None) [
      | true ↦ λ t g. ap (map.get m) (same_pair q (pair_of w) t) ∙ h.0
      | false ↦ λ t g. sym (map.get-insert pairs_total m (pair_of w) (started now w) q ∙ ap (λ b. cond b (Some (started now w)) (map.get m q)) t) ∙ none_among now ws (map.insert m (pair_of w) (started now w)) h.1 q g
    ] refl e

none_tied : (f : Wanted → Timer) (ws : List Wanted) (q : Pair) (o : Option Timer) → is_among (each pair_of ws) q ≡ false → fold (λ o w. cond (ties q w) (Some (f w)) o) o ws ≡ o
none_tied f [] q o e = refl
none_tied f (w ∷ ws) q o e =
    elim (eq_by_cmp pair_cmp q (pair_of w)) as (λ b. (b || is_among (each pair_of ws) q) ≡ false → fold (λ o w. cond (eq_by_cmp pair_cmp q (pair_of w)) (Some (f w)) o) (cond b (Some (f w)) o) ws ≡ o) [
      | true ↦ λ g. absurd (cc)
      | false ↦ λ g. none_tied f ws q o g
    ] e

pub all_undone : (now : ℕ) (ws : List Wanted) (m : Timers) → CanStart now ws m → all_dropped (each pair_of ws) (all_started now ws m) ≡ m
all_undone now ws m h =
    map.same_map pairs_total pairs_apart _ _ (λ q.
    dropped (each pair_of ws) (all_started now ws m) q
    ∙ elim (is_among (each pair_of ws) q) as (λ b. is_among (each pair_of ws) q ≡ b → cond b None (map.get (all_started now ws m) q) ≡ map.get m q) [
      | true ↦ λ e. sym (none_among now ws m h q e)
      | false ↦ λ e. inserted (started now) ws m q ∙ none_tied (started now) ws q (map.get m q) e
    ] refl)

-- ---- renewed

module _ (now : ℕ) (m : Timers) (q : Pair) where
  abbrev fresh : Option Timer → Wanted → Option Timer
  fresh o w = cond (ties q w) (Some (started now w)) o

  abbrev renewing : Option Timer → Wanted → Option Timer
  renewing o w = cond (ties q w) (Some (timer_of now m w)) o

  at_tie : (w : Wanted) → ties q w ≡ true → map.get m (pair_of w) ≡ map.get m q
  at_tie w e = ap (map.get m) (sym (same_pair q (pair_of w) e))

  -- a timer that runs does not start again
  none_fresh : (t : Timer) → map.get m q ≡ Some t → (ws : List Wanted) (o : Option Timer) → fold fresh o (lacking m ws) ≡ o
  none_fresh t is [] o = refl
  none_fresh t is (w ∷ ws) o =
      elim (not (map.contains_key m (pair_of w))) as (λ b. not (map.contains_key m (pair_of w)) ≡ b → fold fresh o (cond b (w ∷ lacking m ws) (lacking m ws)) ≡ o) [
        | true ↦ λ e. ap (λ x. fold fresh x (lacking m ws)) (off e (ties q w) refl) ∙ none_fresh t is ws o
        | false ↦ λ e. none_fresh t is ws o
      ] refl
    where
      off : not (map.contains_key m (pair_of w)) ≡ true → (b : Bool) → ties q w ≡ b → fresh o w ≡ o
      off e true g = let h = ap (λ (x : Option Timer). not (is_some x)) (at_tie w g ∙ is) in absurd (cc)
      off e false g = ap (λ b. cond b (Some (started now w)) o) g

  abbrev any : List Wanted → Bool
  any ws = list_any (ties q) ws

  -- and is kept
  runs_on : (t : Timer) → map.get m q ≡ Some t → (ws : List Wanted) (o : Option Timer) → fold renewing o ws ≡ cond (any ws) (Some t) o
  runs_on t is [] o = refl
  runs_on t is (w ∷ ws) o = runs_on t is ws (renewing o w) ∙ step (ties q w) refl
    where
      step : (b : Bool) → ties q w ≡ b → cond (any ws) (Some t) (renewing o w) ≡ cond (b || any ws) (Some t) o
      step true e =
          ap (λ (b : Bool). cond (list_any (ties q) ws) (Some t) (cond b (Some (timer_of now m w)) o)) e
          ∙ ap (λ (x : Option Timer). cond (list_any (ties q) ws) (Some t) (Some (unwrap_or x (started now w)))) (at_tie w e ∙ is) ∙ same (list_any (ties q) ws)
        where
          same : (b : Bool) → ◌≡◌ {A = Option Timer} (cond b (Some t) (Some t)) (Some t)
          same true = refl
          same false = refl
      step false e = ap (λ (b : Bool). cond (list_any (ties q) ws) (Some t) (cond b (Some (timer_of now m w)) o)) e

  -- without a timer the wanted transition gets one
  gets_one : map.get m q ≡ None → (ws : List Wanted) (o : Option Timer) → fold fresh o (lacking m ws) ≡ fold renewing o ws
  gets_one none [] o = refl
  gets_one none (w ∷ ws) o =
      elim (not (map.contains_key m (pair_of w))) as (λ b. not (map.contains_key m (pair_of w)) ≡ b → fold fresh o (cond b (w ∷ lacking m ws) (lacking m ws)) ≡ fold renewing (renewing o w) ws) [
        | true ↦ λ e. gets_one none ws (fresh o w) ∙ ap (λ x. fold renewing x ws) (on (ties q w) refl)
        | false ↦ λ e. gets_one none ws o ∙ ap (λ x. fold renewing x ws) (sym (off e (ties q w) refl))
      ] refl
    where
      on : (b : Bool) → ties q w ≡ b → fresh o w ≡ renewing o w
      on true e = ap (λ (x : Option Timer). cond (ties q w) (Some (unwrap_or x (started now w))) o) (sym (at_tie w e ∙ none))
      on false e = ap (λ b. cond b (Some (started now w)) o) e ∙ sym (ap (λ b. cond b (Some (timer_of now m w)) o) e)

      off : not (map.contains_key m (pair_of w)) ≡ false → (b : Bool) → ties q w ≡ b → renewing o w ≡ o
      off e true g = let h = ap (λ (x : Option Timer). not (is_some x)) (at_tie w g ∙ none) in absurd (cc)
      off e false g = ap (λ b. cond b (Some (timer_of now m w)) o) g

  -- what is wanted
  some_any : (ws : List Wanted) (o : Option Timer) → is_some (fold fresh o ws) ≡ (any ws || is_some o)
  some_any [] o = refl
  some_any (w ∷ ws) o = some_any ws (fresh o w) ∙ step (ties q w) refl
    where
      step : (b : Bool) → ties q w ≡ b → (any ws || is_some (fresh o w)) ≡ ((b || any ws) || is_some o)
      step true e = ap (λ (b : Bool). list_any (ties q) ws || is_some (cond b (Some (started now w)) o)) e ∙ last (list_any (ties q) ws)
        where
          last : (b : Bool) → (b || true) ≡ true
          last true = refl
          last false = refl
      step false e = ap (λ (b : Bool). list_any (ties q) ws || is_some (cond b (Some (started now w)) o)) e

is_not : (b : Bool) → (b || false) ≡ b
is_not true = refl
is_not false = refl

decided : (inside wanted : Bool) (t : Timer) → ◌≡◌ {A = Option Timer} (cond (inside && true && not wanted) None (Some t)) (cond wanted (Some t) (cond (not inside) (Some t) None))
decided true true t = refl
decided true false t = refl
decided false true t = refl
decided false false t = refl

nothing : (inside wanted : Bool) (o : Option Timer) → cond (inside && false && not wanted) None o ≡ o
nothing true wanted o = refl
nothing false wanted o = refl

none_left : (b : Bool) → ◌≡◌ {A = Option Timer} (cond b None None) None
none_left true = refl
none_left false = refl

pub renewal : (system : Path) (now : ℕ) (ws : List Wanted) (stale : List Pair) (m : Timers)
    → ((q : Pair) → is_among stale q ≡ (is_inside system q.path && map.contains_key m q && not (map.contains_key (all_started now ws map.empty) q)))
    → all_dropped stale (all_started now (lacking m ws) m) ≡ renewed system now ws m
renewal system now ws stale m among = map.same_map pairs_total pairs_apart _ _ at
  where
    wanted : (q : Pair) → map.contains_key (all_started now ws map.empty) q ≡ any now m q ws
    wanted q =
        ap is_some (inserted (started now) ws map.empty q) ∙ ap (λ o. is_some (fold (λ o w. cond (ties q w) (Some (started now w)) o) o ws)) (map.get-empty pair_cmp q) ∙ some_any now m q ws None ∙ is_not (list_any (ties q) ws)

    left : (q : Pair) → map.get (map.retain_keys m (λ p. not (is_inside system p.path))) q ≡ cond (not (is_inside system q.path)) (map.get m q) None
    left q = map.get-retain_keys m (λ p. not (is_inside system p.path)) q (λ x e. ap (λ (p : Pair). not (is_inside system p.path)) (sym (pairs_apart q x e)))

    right : (q : Pair) → map.get (renewed system now ws m) q ≡ fold (renewing now m q) (cond (not (is_inside system q.path)) (map.get m q) None) ws
    right q = inserted (timer_of now m) ws (map.retain_keys m (λ p. not (is_inside system p.path))) q ∙ ap (λ o. fold (λ o w. cond (ties q w) (Some (timer_of now m w)) o) o ws) (left q)

    begun : (q : Pair) → map.get (all_dropped stale (all_started now (lacking m ws) m)) q ≡ cond (is_inside system q.path && is_some (map.get m q) && not (any now m q ws)) None (fold (fresh now m q) (map.get m q) (lacking m ws))
    begun q =
        dropped stale (all_started now (lacking m ws) m) q
        ∙ ap (λ b. cond b None (map.get (all_started now (lacking m ws) m) q)) (among q ∙ ap (λ b. is_inside system q.path && is_some (map.get m q) && not b) (wanted q))
        ∙ ap (cond (is_inside system q.path && is_some (map.get m q) && not (any now m q ws)) None) (inserted (started now) (lacking m ws) m q)

    by : (q : Pair) (o : Option Timer) → map.get m q ≡ o → cond (is_inside system q.path && is_some (map.get m q) && not (any now m q ws)) None (fold (fresh now m q) (map.get m q) (lacking m ws)) ≡ fold (renewing now m q) (cond (not (is_inside system q.path)) (map.get m q) None) ws
    by q None e =
        ap (λ (x : Option Timer). cond (is_inside system q.path && is_some x && not (any now m q ws)) None (fold (fresh now m q) x (lacking m ws))) e
        ∙ nothing (is_inside system q.path) (any now m q ws) (fold (fresh now m q) None (lacking m ws))
        ∙ gets_one now m q e ws None
        ∙ ap (λ o. fold (renewing now m q) o ws) (sym (ap (λ (x : Option Timer). cond (not (is_inside system q.path)) x None) e ∙ none_left (not (is_inside system q.path))))
    by q (Some t) e =
        ap (λ (x : Option Timer). cond (is_inside system q.path && is_some x && not (any now m q ws)) None (fold (fresh now m q) x (lacking m ws))) e
        ∙ ap (cond (is_inside system q.path && true && not (any now m q ws)) None) (none_fresh now m q t e ws (Some t))
        ∙ decided (is_inside system q.path) (any now m q ws) t
        ∙ ap (λ (x : Option Timer). cond (any now m q ws) (Some t) (cond (not (is_inside system q.path)) x None)) (sym e)
        ∙ sym (runs_on now m q t e ws (cond (not (is_inside system q.path)) (map.get m q) None))

    at : (q : Pair) → map.get (all_dropped stale (all_started now (lacking m ws) m)) q ≡ map.get (renewed system now ws m) q
    at q = begun q ∙ by q (map.get m q) refl ∙ sym (right q)
