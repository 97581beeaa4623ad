-- Which transitions a renewal asks, and what it leaves of each timer.
use Rattle.std.proofs.Common.{◌≡◌, ◌⊎◌, ℕ, zero, suc, ◌+◌, ◌<◌, ◌≤◌, Bool, true, false, T, not, List, [], ◌∷◌, ◌++◌, map as each, filter, length, Option, Some, None, refl, sym, ap, subst, cond, ◌∙◌, inl, inr, arith}
use Rattle.std.specs.Prelude.{◌||◌, fold, flat_map}
use Rattle.std.specs.List.{list_any, range_with_len, IsDistinct, AllByRecursion}
use Rattle.std.specs.FinMap as map
use Rattle.std.specs.FinMap.{is_sorted}
use Rattle.std.specs.Cmp.{eq_by_cmp_equiv}
use Rattle.std.specs.Ordering.{eq_by_cmp}
use Rattle.std.proofs.lemmas.Bool.{cases_lt}
use Rattle.std.proofs.lemmas.Option.{slice_get_within}
use Rattle.estelle_tree.specs.declared.transition.Pair.{Pair}
use Rattle.estelle_tree.specs.declared.transition.Wanted.{Wanted}
use Rattle.estelle_tree.specs.Paths.{Path, path_cmp, is_inside}
use Rattle.estelle_tree.specs.Timers.{Timer, Timers, pair, pair_cmp, timer_of}
use Rattle.estelle_tree.specs.Timers as timer
use Rattle.estelle_model.specs.declared.job.Guard.{Guard}
use Rattle.estelle_model.specs.declared.job.Guard.TheVariants.{Off, On, Faulted}
use Rattle.estelle_model.specs.Core.{Instance, Instances}
use Rattle.estelle_model.specs.Transitions.{Transition}
use Rattle.estelle_model.specs.Subject.{Subject, transitions, transition}
use Rattle.estelle_model.specs.Situation.{Situation}
use Rattle.estelle_model.specs.Firing.{transition_at, guard}
use Rattle.estelle_model.specs.Delays.{is_delayed, has_delay, delayed_of, delayed_in, wanted_by, wanted}
use Rattle.estelle_model.proofs.Pairs.{pairs_total, pairs_apart}
use Rattle.estelle_model.proofs.Maps.{left_of, right_of, equal_of}
use Rattle.estelle_model.proofs.PrivateParts.{get_inside}
use Rattle.estelle_model_legality.proofs.Lists.{not_both, not_true}
use Rattle.estelle_model_legality.proofs.Entries.{below_has, entry_found, found_entry}
use Rattle.estelle_model_legality.proofs.Members.{Has, has_each, each_has, has_append, has_filter, filter_has, has_any, any_has}

-- ---- what is in a list

append_left : {A : Type 0} (xs ys : List A) (x : A) → Has xs x → Has (xs ++ ys) x
append_left [] ys x h = absurd h
append_left (z ∷ xs) ys x (inl e) = inl e
append_left (z ∷ xs) ys x (inr h) = inr (append_left xs ys x h)

append_right : {A : Type 0} (xs ys : List A) (x : A) → Has ys x → Has (xs ++ ys) x
append_right [] ys x h = h
append_right (z ∷ xs) ys x h = inr (append_right xs ys x h)

has_flat : {A B : Type 0} (f : A → List B) (xs : List A) (x : A) (y : B) → Has xs x → Has (f x) y → Has (flat_map f xs) y
has_flat f [] x y h k = absurd h
has_flat {A} f (z ∷ xs) x y (inl e) k = append_left (f z) (flat_map f xs) y (subst (λ (v : A). Has (f v) y) (sym e) k)
has_flat f (z ∷ xs) x y (inr h) k = append_right (f z) (flat_map f xs) y (has_flat f xs x y h k)

flat_has : {A B : Type 0} (f : A → List B) (xs : List A) (y : B) → Has (flat_map f xs) y → (x : A) × (Has xs x) × (Has (f x) y)
flat_has f [] y h = absurd h
flat_has f (x ∷ xs) y h = elim (has_append (f x) (flat_map f xs) y h) [
  | inl k ↦ (x, inl refl, k)
  | inr k ↦ let r = flat_has f xs y k in (r.0, inr r.1, r.2)
]

pub range_has : (len a n : ℕ) → a ≤ n → n < a + len → Has (range_with_len a len) n
range_has zero a n low high = absurd (omega arith)
range_has (suc len) a n low high = by (cases_lt a n) (λ less. range_has len (a + 1) n (omega arith) (omega arith))
  where
    by : (a < n) ⊎ (n ≤ a) → (a < n → Has (range_with_len (a + 1) len) n) → Has (range_with_len a (suc len)) n
    by (inl less) rest = inr (rest less)
    by (inr last) rest = inl (omega arith)

has_range : (len a n : ℕ) → Has (range_with_len a len) n → a ≤ n
has_range zero a n h = absurd h
has_range (suc len) a n (inl e) = omega arith
has_range (suc len) a n (inr h) = let more = has_range len (a + 1) n h in omega arith

-- ---- pairs

pub same_pair : (p q : Pair) → eq_by_cmp pair_cmp p q ≡ true → p ≡ q
same_pair p q e = pairs_apart p q (equal_of _ e)

pub pair_itself : (q : Pair) → eq_by_cmp pair_cmp q q ≡ true
pair_itself q = (eq_by_cmp_equiv pairs_total).refl q

-- ---- transitions with a delay

module _ (s : Subject) where
  numbered : (i : Instance) (n : ℕ) (o : Option Transition) → transition s i.body n ≡ o → is_delayed o ≡ true → Has (range_with_len 1 (length (transitions s i.body))) n
  numbered i n None is e = absurd (cc)
  numbered i zero (Some t) is e = absurd (cc)
  numbered i (suc k) (Some t) is e = let less = slice_get_within (transitions s i.body) k t is in range_has (length (transitions s i.body)) 1 (suc k) (omega arith) (omega (arith, less))

  pub of_delayed : (e : Path × Instance) (q : Pair) → Has (delayed_of s e) q → (q.path ≡ e.0) × (is_delayed (transition_at s q.trans (Some e.1)) ≡ true)
  of_delayed e q h =
      let r = has_filter (λ (p : Pair). is_delayed (transition_at s p.trans (Some e.1))) (each (pair e.0) (range_with_len 1 (length (transitions s e.1.body)))) q h in
      let k = each_has (pair e.0) (range_with_len 1 (length (transitions s e.1.body))) q r.0 in
      (ap (λ (p : Pair). p.path) (sym k.2), r.1)

  delayed_is : (m : Path) (i : Instance) (n : ℕ) → is_delayed (transition_at s n (Some i)) ≡ true → Has (delayed_of s (m, i)) (pair m n)
  delayed_is m i n e =
      filter_has (λ (p : Pair). is_delayed (transition_at s p.trans (Some i))) (each (pair m) (range_with_len 1 (length (transitions s i.body)))) (pair m n)
      (has_each (pair m) (range_with_len 1 (length (transitions s i.body))) n (numbered i n (transition s i.body n) refl e)) e

module _ (s : Subject) (g : Situation) (system : Path) where
  abbrev pub inner : Instances
  inner = map.retain_keys g.core.instances (is_inside system)

  cond_some : (b : Bool) (o : Option Instance) (i : Instance) → cond b o None ≡ Some i → (b ≡ true) × (o ≡ Some i)
  cond_some true o i e = (refl, e)
  cond_some false o i e = absurd (cc)

  entry_is : (e : Path × Instance) → Has (map.entries inner) e → (is_inside system e.0 ≡ true) × (map.get g.core.instances e.0 ≡ Some e.1)
  entry_is e has =
      cond_some (is_inside system e.0) (map.get g.core.instances e.0) e.1
      (sym (get_inside g.core.instances system e.0) ∙ map.get-entries inner e.0 ∙ entry_found (map.entries inner) (map.entries_sorted inner) e has)

  is_entry : (m : Path) (i : Instance) → is_inside system m ≡ true → map.get g.core.instances m ≡ Some i → Has (map.entries inner) (m, i)
  is_entry m i inside there =
      found_entry (map.entries inner) m i
      (sym (map.get-entries inner m) ∙ get_inside g.core.instances system m ∙ ap (λ (b : Bool). cond b (map.get g.core.instances m) None) inside ∙ there)

  pub delayed_has : (q : Pair) → is_inside system q.path ≡ true → has_delay s g q.path q.trans ≡ true → Has (delayed_in s g system) q
  delayed_has q inside delayed = by (map.get g.core.instances q.path) refl delayed
    where
      by : (o : Option Instance) → map.get g.core.instances q.path ≡ o → is_delayed (transition_at s q.trans o) ≡ true → Has (delayed_in s g system) q
      by None there e = absurd (cc)
      by (Some i) there e = has_flat (delayed_of s) (map.entries inner) (q.path, i) q (is_entry q.path i inside there) (delayed_is s q.path i q.trans e)

  pub has_delayed : (q : Pair) → Has (delayed_in s g system) q → (is_inside system q.path ≡ true) × (has_delay s g q.path q.trans ≡ true)
  has_delayed q h =
      let r = flat_has (delayed_of s) (map.entries inner) q h in
      let of_entry = entry_is r.0 r.1 in
      let its = of_delayed s r.0 q r.2 in
      (ap (is_inside system) its.0 ∙ of_entry.0, ap (λ (m : Path). is_delayed (transition_at s q.trans (map.get g.core.instances m))) its.0 ∙ ap (λ (o : Option Instance). is_delayed (transition_at s q.trans o)) of_entry.1 ∙ its.1)

-- ---- what is left of one timer

abbrev ties : Pair → Wanted → Bool
ties q w = eq_by_cmp pair_cmp q (pair w.path w.trans)

module _ (now : ℕ) (running : Timers) (q : Pair) where
  abbrev pub renewing : Option Timer → Wanted → Option Timer
  renewing o w = cond (ties q w) (Some (timer_of now running w)) o

  inserted : (ws : List Wanted) (m : Timers) → map.get (fold (λ ts w. map.insert ts (pair w.path w.trans) (timer_of now running w)) m ws) q ≡ fold renewing (map.get m q) ws
  inserted [] m = refl
  inserted (w ∷ ws) m =
      inserted ws (map.insert m (pair w.path w.trans) (timer_of now running w)) ∙ ap (λ o. fold renewing o ws) (map.get-insert pairs_total m (pair w.path w.trans) (timer_of now running w) q)

  -- what its guard leaves
  abbrev pub left_by : Guard → Option Timer → Option Timer
  left_by (On low high) o = Some (timer_of now running (record { path = q.path; trans = q.trans; low = low; high = high }))
  left_by Off o = o
  left_by (Faulted kind) o = o

  left_again : (b : Bool) (x : Guard) (o : Option Timer) → cond b (left_by x (left_by x o)) (left_by x o) ≡ left_by x o
  left_again true (On low high) o = refl
  left_again true Off o = refl
  left_again true (Faulted kind) o = refl
  left_again false x o = refl

  module _ (asks : Pair → Guard) where
    abbrev wants : List Pair → List Wanted
    wants ps = flat_map (λ p. wanted_by p (asks p)) ps

    abbrev with : Pair → Guard → Option Timer → List Wanted → Option Timer
    with p x o ws = fold renewing o (wanted_by p x ++ ws)

    -- the first one asks for it
    first_ties : (p : Pair) (x : Guard) → eq_by_cmp pair_cmp q p ≡ true → (o : Option Timer) (ws : List Wanted) → with p x o ws ≡ fold renewing (left_by x o) ws
    first_ties p (On low high) e o ws =
        ap (λ (t : Option Timer). fold renewing t ws) (ap (λ (b : Bool). cond b (Some (timer_of now running (record { path = p.path; trans = p.trans; low = low; high = high }))) o) e
        ∙ ap (λ (r : Pair). Some (timer_of now running (record { path = r.path; trans = r.trans; low = low; high = high }))) (sym (same_pair q p e)))
    first_ties p Off e o ws = refl
    first_ties p (Faulted kind) e o ws = refl

    -- or another
    first_other : (p : Pair) (x : Guard) → eq_by_cmp pair_cmp q p ≡ false → (o : Option Timer) (ws : List Wanted) → with p x o ws ≡ fold renewing o ws
    first_other p (On low high) e o ws = ap (λ (b : Bool). fold renewing (cond b (Some (timer_of now running (record { path = p.path; trans = p.trans; low = low; high = high }))) o) ws) e
    first_other p Off e o ws = refl
    first_other p (Faulted kind) e o ws = refl

    pub asked_all : (ps : List Pair) (o : Option Timer) → fold renewing o (wants ps) ≡ cond (list_any (eq_by_cmp pair_cmp q) ps) (left_by (asks q) o) o
    asked_all [] o = refl
    asked_all (p ∷ ps) o = by (asked_all ps) (eq_by_cmp pair_cmp q p) refl
      where
        by : ((o : Option Timer) → fold renewing o (wants ps) ≡ cond (list_any (eq_by_cmp pair_cmp q) ps) (left_by (asks q) o) o) → (b : Bool) → eq_by_cmp pair_cmp q p ≡ b → fold renewing o (wanted_by p (asks p) ++ wants ps) ≡ cond (b || list_any (eq_by_cmp pair_cmp q) ps) (left_by (asks q) o) o
        by more true e =
            first_ties p (asks p) e o (wants ps) ∙ more (left_by (asks p) o)
            ∙ ap (λ (r : Pair). cond (list_any (eq_by_cmp pair_cmp q) ps) (left_by (asks q) (left_by (asks r) o)) (left_by (asks r) o)) (sym (same_pair q p e))
            ∙ left_again (list_any (eq_by_cmp pair_cmp q) ps) (asks q) o
        by more false e = first_other p (asks p) e o (wants ps) ∙ more o

module _ (s : Subject) (budget : ℕ) (g : Situation) (system : Path) (now : ℕ) (q : Pair) where
  outside_is : map.get (map.retain_keys g.timers (λ p. not (is_inside system p.path))) q ≡ cond (not (is_inside system q.path)) (map.get g.timers q) None
  outside_is = map.get-retain_keys g.timers (λ p. not (is_inside system p.path)) q (λ x e. ap (λ (p : Pair). not (is_inside system p.path)) (sym (pairs_apart q x e)))

  -- a pair among those with a delay gets what its guard leaves
  pub timer_is : map.get (timer.renewed system now (wanted s budget g system) g.timers) q
      ≡ cond (list_any (eq_by_cmp pair_cmp q) (delayed_in s g system)) (left_by now g.timers q (guard s budget g q.path q.trans) (cond (not (is_inside system q.path)) (map.get g.timers q) None)) (cond (not (is_inside system q.path)) (map.get g.timers q) None)
  timer_is =
      inserted now g.timers q (wanted s budget g system) (map.retain_keys g.timers (λ p. not (is_inside system p.path)))
      ∙ ap (λ o. fold (renewing now g.timers q) o (wanted s budget g system)) outside_is
      ∙ asked_all now g.timers q (λ p. guard s budget g p.path p.trans) (delayed_in s g system) (cond (not (is_inside system q.path)) (map.get g.timers q) None)

  pub among : is_inside system q.path ≡ true → has_delay s g q.path q.trans ≡ true → list_any (eq_by_cmp pair_cmp q) (delayed_in s g system) ≡ true
  among inside delayed = has_any (eq_by_cmp pair_cmp q) (delayed_in s g system) q (delayed_has s g system q inside delayed) (pair_itself q)

  among_is : list_any (eq_by_cmp pair_cmp q) (delayed_in s g system) ≡ true → (is_inside system q.path ≡ true) × (has_delay s g q.path q.trans ≡ true)
  among_is e =
      let r = any_has (eq_by_cmp pair_cmp q) (delayed_in s g system) e in
      has_delayed s g system q (subst (Has (delayed_in s g system)) (sym (same_pair q r.0 r.2)) r.1)

  pub not_among : has_delay s g q.path q.trans ≡ false → list_any (eq_by_cmp pair_cmp q) (delayed_in s g system) ≡ false
  not_among undelayed = not_true _ (λ t. not_both (has_delay s g q.path q.trans) (among_is t).1 undelayed)

  pub not_inside : is_inside system q.path ≡ false → list_any (eq_by_cmp pair_cmp q) (delayed_in s g system) ≡ false
  not_inside outside = not_true _ (λ t. not_both (is_inside system q.path) (among_is t).0 outside)

-- ---- no transition is asked twice

abbrev Differ : {A : Type 0} → List A → Type 0
Differ [] = Unit {0}
Differ {A} (x ∷ xs) = ((y : A) → Has xs y → x ≡ y → ⊥) × Differ xs

distinct : (ps : List Pair) → Differ ps → IsDistinct (eq_by_cmp pair_cmp) ps
unfolding IsDistinct
distinct [] d = tt
distinct (p ∷ ps) d = (all_differ ps (λ q h. h), distinct ps d.1)
  where
    all_differ : (qs : List Pair) → ((q : Pair) → Has qs q → Has ps q) → AllByRecursion (λ q. eq_by_cmp pair_cmp p q ≡ false) qs
    all_differ [] f = tt
    all_differ (q ∷ qs) f = (not_true (eq_by_cmp pair_cmp p q) (λ t. d.0 q (f q (inl refl)) (same_pair p q t)), all_differ qs (λ r h. f r (inr h)))

append_differ : {A : Type 0} (xs ys : List A) → Differ xs → Differ ys → ((x y : A) → Has xs x → Has ys y → x ≡ y → ⊥) → Differ (xs ++ ys)
append_differ [] ys d e f = e
append_differ (x ∷ xs) ys d e f = (
  λ z h is. elim (has_append xs ys z h) [ inl k ↦ d.0 z k is | inr k ↦ f x z (inl refl) k is ],
  append_differ xs ys d.1 e (λ y z h k. f y z (inr h) k),
)

filter_differ : {A : Type 0} (test : A → Bool) (xs : List A) → Differ xs → Differ (filter test xs)
filter_differ test [] d = tt
filter_differ test (x ∷ xs) d = by (test x) (filter_differ test xs d.1)
  where
    by : (b : Bool) → Differ (filter test xs) → Differ (cond b (x ∷ filter test xs) (filter test xs))
    by true rest = (λ y h. d.0 y (has_filter test xs y h).0, rest)
    by false rest = rest

each_differ : {A B : Type 0} (f : A → B) → ((x y : A) → f x ≡ f y → x ≡ y) → (xs : List A) → Differ xs → Differ (each f xs)
each_differ f one [] d = tt
each_differ f one (x ∷ xs) d = (λ y h is. let r = each_has f xs y h in d.0 r.0 r.1 (one x r.0 (is ∙ sym r.2)), each_differ f one xs d.1)

range_differs : (len a : ℕ) → Differ (range_with_len a len)
range_differs zero a = tt
range_differs (suc len) a = (λ n h is. let more = has_range len (a + 1) n h in absurd (omega arith), range_differs len (a + 1))

flat_differ : {A B : Type 0} (f : A → List B) (xs : List A) → ((x : A) → Differ (f x)) → Differ xs → ((x y : A) (z w : B) → Has (f x) z → Has (f y) w → z ≡ w → Has xs x → Has xs y → x ≡ y) → Differ (flat_map f xs)
flat_differ f [] own d one = tt
flat_differ f (x ∷ xs) own d one =
    append_differ (f x) (flat_map f xs) (own x) (flat_differ f xs own d.1 (λ y z v w h k is i j. one y z v w h k is (inr i) (inr j)))
    (λ v w h k is. let r = flat_has f xs w k in d.0 r.0 r.1 (one x r.0 v w h r.2 is (inl refl) (inr r.1)))

entries_differ : (es : List (Path × Instance)) → T (is_sorted path_cmp es) → Differ es
entries_differ [] h = tt
entries_differ (e ∷ es) h = (λ x has is. below_has e.0 es (left_of (map.Entries.below_all path_cmp e.0 es) _ h) x has (ap (λ (y : Path × Instance). y.0) is), entries_differ es (right_of (map.Entries.below_all path_cmp e.0 es) _ h))

module _ (s : Subject) (g : Situation) (system : Path) where
  of_differ : (e : Path × Instance) → Differ (delayed_of s e)
  of_differ e =
      filter_differ (λ (p : Pair). is_delayed (transition_at s p.trans (Some e.1))) (each (pair e.0) (range_with_len 1 (length (transitions s e.1.body))))
      (each_differ (pair e.0) (λ n k is. ap (λ (p : Pair). p.trans) is) (range_with_len 1 (length (transitions s e.1.body))) (range_differs (length (transitions s e.1.body)) 1))

  one_entry : (x y : Path × Instance) → Has (map.entries (inner s g system)) x → Has (map.entries (inner s g system)) y → x.0 ≡ y.0 → x ≡ y
  one_entry x y h k e =
      let a = (entry_is s g system x h).1 in
      let b = (entry_is s g system y k).1 in
      let same : x.1 ≡ y.1 = some_same (sym a ∙ ap (map.get g.core.instances) e ∙ b) in
      λ i. (e i, same i)
    where
      some_same : {i j : Instance} → Some i ≡ Some j → i ≡ j
      some_same h = cc

  delayed_differ : Differ (delayed_in s g system)
  delayed_differ =
      flat_differ (delayed_of s) (map.entries (inner s g system)) of_differ (entries_differ (map.entries (inner s g system)) (map.entries_sorted (inner s g system)))
      (λ x y z w h k is i j. one_entry x y i j (sym (of_delayed s x z h).0 ∙ ap (λ (p : Pair). p.path) is ∙ (of_delayed s y w k).0))

module _ (asks : Pair → Guard) where
  abbrev pairs_of : List Wanted → List Pair
  pairs_of ws = each (λ w. pair w.path w.trans) ws

  wanted_among : (ps : List Pair) (q : Pair) → Has (pairs_of (flat_map (λ p. wanted_by p (asks p)) ps)) q → Has ps q
  wanted_among [] q h = absurd h
  wanted_among (p ∷ ps) q h = by (wanted_among ps q) (asks p) h
    where
      by : (Has (pairs_of (flat_map (λ p. wanted_by p (asks p)) ps)) q → Has ps q) → (x : Guard) → Has (pairs_of (wanted_by p x ++ flat_map (λ p. wanted_by p (asks p)) ps)) q → Has (p ∷ ps) q
      by more (On low high) (inl e) = inl e
      by more (On low high) (inr k) = inr (more k)
      by more Off k = inr (more k)
      by more (Faulted kind) k = inr (more k)

  pairs_differ : (ps : List Pair) → Differ ps → Differ (pairs_of (flat_map (λ p. wanted_by p (asks p)) ps))
  pairs_differ [] d = tt
  pairs_differ (p ∷ ps) d = by (pairs_differ ps d.1) (asks p)
    where
      by : Differ (pairs_of (flat_map (λ p. wanted_by p (asks p)) ps)) → (x : Guard) → Differ (pairs_of (wanted_by p x ++ flat_map (λ p. wanted_by p (asks p)) ps))
      by rest (On low high) = (λ q h. d.0 q (wanted_among ps q h), rest)
      by rest Off = rest
      by rest (Faulted kind) = rest

pub wanted_distinct : (s : Subject) (budget : ℕ) (g : Situation) (system : Path) → IsDistinct (eq_by_cmp pair_cmp) (each (λ w. pair w.path w.trans) (wanted s budget g system))
wanted_distinct s budget g system = distinct (each (λ w. pair w.path w.trans) (wanted s budget g system)) (pairs_differ (λ p. guard s budget g p.path p.trans) (delayed_in s g system) (delayed_differ s g system))
