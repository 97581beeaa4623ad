-- A walk over the rows from the system on finds what is unwanted at and below it.
use Rattle.std.specs.Prelude.{cond}
use Rattle.std.proofs.Common.{◌≡◌, ℕ, Bool, true, false, not, ◌&&◌, ◌||◌, List, [], ◌∷◌, ◌++◌, map as each, filter, is_some, Some, refl, sym, ap, ◌∙◌}
use Rattle.std.specs.Ordering.{is_le, eq_by_cmp}
use Rattle.std.specs.List.{AllByRecursion}
use Rattle.std.specs.List.Sorted.{IsStrictlySortedBy}
use Rattle.std.specs.BTreeMap as tree
use Rattle.std.specs.BTreeMap.Range.{range_contains, entries_between}
use Rattle.std.specs.FinMap as map
use Rattle.std.specs.Map.{keys_of}
use Rattle.std.specs.declared.cmp.Ordering.TheVariants.{Less}
use Rattle.std.specs.declared.ops.Bound.TheVariants.{Included, Unbounded}
use Rattle.std.proofs.lemmas.Map.Keys.{sorted_head, sorted_tail}
use Rattle.estelle_tree.specs.declared.transition.Pair.{Pair}
use Rattle.estelle_tree.specs.Paths.{Path, path_cmp, is_inside}
use Rattle.estelle_tree.specs.Timers.{Timer, Timers, pair, pair_cmp}
use Rattle.delay_timers.specs.declared.kept.Running.{Running}
use Rattle.delay_timers.specs.Kept.{Key, Row, Rows, key_cmp, of_row, of_rows, seen, as_timer}
use Rattle.delay_timers.specs.Renewal.{is_among, unwanted_of, unwanted_run}
use Rattle.delay_timers.proofs.Orders.{pairs_total, same_pair}
use Rattle.delay_timers.proofs.Inside.{inside_after, past}

grouped : (a b c : Bool) → (a || (b || c)) ≡ ((a || b) || c)
grouped true b c = refl
grouped false b c = refl

among_append : (ps rs : List Pair) (q : Pair) → is_among (ps ++ rs) q ≡ (is_among ps q || is_among rs q)
among_append [] rs q = refl
among_append (p ∷ ps) rs q = ap (λ b. eq_by_cmp pair_cmp q p || b) (among_append ps rs q) ∙ grouped (eq_by_cmp pair_cmp q p) (is_among ps q) (is_among rs q)

found : Pair → List (Pair × Timer) → Bool
found q es = is_some (map.find pair_cmp q es)

found_append : (es fs : List (Pair × Timer)) (q : Pair) → found q (es ++ fs) ≡ (found q es || found q fs)
unfolding found
found_append [] fs q = refl
found_append (e ∷ es) fs q =
    elim (eq_by_cmp pair_cmp q e.0) as (λ b. is_some (cond b (Some e.1) (map.find pair_cmp q (es ++ fs))) ≡ (is_some (cond b (Some e.1) (map.find pair_cmp q es)) || is_some (map.find pair_cmp q fs))) [ true ↦ refl | false ↦ found_append es fs q ]

module _ (wanted : Timers) (q : Pair) where
  lacks : Bool
  lacks = not (map.contains_key wanted q)

  hidden : (b : Bool) → b ≡ false → (n : Bool) → (b && n) ≡ (false && n)
  hidden b e n = ap (λ x. x && n) e

  in_row_among : (p : Path) (es : List (ℕ × Running)) → is_among (unwanted_of wanted p (keys_of es)) q ≡ (found q (of_row p es) && lacks)
  unfolding found lacks
  in_row_among p [] = refl
  in_row_among p (e ∷ es) = by (eq_by_cmp pair_cmp q (pair p e.0)) refl (not (map.contains_key wanted (pair p e.0))) refl (in_row_among p es)
    where
      rest : List ℕ
      rest = filter (λ n. not (map.contains_key wanted (pair p n))) (keys_of es)

      both : (b : Bool) → b ≡ false → (x : Bool) → (x && b) ≡ b
      both true e x = absurd (cc)
      both false e true = refl
      both false e false = refl

      by : (t : Bool) → eq_by_cmp pair_cmp q (pair p e.0) ≡ t → (u : Bool) → not (map.contains_key wanted (pair p e.0)) ≡ u → is_among (each (pair p) rest) q ≡ (is_some (map.find pair_cmp q (of_row p es)) && not (map.contains_key wanted q))
          → is_among (each (pair p) (cond u (e.0 ∷ rest) rest)) q ≡ (is_some (cond t (Some (as_timer e.1)) (map.find pair_cmp q (of_row p es))) && not (map.contains_key wanted q))
      by true t true u h = ap (λ b. b || is_among (each (pair p) rest) q) t ∙ sym (ap (λ k. not (map.contains_key wanted k)) (same_pair q (pair p e.0) t) ∙ u)
      by true t false u h = h ∙ both (not (map.contains_key wanted q)) (ap (λ k. not (map.contains_key wanted k)) (same_pair q (pair p e.0) t) ∙ u) (is_some (map.find pair_cmp q (of_row p es)))
      by false t true u h = ap (λ b. b || is_among (each (pair p) rest) q) t ∙ h
      by false t false u h = h

  row_path : (p : Path) (es : List (ℕ × Running)) → found q (of_row p es) ≡ true → q.path ≡ p
  unfolding found
  row_path p [] h = absurd (cc)
  row_path p (e ∷ es) h =
      elim (eq_by_cmp pair_cmp q (pair p e.0)) as (λ b. eq_by_cmp pair_cmp q (pair p e.0) ≡ b → is_some (cond b (Some (as_timer e.1)) (map.find pair_cmp q (of_row p es))) ≡ true → q.path ≡ p) [
        | true ↦ λ t g. ap (λ (x : Pair). x.path) (same_pair q (pair p e.0) t)
        | false ↦ λ t g. row_path p es g
      ] refl h

  module _ (system : Path) where
    here : Bool
    here = is_inside system q.path

    row_in : (p : Path) (es : List (ℕ × Running)) → is_inside system p ≡ true → found q (of_row p es) ≡ true → here ≡ true
    unfolding here
    row_in p es i h = ap (is_inside system) (row_path p es h) ∙ i

    row_out : (p : Path) (es : List (ℕ × Running)) → is_inside system p ≡ false → (here && found q (of_row p es)) ≡ false
    unfolding here
    row_out p es i = by (found q (of_row p es)) refl
      where
        by : (b : Bool) → found q (of_row p es) ≡ b → (is_inside system q.path && b) ≡ false
        by true h = ap (λ b. b && true) (ap (is_inside system) (row_path p es h) ∙ i)
        by false h = elim (is_inside system q.path) as (λ b. (b && false) ≡ false) [ true ↦ refl | false ↦ refl ]

    spread : (a b c : Bool) → (a && b) ≡ false → (a && c) ≡ false → (a && (b || c)) ≡ false
    spread true true c e f = absurd (cc)
    spread true false c e f = f
    spread false b c e f = refl

    rows_out : (es : List (Key × Row)) → AllByRecursion (λ e. is_inside system e.0.items ≡ false) es → (here && found q (of_rows es)) ≡ false
    unfolding here found
    rows_out [] h = elim (is_inside system q.path) as (λ b. (b && false) ≡ false) [ true ↦ refl | false ↦ refl ]
    rows_out (e ∷ es) h =
        ap (λ b. is_inside system q.path && b) (found_append (of_row e.0.items e.1.entries) (of_rows es) q) ∙ spread (is_inside system q.path) (found q (of_row e.0.items e.1.entries)) (found q (of_rows es)) (row_out e.0.items e.1.entries h.0) (rows_out es h.1)

    all_past : (k : Key) (es : List (Key × Row)) → is_le (path_cmp system k.items) ≡ true → is_inside system k.items ≡ false → AllByRecursion (λ y. key_cmp k y ≡ Less) (keys_of es) → AllByRecursion (λ e. is_inside system e.0.items ≡ false) es
    all_past k [] le out h = tt
    all_past k (e ∷ es) le out h = (past system k.items e.0.items le out h.0, all_past k es le out h.1)

    joined : (i f r n : Bool) → (f ≡ true → i ≡ true) → ((f && n) || (i && r && n)) ≡ (i && (f || r) && n)
    joined true true true true h = refl
    joined true true true false h = refl
    joined true true false true h = refl
    joined true true false false h = refl
    joined true false r n h = refl
    joined false true r n h = let e = h refl in absurd (cc)
    joined false false r n h = refl

    over : (i f r n : Bool) → (i && f) ≡ false → (i && r) ≡ false → false ≡ (i && (f || r) && n)
    over i f r n e g = sym (ap (λ b. b && n) (spread i f r e g))

    skipped : (i f r n : Bool) → (i && f) ≡ false → (i && r && n) ≡ (i && (f || r) && n)
    skipped true true r n e = absurd (cc)
    skipped true false r n e = refl
    skipped false f r n e = refl

    certain : (b : Bool) → b ≡ true → (b && true) ≡ true
    certain b e = ap (λ x. x && true) e

    module _ (from : Key) (at : from.items ≡ system) where
      begun : (k : Key) (b : Bool) → is_le (path_cmp system k.items) ≡ b → range_contains key_cmp (Included from) Unbounded k ≡ b
      begun k b e = ap (λ p. is_le (path_cmp p k.items) && true) at ∙ ap (λ x. x && true) e ∙ same b
        where
          same : (b : Bool) → (b && true) ≡ b
          same true = refl
          same false = refl

      walked : (es : List (Key × Row)) → IsStrictlySortedBy key_cmp (keys_of es) → is_among (unwanted_run wanted system (entries_between key_cmp (Included from) Unbounded es)) q ≡ (here && found q (of_rows es) && lacks)
      unfolding here found lacks
      walked [] s = elim (is_inside system q.path) as (λ b. false ≡ (b && false && not (map.contains_key wanted q))) [ true ↦ refl | false ↦ refl ]
      walked (e ∷ es) s = by (walked es (sorted_tail key_cmp e.0 (keys_of es) s)) (is_inside system e.0.items) refl (is_le (path_cmp system e.0.items)) refl
        where
          rest : List (Key × Row)
          rest = entries_between key_cmp (Included from) Unbounded es

          apart : (is_inside system q.path && is_some (map.find pair_cmp q (of_row e.0.items e.1.entries ++ of_rows es)) && not (map.contains_key wanted q)) ≡ (is_inside system q.path && (found q (of_row e.0.items e.1.entries) || found q (of_rows es)) && not (map.contains_key wanted q))
          apart = ap (λ b. is_inside system q.path && b && not (map.contains_key wanted q)) (found_append (of_row e.0.items e.1.entries) (of_rows es) q)

          by : is_among (unwanted_run wanted system rest) q ≡ (is_inside system q.path && is_some (map.find pair_cmp q (of_rows es)) && not (map.contains_key wanted q)) → (i : Bool) → is_inside system e.0.items ≡ i → (r : Bool) → is_le (path_cmp system e.0.items) ≡ r
              → is_among (unwanted_run wanted system (cond (range_contains key_cmp (Included from) Unbounded e.0) (e ∷ rest) rest)) q ≡ (is_inside system q.path && is_some (map.find pair_cmp q (of_row e.0.items e.1.entries ++ of_rows es)) && not (map.contains_key wanted q))
          by tail true i r le =
              ap (λ b. is_among (unwanted_run wanted system (cond b (e ∷ rest) rest)) q) (begun e.0 true (inside_after system e.0.items i))
              ∙ ap (λ b. is_among (cond b (unwanted_of wanted e.0.items (keys_of e.1.entries) ++ unwanted_run wanted system rest) []) q) i
              ∙ among_append (unwanted_of wanted e.0.items (keys_of e.1.entries)) (unwanted_run wanted system rest) q
              ∙ ap (λ b. b || is_among (unwanted_run wanted system rest) q) (in_row_among e.0.items e.1.entries)
              ∙ ap (λ b. (found q (of_row e.0.items e.1.entries) && not (map.contains_key wanted q)) || b) tail
              ∙ joined (is_inside system q.path) (found q (of_row e.0.items e.1.entries)) (found q (of_rows es)) (not (map.contains_key wanted q)) (row_in e.0.items e.1.entries i)
              ∙ sym apart
          by tail false i true le =
              ap (λ b. is_among (unwanted_run wanted system (cond b (e ∷ rest) rest)) q) (begun e.0 true le)
              ∙ ap (λ b. is_among (cond b (unwanted_of wanted e.0.items (keys_of e.1.entries) ++ unwanted_run wanted system rest) []) q) i
              ∙ over (is_inside system q.path) (found q (of_row e.0.items e.1.entries)) (found q (of_rows es)) (not (map.contains_key wanted q)) (row_out e.0.items e.1.entries i)
              (rows_out es (all_past e.0 es le i (sorted_head key_cmp e.0 (keys_of es) s)))
              ∙ sym apart
          by tail false i false le =
              ap (λ b. is_among (unwanted_run wanted system (cond b (e ∷ rest) rest)) q) (begun e.0 false le)
              ∙ tail
              ∙ skipped (is_inside system q.path) (found q (of_row e.0.items e.1.entries)) (found q (of_rows es)) (not (map.contains_key wanted q)) (row_out e.0.items e.1.entries i)
              ∙ sym apart

      pub walk : (rows : Rows) → tree.IsOrdered key_cmp rows → is_among (unwanted_run wanted system (entries_between key_cmp (Included from) Unbounded rows.entries)) q ≡ (is_inside system q.path && map.contains_key (seen rows) q && not (map.contains_key wanted q))
      unfolding here found lacks
      walk rows s = walked rows.entries s ∙ sym (ap (λ o. is_inside system q.path && is_some o && not (map.contains_key wanted q)) (map.get-from_entries pairs_total (of_rows rows.entries) q))

-- the walk is over at the end, and at the first instance that is not inside
pub over_at_end : (wanted : Timers) (system : Path) (es : List (Key × Row)) → es ≡ [] → unwanted_run wanted system es ≡ []
over_at_end wanted system es e = ap (unwanted_run wanted system) e

pub over_past : (wanted : Timers) (system : Path) (es : List (Key × Row)) (e : Key × Row) (t : List (Key × Row)) → es ≡ e ∷ t → is_inside system e.0.items ≡ false → unwanted_run wanted system es ≡ []
over_past wanted system es e t is out = ap (unwanted_run wanted system) is ∙ ap (λ b. cond b (unwanted_of wanted e.0.items (keys_of e.1.entries) ++ unwanted_run wanted system t) []) out

pub ended : (ps rs all : List Pair) → ps ++ rs ≡ all → rs ≡ [] → (q : Pair) → is_among ps q ≡ is_among all q
ended ps rs all e none q = sym (among_append ps [] q ∙ same (is_among ps q)) ∙ ap (λ r. is_among (ps ++ r) q) (sym none) ∙ ap (λ r. is_among r q) e
  where
    same : (b : Bool) → (b || false) ≡ b
    same true = refl
    same false = refl
