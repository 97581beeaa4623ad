-- What the rows have at a pair is what the map has there that they are seen as.
use Rattle.std.specs.Prelude.{cond}
use Rattle.std.proofs.Common.{◌≡◌, ℕ, Bool, true, false, List, [], ◌∷◌, ◌++◌, Some, None, refl, sym, ap, ◌∙◌}
use Rattle.std.specs.Ordering.{is_eq, nat_cmp, eq_by_cmp}
use Rattle.std.specs.Option.{option_map, option_copied, option_or}
use Rattle.std.specs.List.{AllByRecursion}
use Rattle.std.specs.List.Sorted.{IsStrictlySortedBy}
use Rattle.std.specs.BTreeMap as tree
use Rattle.std.specs.FinMap as map
use Rattle.std.specs.Map.{lookup, keys_of}
use Rattle.std.specs.declared.option.Option.{Option}
use Rattle.std.specs.declared.cmp.Ordering.TheVariants.{Less}
use Rattle.std.proofs.lemmas.Map.Keys.{sorted_head, sorted_tail}
use Rattle.std.proofs.Common.{Bor}
use Rattle.estelle_tree.specs.declared.transition.Pair.{Pair}
use Rattle.estelle_tree.specs.Paths.{Path, path_cmp}
use Rattle.estelle_tree.specs.Timers.{Timer, pair_cmp}
use Rattle.delay_timers.specs.declared.kept.Running.{Running}
use Rattle.delay_timers.specs.Kept.{Key, Row, Rows, key_cmp, in_row, running_at, as_timer, of_row, of_rows, seen}
use Rattle.delay_timers.proofs.Orders.{same_path, by_parts, pairs_total, pairs_apart}

-- at the path of a row
found : (p : Path) (q : Pair) → is_eq (path_cmp q.path p) ≡ true → (es : List (ℕ × Running)) (rest : List (Pair × Timer))
    → map.find pair_cmp q (of_row p es ++ rest) ≡ option_or (option_map as_timer (lookup (λ k. is_eq (nat_cmp q.trans k)) es)) (map.find pair_cmp q rest)
found p q at [] rest = refl
found p q at (e ∷ es) rest =
    ap (λ b. cond b (Some (as_timer e.1)) (map.find pair_cmp q (of_row p es ++ rest))) (by_parts (path_cmp q.path p) (nat_cmp q.trans e.0) true at)
    ∙ elim (is_eq (nat_cmp q.trans e.0)) as (λ b. cond b (Some (as_timer e.1)) (map.find pair_cmp q (of_row p es ++ rest)) ≡ option_or (option_map as_timer (cond b (Some e.1) (lookup (λ k. is_eq (nat_cmp q.trans k)) es))) (map.find pair_cmp q rest)) [
      | true ↦ refl
      | false ↦ found p q at es rest
    ]

-- and at another path
passed : (p : Path) (q : Pair) → is_eq (path_cmp q.path p) ≡ false → (es : List (ℕ × Running)) (rest : List (Pair × Timer)) → map.find pair_cmp q (of_row p es ++ rest) ≡ map.find pair_cmp q rest
passed p q off [] rest = refl
passed p q off (e ∷ es) rest =
    ap (λ b. cond b (Some (as_timer e.1)) (map.find pair_cmp q (of_row p es ++ rest))) (by_parts (path_cmp q.path p) (nat_cmp q.trans e.0) false off) ∙ passed p q off es rest

-- no later row has the path of the first one
none_later : (k : Key) (p : Path) → is_eq (path_cmp p k.items) ≡ true → (es : List (Key × Row)) → AllByRecursion (λ y. key_cmp k y ≡ Less) (keys_of es) → lookup (λ y. is_eq (path_cmp p y.items)) es ≡ None
none_later k p at [] h = refl
none_later k p at (e ∷ es) h =
    ap (λ b. cond b (Some e.1) (lookup (λ y. is_eq (path_cmp p y.items)) es)) (ap (λ r. is_eq (path_cmp r e.0.items)) (same_path p k.items at) ∙ ap is_eq h.0) ∙ none_later k p at es h.1

kept : {X : Type 0} (x y : Option X) → y ≡ None → option_or x y ≡ x
kept None y e = e
kept (Some x) y e = refl

pub find_rows : (es : List (Key × Row)) → IsStrictlySortedBy key_cmp (keys_of es) → (q : Pair) → map.find pair_cmp q (of_rows es) ≡ option_map as_timer (in_row q.trans (lookup (λ k. is_eq (path_cmp q.path k.items)) es))
find_rows [] s q = refl
find_rows (e ∷ es) s q =
    let rest = find_rows es (sorted_tail key_cmp e.0 (keys_of es) s) q in
    elim (is_eq (path_cmp q.path e.0.items)) as (λ b. is_eq (path_cmp q.path e.0.items) ≡ b → map.find pair_cmp q (of_row e.0.items e.1.entries ++ of_rows es) ≡ option_map as_timer (in_row q.trans (cond b (Some e.1) (lookup (λ k. is_eq (path_cmp q.path k.items)) es)))) [
      | true ↦ λ at. found e.0.items q at e.1.entries (of_rows es)
          ∙ kept _ _ (rest ∙ ap (λ r. option_map as_timer (in_row q.trans r)) (none_later e.0 q.path at es (sorted_head key_cmp e.0 (keys_of es) s)))
      | false ↦ λ off. passed e.0.items q off e.1.entries (of_rows es) ∙ rest
    ] refl

pub get_seen : (rows : Rows) → tree.IsOrdered key_cmp rows → (q : Pair) → map.get (seen rows) q ≡ option_map as_timer (running_at rows q)
get_seen rows s q = map.get-from_entries pairs_total (of_rows rows.entries) q ∙ find_rows rows.entries s q

-- ---- changes

pub seen_same : (old new : Rows) → tree.IsOrdered key_cmp old → tree.IsOrdered key_cmp new → ((q : Pair) → running_at new q ≡ running_at old q) → seen new ≡ seen old
seen_same old new s t h = map.same_map pairs_total pairs_apart _ _ (λ q. get_seen new t q ∙ ap (option_map as_timer) (h q) ∙ sym (get_seen old s q))

pulled : (b : Bool) (v x : Option Running) → option_map as_timer (cond b v x) ≡ cond b (option_map as_timer v) (option_map as_timer x)
pulled true v x = refl
pulled false v x = refl

pub seen_put : (old new : Rows) (k : Pair) (r : Running) → tree.IsOrdered key_cmp old → tree.IsOrdered key_cmp new → ((q : Pair) → running_at new q ≡ cond (eq_by_cmp pair_cmp q k) (Some r) (running_at old q)) → seen new ≡ map.insert (seen old) k (as_timer r)
seen_put old new k r s t h =
    map.same_map pairs_total pairs_apart _ _ (λ q.
    get_seen new t q ∙ ap (option_map as_timer) (h q) ∙ pulled (eq_by_cmp pair_cmp q k) (Some r) (running_at old q)
    ∙ sym (map.get-insert pairs_total (seen old) k (as_timer r) q ∙ ap (cond (eq_by_cmp pair_cmp q k) (Some (as_timer r))) (get_seen old s q)))

pub seen_take : (old new : Rows) (k : Pair) → tree.IsOrdered key_cmp old → tree.IsOrdered key_cmp new → ((q : Pair) → running_at new q ≡ cond (eq_by_cmp pair_cmp q k) None (running_at old q)) → seen new ≡ map.remove (seen old) k
seen_take old new k s t h =
    map.same_map pairs_total pairs_apart _ _ (λ q.
    get_seen new t q ∙ ap (option_map as_timer) (h q) ∙ pulled (eq_by_cmp pair_cmp q k) None (running_at old q)
    ∙ sym (map.get-remove pairs_total (seen old) k q ∙ ap (cond (eq_by_cmp pair_cmp q k) None) (get_seen old s q)))

pub copied : (r : Option (Bor Running)) → option_map (λ x. as_timer x.now) r ≡ option_map as_timer (option_copied r)
copied None = refl
copied (Some x) = refl
