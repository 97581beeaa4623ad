-- The instances that parts in path order show, and a part that changes.
use Rattle.std.proofs.Common.{◌≡◌, ℕ, zero, suc, ◌+◌, ◌≤◌, Bool, true, false, List, [], ◌∷◌, length, map as each, Option, Some, None, Result, Ok, Err, refl, sym, ap, subst, cond, ◌∙◌, arith}
use Rattle.std.specs.Prelude.{◌&&◌, slice_get, slice_set, T, filter, OnOk}
use Rattle.std.specs.declared.alloc.AllocError.{AllocError}
use Rattle.std.specs.List.{insert, AllWithin}
use Rattle.std.specs.List.Sorted.{IsPartitionPoint}
use Rattle.std.specs.FinMap as map
use Rattle.std.specs.FinMap.Entries.{below_all, by_order, put, where_key, is_sorted-put, is_sorted-where_key, find-where_key}
use Rattle.std.specs.Cmp.{tied_itself}
use Rattle.std.specs.Ordering.{is_lt, eq_by_cmp, ordering_reverse}
use Rattle.std.specs.declared.cmp.Ordering.TheVariants.{Less, Equal, Greater}
use Rattle.estelle_model.specs.declared.image.Part.{Part}
use Rattle.estelle_tree.specs.Paths.{Path, path_cmp}
use Rattle.estelle_model.specs.Core.{Instance}
use Rattle.estelle_model.specs.Effects.{changed_in, put_back}
use Rattle.estelle_model.specs.Jobs.{part_of_entry, instance_of}
use Rattle.estelle_model.proofs.Maps.{total, apart, equal_of, get_inserted}
use Rattle.std.specs.Option.{option_or}
use Rattle.body_state.specs.InOrder.{entry_of, entries_of, are_in_order, instance_in, instances_of, StandsAt}
use Rattle.body_values.proofs.ValueLemmas.{same_some}
use Rattle.body_state.proofs.OrderLemmas.{left_of, right_of, below_at, found_at, later}

as_parts : (ps : List Part) → each part_of_entry (entries_of ps) ≡ ps
as_parts [] = refl
as_parts (p ∷ ps) = ap (λ qs. p ∷ qs) (as_parts ps)

or_none : {A : Type 0} (o : Option A) → option_or o None ≡ o
or_none None = refl
or_none (Some a) = refl

pub shown : (ps : List Part) → T (are_in_order ps) → (q : Path) → map.get (instances_of ps) q ≡ instance_in ps q
shown ps h q =
    ap (λ (rs : List Part). map.get (instances_of rs) q) (sym (as_parts ps))
    ∙ get_inserted map.empty (entries_of ps) h q
    ∙ ap (option_or (instance_in ps q)) (map.get-empty path_cmp q)
    ∙ or_none (instance_in ps q)

listed : (ps : List Part) → T (are_in_order ps) → map.entries (instances_of ps) ≡ entries_of ps
listed ps h =
    ap map.entries (map.same_map total apart (instances_of ps) (map.from_sorted {R = path_cmp} (entries_of ps)) (λ q. shown ps h q ∙ sym (map.get-from_sorted path_cmp (entries_of ps) q h)))
    ∙ map.entries-from_sorted path_cmp (entries_of ps) h

-- an image shows its own instances
pub listed_parts : (ps : List Part) → T (are_in_order ps) → ps ≡ each part_of_entry (map.entries (instances_of ps))
listed_parts ps h = sym (ap (each part_of_entry) (listed ps h) ∙ as_parts ps)

-- no path is equal to two that differ
not_both : (q x y : Path) → path_cmp x y ≡ Less → eq_by_cmp path_cmp q x ≡ true → ¬ (eq_by_cmp path_cmp q y ≡ true)
not_both q x y less a b =
    let same : x ≡ y = sym (apart q x (equal_of _ a)) ∙ apart q y (equal_of _ b) in
    less_is_equal (sym (subst (λ z. path_cmp z y ≡ Less) same less) ∙ tied_itself total y)
  where
    less_is_equal : ¬ (Less ≡ Equal)
    less_is_equal e = cc

-- ---- a part that changes, and keeps its path

module _ (new : Part) where
  below_set : (x : Path) (ps : List Part) (k : ℕ) (part : Part) → slice_get ps k ≡ Some part → new.path ≡ part.path → below_all path_cmp x (entries_of (slice_set ps k new)) ≡ below_all path_cmp x (entries_of ps)
  below_set x [] k part e is = refl
  below_set x (q ∷ ps) zero part e is = ap (λ r. is_lt (path_cmp x r) && below_all path_cmp x (entries_of ps)) (is ∙ ap (λ (r : Part). r.path) (sym (same_some q part e)))
  below_set x (q ∷ ps) (suc k) part e is = ap (λ b. is_lt (path_cmp x q.path) && b) (below_set x ps k part e is)

  pub order_set : (ps : List Part) (k : ℕ) (part : Part) → slice_get ps k ≡ Some part → new.path ≡ part.path → are_in_order (slice_set ps k new) ≡ are_in_order ps
  order_set [] k part e is = refl
  order_set (q ∷ ps) zero part e is = ap (λ r. below_all path_cmp r (entries_of ps) && are_in_order ps) (is ∙ ap (λ (r : Part). r.path) (sym (same_some q part e)))
  order_set (q ∷ ps) (suc k) part e is = λ i. below_set q.path ps k part e is i && order_set ps k part e is i

  found_set : (ps : List Part) (k : ℕ) (part : Part) → T (are_in_order ps) → slice_get ps k ≡ Some part → new.path ≡ part.path → (q : Path) → instance_in (slice_set ps k new) q ≡ cond (eq_by_cmp path_cmp q part.path) (Some (instance_of new)) (instance_in ps q)
  found_set [] k part h e is q = absurd (cc)
  found_set (r ∷ ps) zero part h e is q =
      ap (λ p. cond (eq_by_cmp path_cmp q p) (Some (instance_of new)) (instance_in ps q)) is
      ∙ shadowed (eq_by_cmp path_cmp q part.path) (Some (instance_of new)) (Some (instance_of r)) (instance_in ps q)
      ∙ ap (λ (s : Part). cond (eq_by_cmp path_cmp q part.path) (Some (instance_of new)) (cond (eq_by_cmp path_cmp q s.path) (Some (instance_of r)) (instance_in ps q))) (sym (same_some r part e))
    where
      shadowed : (b : Bool) (x y z : Option Instance) → cond b x z ≡ cond b x (cond b y z)
      shadowed true x y z = refl
      shadowed false x y z = refl
  found_set (r ∷ ps) (suc k) part h e is q =
      ap (cond (eq_by_cmp path_cmp q r.path) (Some (instance_of r))) (found_set ps k part (right_of (below_all path_cmp r.path (entries_of ps)) _ h) e is q)
      ∙ swapped (eq_by_cmp path_cmp q r.path) (eq_by_cmp path_cmp q part.path) (Some (instance_of r)) (Some (instance_of new)) (instance_in ps q) (not_both q r.path part.path (below_at r.path ps k part (left_of _ (are_in_order ps) h) e))
    where
      swapped : (a b : Bool) (x y z : Option Instance) → (a ≡ true → ¬ (b ≡ true)) → cond a x (cond b y z) ≡ cond b y (cond a x z)
      swapped true true x y z never = absurd (never refl refl)
      swapped true false x y z never = refl
      swapped false b x y z never = refl

  -- to change an instance is to change its part
  pub put_shown : (ps : List Part) (k : ℕ) (part : Part) (p : Path) (f : Instance → Instance) → T (are_in_order ps) → slice_get ps k ≡ Some part → part.path ≡ p → new.path ≡ p → instance_of new ≡ f (instance_of part) → changed_in p f (instances_of ps) ≡ instances_of (slice_set ps k new)
  put_shown ps k part p f h e is stays makes =
      let same : new.path ≡ part.path = stays ∙ sym is in
      let found : map.get (instances_of ps) p ≡ Some (instance_of part) = shown ps h p ∙ found_at ps p k part h e is in
      let put : changed_in p f (instances_of ps) ≡ map.insert (instances_of ps) p (f (instance_of part)) = ap (put_back (instances_of ps) p f) found in
      let order : T (are_in_order (slice_set ps k new)) = subst T (sym (order_set ps k part e same)) h in
      put ∙ map.same_map total apart (map.insert (instances_of ps) p (f (instance_of part))) (instances_of (slice_set ps k new)) (λ q.
      map.get-insert total (instances_of ps) p (f (instance_of part)) q
      ∙ (λ i. cond (eq_by_cmp path_cmp q (sym is i)) (Some (sym makes i)) (shown ps h q i))
      ∙ sym (found_set ps k part h e same q)
      ∙ sym (shown (slice_set ps k new) order q))

-- ---- a part that is put in its place

greater_of : (x y : Path) → path_cmp x y ≡ Less → path_cmp y x ≡ Greater
greater_of x y e = total.antisymm y x ∙ ap ordering_reverse e

less_of : (x y : Path) → path_cmp x y ≡ Greater → path_cmp y x ≡ Less
less_of x y e = total.antisymm y x ∙ ap ordering_reverse e

module _ (new : Part) where
  abbrev putting : List Part → List (Path × Instance)
  putting ps = put path_cmp new.path (instance_of new) (entries_of ps)

  behind_first : (q : Part) (ps : List Part) → path_cmp q.path new.path ≡ Less → putting (q ∷ ps) ≡ entry_of q ∷ putting ps
  behind_first q ps e = ap (λ o. by_order o (entry_of new ∷ (entry_of q ∷ entries_of ps)) ((q.path, instance_of new) ∷ entries_of ps) (entry_of q ∷ putting ps)) (greater_of q.path new.path e)

  -- between those below it and those above it
  entries_inserted : (ps : List Part) (k : ℕ) → k ≤ length ps → AllWithin (λ (y : Part). path_cmp y.path new.path ≡ Less) ps 0 k → AllWithin (λ (y : Part). path_cmp y.path new.path ≡ Greater) ps k (length ps) → entries_of (insert ps k new) ≡ putting ps
  entries_inserted [] zero l low high = refl
  entries_inserted [] (suc k) l low high = absurd (omega arith)
  entries_inserted (q ∷ ps) zero l low high = sym (ap (λ o. by_order o (entry_of new ∷ (entry_of q ∷ entries_of ps)) ((q.path, instance_of new) ∷ entries_of ps) (entry_of q ∷ putting ps)) (less_of q.path new.path (high 0 q (omega arith) (omega arith))))
  entries_inserted (q ∷ ps) (suc k) l low high =
      ap (λ es. entry_of q ∷ es) (entries_inserted ps k (omega arith)
      (λ j d a b. subst (λ (r : Part). path_cmp r.path new.path ≡ Less) (later q ps j d) (low (j + 1) d (omega arith) (omega arith)))
      (λ j d a b. subst (λ (r : Part). path_cmp r.path new.path ≡ Greater) (later q ps j d) (high (j + 1) d (omega arith) (omega arith))))
      ∙ sym (behind_first q ps (low 0 q (omega arith) (omega arith)))

  -- in the place of one with its path
  pub entries_replaced : (ps : List Part) (k : ℕ) → T (are_in_order ps) → StandsAt ps new.path k → entries_of (slice_set ps k new) ≡ putting ps
  entries_replaced [] k h stands = let e = stands.1 in absurd (cc)
  entries_replaced (q ∷ ps) zero h stands =
      let same : q.path ≡ new.path = ap (λ (r : Part). r.path) (same_some q stands.0 stands.1) ∙ stands.2 in
      let tied : path_cmp new.path q.path ≡ Equal = ap (path_cmp new.path) same ∙ tied_itself total new.path in
      sym (ap (λ o. by_order o (entry_of new ∷ (entry_of q ∷ entries_of ps)) ((q.path, instance_of new) ∷ entries_of ps) (entry_of q ∷ putting ps)) tied ∙ ap (λ (p : Path). (p, instance_of new) ∷ entries_of ps) same)
  entries_replaced (q ∷ ps) (suc k) h stands =
      let less : path_cmp q.path new.path ≡ Less = subst (λ (p : Path). path_cmp q.path p ≡ Less) stands.2 (below_at q.path ps k stands.0 (left_of _ (are_in_order ps) h) stands.1) in
      ap (λ es. entry_of q ∷ es) (entries_replaced ps k (right_of (below_all path_cmp q.path (entries_of ps)) _ h) stands) ∙ sym (behind_first q ps less)

  pub order_put : (ps qs : List Part) → T (are_in_order ps) → entries_of qs ≡ putting ps → T (are_in_order qs)
  order_put ps qs h e = subst (λ es. T (map.is_sorted path_cmp es)) (sym e) (is_sorted-put path_cmp total new.path (instance_of new) (entries_of ps) h)

  -- a call that puts it between them may fail
  pub may_insert : (ps qs : List Part) (k : ℕ) (r : Result (Unit {0}) AllocError) → k ≤ length ps → IsPartitionPoint (λ (y : Part). path_cmp y.path new.path ≡ Less) (λ (y : Part). path_cmp y.path new.path ≡ Greater) ps k → OnOk r (qs ≡ insert ps k new) → OnOk r (entries_of qs ≡ putting ps)
  may_insert ps qs k (Ok u) l point e = ap entries_of e ∙ entries_inserted ps k l point.0 point.1
  may_insert ps qs k (Err e) l point h = tt

  -- the instance is inserted
  pub put_inserts : (ps qs : List Part) → T (are_in_order ps) → entries_of qs ≡ putting ps → instances_of qs ≡ map.insert (instances_of ps) new.path (instance_of new)
  put_inserts ps qs h e = map.same_entries_map (instances_of qs) (map.insert (instances_of ps) new.path (instance_of new)) (
      listed qs (order_put ps qs h e) ∙ e ∙ ap (put path_cmp new.path (instance_of new)) (sym (listed ps h))
      ∙ sym (map.entries-insert total (instances_of ps) new.path (instance_of new)))

-- ---- parts that are removed

module _ (keep : Path → Bool) where
  entries_kept : (ps : List Part) → entries_of (filter (λ (p : Part). keep p.path) ps) ≡ where_key path_cmp keep (entries_of ps)
  entries_kept [] = refl
  entries_kept (q ∷ ps) = by (keep q.path) (entries_kept ps)
    where
      by : (b : Bool) → entries_of (filter (λ (p : Part). keep p.path) ps) ≡ where_key path_cmp keep (entries_of ps) → entries_of (cond b (q ∷ filter (λ (p : Part). keep p.path) ps) (filter (λ (p : Part). keep p.path) ps)) ≡ cond b (entry_of q ∷ where_key path_cmp keep (entries_of ps)) (where_key path_cmp keep (entries_of ps))
      by true e = ap (λ es. entry_of q ∷ es) e
      by false e = e

  pub order_kept : (ps : List Part) → T (are_in_order ps) → T (are_in_order (filter (λ (p : Part). keep p.path) ps))
  order_kept ps h = subst (λ es. T (map.is_sorted path_cmp es)) (sym (entries_kept ps)) (is_sorted-where_key path_cmp keep (entries_of ps) h)

  alike : (q x : Path) → path_cmp q x ≡ Equal → keep x ≡ keep q
  alike q x e = ap keep (sym (apart q x e))

  pub kept_retains : (ps : List Part) → T (are_in_order ps) → instances_of (filter (λ (p : Part). keep p.path) ps) ≡ map.retain_keys (instances_of ps) keep
  kept_retains ps h = map.same_map total apart _ _ (λ q.
      shown (filter (λ (p : Part). keep p.path) ps) (order_kept ps h) q
      ∙ ap (map.find path_cmp q) (entries_kept ps)
      ∙ find-where_key path_cmp keep q (alike q) (entries_of ps)
      ∙ ap (λ o. cond (keep q) o None) (sym (shown ps h q))
      ∙ sym (map.get-retain_keys (instances_of ps) keep q (alike q)))
