-- Parts in path order: each is below the next one, and each path is found.
use Rattle.std.proofs.Common.{◌≡◌, ltb, ltb-true, ltb-false, ℕ, zero, suc, ◌+◌, ◌-◌, ◌<◌, ◌≤◌, Bool, true, false, List, [], ◌∷◌, length, get_or, Some, None, refl, sym, ap, subst, cond, ◌∙◌, arith}
use Rattle.std.specs.Prelude.{◌&&◌, slice_get, T}
use Rattle.std.specs.List.{AllAdjacentBelow}
use Rattle.std.specs.List.Sorted.{IsNonDecreasingBy, IsPartitionPoint}
use Rattle.std.specs.FinMap.Entries.{below_all}
use Rattle.std.specs.Cmp.{tied_itself}
use Rattle.std.specs.Ordering.{is_lt, is_eq, eq_by_cmp, ordering_index, ordering_reverse}
use Rattle.std.specs.declared.cmp.Ordering.{Ordering}
use Rattle.std.specs.declared.cmp.Ordering.TheVariants.{Less, Equal, Greater}
use Rattle.std.proofs.lemmas.Bool.{false≢true}
use Rattle.std.proofs.lemmas.Option.{slice_get-get_or}
use Rattle.std.proofs.lemmas.List.Sorted.{searchable_from_sorted}
use Rattle.estelle_model.specs.declared.image.Part.{Part}
use Rattle.estelle_tree.specs.Paths.{Path, path_cmp}
use Rattle.estelle_model.specs.Core.{Instance}
use Rattle.estelle_model.specs.Jobs.{instance_of}
use Rattle.estelle_model.proofs.Maps.{total, apart}
use Rattle.body_state.specs.InOrder.{entries_of, are_in_order, instance_in, StandsAt}
use Rattle.body_values.proofs.ValueLemmas.{same_some}

pub holds_of : (b : Bool) → b ≡ true → T b
holds_of true e = tt
holds_of false e = absurd (cc)

pub true_of : (b : Bool) → T b → b ≡ true
true_of true h = refl
true_of false h = absurd h

pub both : (a b : Bool) → T a → T b → T (a && b)
both true b h k = k
both false b h k = h

pub left_of : (a b : Bool) → T (a && b) → T a
left_of true b h = tt
left_of false b h = h

pub right_of : (a b : Bool) → T (a && b) → T b
right_of true b h = h
right_of false b h = absurd h

less_of : (o : Ordering) → T (is_lt o) → o ≡ Less
less_of Less h = refl
less_of Equal h = absurd h
less_of Greater h = absurd h

of_less : (o : Ordering) → o ≡ Less → T (is_lt o)
of_less o e = subst (λ r. T (is_lt r)) (sym e) tt

-- a path below another is not equal to it
not_equal : (x y : Path) → path_cmp x y ≡ Less → eq_by_cmp path_cmp y x ≡ false
not_equal x y e = ap is_eq (total.antisymm y x ∙ ap ordering_reverse e)

not_equal_greater : (x y : Path) → path_cmp x y ≡ Greater → eq_by_cmp path_cmp y x ≡ false
not_equal_greater x y e = ap is_eq (total.antisymm y x ∙ ap ordering_reverse e)

equal_itself : (p : Path) → eq_by_cmp path_cmp p p ≡ true
equal_itself p = ap is_eq (tied_itself total p)

-- ---- below all

below_less : (x y : Path) (es : List (Path × Instance)) → path_cmp x y ≡ Less → T (below_all path_cmp y es) → T (below_all path_cmp x es)
below_less x y [] p h = tt
below_less x y (e ∷ es) p h = both (is_lt (path_cmp x e.0)) (below_all path_cmp x es) (of_less (path_cmp x e.0) (total.trans x y e.0 p (less_of (path_cmp y e.0) (left_of _ (below_all path_cmp y es) h)))) (below_less x y es p (right_of (is_lt (path_cmp y e.0)) _ h))

pub below_at : (x : Path) (ps : List Part) (k : ℕ) (part : Part) → T (below_all path_cmp x (entries_of ps)) → slice_get ps k ≡ Some part → path_cmp x part.path ≡ Less
below_at x [] k part h e = absurd (cc)
below_at x (q ∷ ps) zero part h e = subst (λ (r : Part). path_cmp x r.path ≡ Less) (same_some q part e) (less_of (path_cmp x q.path) (left_of _ (below_all path_cmp x (entries_of ps)) h))
below_at x (q ∷ ps) (suc k) part h e = below_at x ps k part (right_of (is_lt (path_cmp x q.path)) _ h) e

-- a default is not read within a list
other : (ps : List Part) (k : ℕ) (d e : Part) → k < length ps → get_or ps k d ≡ get_or ps k e
other [] k d e l = absurd (omega arith)
other (p ∷ ps) zero d e l = refl
other (p ∷ ps) (suc k) d e l = other ps k d e (omega arith)

-- ---- each below the next one

abbrev pub IsBelow : Part → Part → Type 0
IsBelow a b = path_cmp a.path b.path ≡ Less

pub later : (p : Part) (ps : List Part) (k : ℕ) (d : Part) → get_or (p ∷ ps) (k + 1) d ≡ get_or ps k d
later p ps k d = ap (λ n. get_or (p ∷ ps) n d) {y = suc k} (omega arith)

pub in_order_of : (ps : List Part) → AllAdjacentBelow IsBelow ps (length ps) → T (are_in_order ps)
in_order_of [] h = tt
in_order_of (p ∷ []) h = tt
in_order_of (p ∷ (q ∷ ps)) h =
    let less : path_cmp p.path q.path ≡ Less = h 0 p (omega arith) in
    let rest : T (are_in_order (q ∷ ps)) = in_order_of (q ∷ ps) (λ k d l. (λ i. path_cmp (sym (later p (q ∷ ps) k d) i).path (sym (later p (q ∷ ps) (k + 1) d) i).path) ∙ h (k + 1) d (omega arith)) in
    both (below_all path_cmp p.path (entries_of (q ∷ ps))) (are_in_order (q ∷ ps))
    (both (is_lt (path_cmp p.path q.path)) (below_all path_cmp p.path (entries_of ps)) (of_less (path_cmp p.path q.path) less) (below_less p.path q.path (entries_of ps) less (left_of _ (are_in_order ps) rest)))
    rest

below_of : (ps : List Part) → T (are_in_order ps) → AllAdjacentBelow IsBelow ps (length ps)
below_of [] h k d l = absurd (omega arith)
below_of (p ∷ []) h k d l = absurd (omega arith)
below_of (p ∷ (q ∷ ps)) h zero d l = less_of (path_cmp p.path q.path) (left_of _ (below_all path_cmp p.path (entries_of ps)) (left_of _ (are_in_order (q ∷ ps)) h))
below_of (p ∷ (q ∷ ps)) h (suc k) d l =
    ap (λ (r : Part). path_cmp (get_or (q ∷ ps) k d).path r.path) (ap (λ n. get_or (p ∷ (q ∷ ps)) n d) {y = k + 1 + 1} (omega arith) ∙ later p (q ∷ ps) (k + 1) d)
    ∙ below_of (q ∷ ps) (right_of (below_all path_cmp p.path (entries_of (q ∷ ps))) _ h) k d (omega arith)

-- two neighbours in another order
not_in_order : (ps : List Part) (k : ℕ) (d : Part) → k + 1 < length ps → ¬ (path_cmp (get_or ps k d).path (get_or ps (k + 1) d).path ≡ Less) → are_in_order ps ≡ false
not_in_order ps k d l not_less = by (are_in_order ps) refl
  where
    by : (b : Bool) → are_in_order ps ≡ b → b ≡ false
    by true e = absurd (not_less (below_of ps (holds_of _ e) k d l))
    by false e = refl

pub searchable : (ps : List Part) (x : Path) → T (are_in_order ps) → IsNonDecreasingBy (λ (y : Part). ordering_index (path_cmp y.path x)) ps
searchable ps x h = searchable_from_sorted total (λ (p : Part). p.path) ps x (λ k d low l. ap is_lt (total.antisymm (get_or ps (k + 1) d).path (get_or ps k d).path ∙ ap ordering_reverse (below_of ps h k d l)))

-- ---- what is found

pub found_at : (ps : List Part) (p : Path) (k : ℕ) (part : Part) → T (are_in_order ps) → slice_get ps k ≡ Some part → part.path ≡ p → instance_in ps p ≡ Some (instance_of part)
found_at [] p k part h e is = absurd (cc)
found_at (q ∷ ps) p zero part h e is =
    let same : q ≡ part = same_some q part e in
    ap (λ b. cond b (Some (instance_of q)) (instance_in ps p)) (ap (λ (r : Part). eq_by_cmp path_cmp p r.path) same ∙ ap (eq_by_cmp path_cmp p) is ∙ equal_itself p) ∙ ap (λ (r : Part). Some (instance_of r)) same
found_at (q ∷ ps) p (suc k) part h e is =
    ap (λ b. cond b (Some (instance_of q)) (instance_in ps p)) (not_equal q.path p (subst (λ r. path_cmp q.path r ≡ Less) is (below_at q.path ps k part (left_of _ (are_in_order ps) h) e)))
    ∙ found_at ps p k part (right_of (below_all path_cmp q.path (entries_of ps)) _ h) e is

none_found : (ps : List Part) (p : Path) → ((k : ℕ) (d : Part) → k < length ps → eq_by_cmp path_cmp p (get_or ps k d).path ≡ false) → instance_in ps p ≡ None
none_found [] p h = refl
none_found (q ∷ ps) p h =
    ap (λ b. cond b (Some (instance_of q)) (instance_in ps p)) (h 0 q (omega arith))
    ∙ none_found ps p (λ k d l. ap (λ (r : Part). eq_by_cmp path_cmp p r.path) (sym (later q ps k d)) ∙ h (k + 1) d (omega arith))

pub absent : (ps : List Part) (p : Path) (i : ℕ) → IsPartitionPoint (λ (y : Part). path_cmp y.path p ≡ Less) (λ (y : Part). path_cmp y.path p ≡ Greater) ps i → instance_in ps p ≡ None
absent ps p i h = none_found ps p (λ k d l.
    elim (ltb k i) as (λ b. ltb k i ≡ b → eq_by_cmp path_cmp p (get_or ps k d).path ≡ false) [
      | true ↦ λ e. not_equal (get_or ps k d).path p (h.0 k d (omega arith) (ltb-true k i e))
      | false ↦ λ e. not_equal_greater (get_or ps k d).path p (h.1 k d (ltb-false k i e) l)
    ] refl)

-- ---- what a search comes to

pub stands_of : (ps : List Part) (p : Path) (k : ℕ) → k < length ps → ((d : Part) → path_cmp (get_or ps k d).path p ≡ Equal) → StandsAt ps p k
stands_of [] p k l h = absurd (omega arith)
stands_of (q ∷ ps) p k l h = (get_or (q ∷ ps) k q, slice_get-get_or (q ∷ ps) k q l, apart (get_or (q ∷ ps) k q).path p (h q))

pub neighbours_differ : (ps : List Part) (i : ℕ) (a b : Part) → 1 ≤ i → i < length ps → a ≡ get_or ps (i - 1) a → b ≡ get_or ps i b → is_lt (path_cmp a.path b.path) ≡ false → false ≡ are_in_order ps
neighbours_differ ps i a b low high a_is b_is not_less = sym (not_in_order ps (i - 1) a (omega arith) (λ e. false≢true (sym not_less ∙ ap is_lt (by e))))
  where
    b_is' : b ≡ get_or ps (i - 1 + 1) a
    b_is' = b_is ∙ ap (λ n. get_or ps n b) {y = i - 1 + 1} (omega arith) ∙ other ps (i - 1 + 1) b a (omega arith)

    by : path_cmp (get_or ps (i - 1) a).path (get_or ps (i - 1 + 1) a).path ≡ Less → path_cmp a.path b.path ≡ Less
    by e = (λ j. path_cmp (a_is j).path (b_is' j).path) ∙ e
