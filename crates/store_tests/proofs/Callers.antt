-- What callers of the stores need.
use Rattle.std.proofs.Common.{◌≡◌, ◌≤◌, ℕ, ◌+◌, ◌++◌, ◌∷◌, List, [], length, length-append, map as each, refl, sym, subst, arith}
use Rattle.std.specs.Prelude.{Bool, true, false, IfSome, sum_by, if◌then◌else◌}
use Rattle.std.proofs.lemmas.List.{length-map}
use Rattle.std.proofs.lemmas.List.Sums.{sum_by-cons}
use Rattle.estelle_tree.specs.Paths.{Path, child, parent_of, last_of}
use Rattle.module_tree.specs.Trees.{Tree, births_at}
use Rattle.module_tree.proofs.Paths.{parent_of-child, last_of-child}
use Rattle.queue_store.specs.Queues.{Queue, lies_inside, items_below}
use Rattle.link_ops.specs.Linked.{IsChild}

-- the path with its parent's next number may be placed
pub next_number : {R : Type 0} (t : Tree R) (p : Path) (k : ℕ) → IfSome (births_at t p) (λ births. k ≡ births + 1) → IfSome (births_at t (parent_of (p ++ k ∷ []))) (λ births. last_of (p ++ k ∷ []) ≡ births + 1)
next_number t p k next =
    subst (λ n. IfSome (births_at t (parent_of (child p k))) (λ births. n ≡ births + 1)) (sym (last_of-child p k))
    (subst (λ m. IfSome (births_at t m) (λ births. k ≡ births + 1)) (sym (parent_of-child p k)) next)

-- no more waits below an instance than in all
pub below_within : {T : Type 0} (p : Path) (qs : List (Queue T)) → length (items_below p qs) ≤ sum_by (λ q. length q.items) qs
below_within p [] = omega arith
below_within {T} p (q ∷ qs) = by (lies_inside p q) (below_within p qs) (sum_by-cons (λ (q : Queue T). length q.items) q qs)
  where
    by : (b : Bool) → length (items_below p qs) ≤ sum_by (λ q. length q.items) qs → sum_by (λ (q : Queue T). length q.items) (q ∷ qs) ≡ length q.items + sum_by (λ q. length q.items) qs
        → length (if b then each (λ w. w.item) q.items ++ items_below p qs else items_below p qs) ≤ sum_by (λ q. length q.items) (q ∷ qs)
    by true rest all = let a = length-append (each (λ w. w.item) q.items) (items_below p qs) in let m = length-map q.items (λ w. w.item) in omega arith
    by false rest all = omega arith

pub goes_to_child : (p : Path) (k : ℕ) → IsChild p (p ++ k ∷ [])
goes_to_child p k = (k, refl)
