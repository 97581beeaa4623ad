-- Parts that are lent: each is below the next one, and each path is found.
use Rattle.std.proofs.Common.{◌≡◌, ℕ, ◌+◌, ◌-◌, ◌<◌, ◌≤◌, false, List, [], ◌∷◌, length, get_or, None, sym, ap, subst, ◌∙◌, arith}
use Rattle.std.specs.Prelude.{T}
use Rattle.std.specs.Borrow.{Bor}
use Rattle.std.specs.List.{AllAdjacentBelow}
use Rattle.std.specs.List.Sorted.{IsNonDecreasingBy, IsPartitionPoint}
use Rattle.std.specs.Ordering.{is_lt, ordering_index}
use Rattle.std.specs.declared.cmp.Ordering.TheVariants.{Less, Equal, Greater}
use Rattle.std.proofs.lemmas.List.{get_or-map, length-map}
use Rattle.estelle_model.specs.declared.image.Part.{Part}
use Rattle.estelle_tree.specs.Paths.{Path, path_cmp}
use Rattle.body_state.specs.InOrder.{parts_behind, are_in_order, instance_in, StandsAt}
use Rattle.body_state.proofs.OrderLemmas as parts

abbrev pub IsBelow : Bor Part → Bor Part → Type 0
IsBelow a b = parts.IsBelow a.now b.now

module _ (rs : List (Bor Part)) where
  as_many : length (parts_behind rs) ≡ length rs
  as_many = length-map rs (λ (r : Bor Part). r.now)

  -- what stands behind a reference
  behind : (k : ℕ) (r : Bor Part) (d : Part) → k < length rs → get_or (parts_behind rs) k d ≡ (get_or rs k r).now
  behind k r d l = get_or-map (λ (x : Bor Part). x.now) rs k r d l

-- one of the references, where there are any
one_of : (rs : List (Bor Part)) (k : ℕ) → k < length rs → Bor Part
one_of [] k l = absurd (omega arith)
one_of (r ∷ rs) k l = r

module _ (rs : List (Bor Part)) where
  pub in_order_of : AllAdjacentBelow IsBelow rs (length rs) → T (are_in_order (parts_behind rs))
  in_order_of h = parts.in_order_of (parts_behind rs) (λ k d l.
      let less : k + 1 < length rs = omega (arith, as_many rs, l) in
      let r : Bor Part = one_of rs (k + 1) less in
      (λ i. path_cmp (behind rs k r d (omega (arith, less)) i).path (behind rs (k + 1) r d less i).path) ∙ h k r less)

  pub neighbours_differ : (i : ℕ) (a b : Bor Part) → 1 ≤ i → i < length rs → a ≡ get_or rs (i - 1) a → b ≡ get_or rs i b → is_lt (path_cmp a.now.path b.now.path) ≡ false → false ≡ are_in_order (parts_behind rs)
  neighbours_differ i a b low high a_is b_is not_less = parts.neighbours_differ (parts_behind rs) i a.now b.now low (omega (arith, as_many rs, high))
      (ap (λ (r : Bor Part). r.now) a_is ∙ sym (behind rs (i - 1) a a.now (omega (arith, low, high))))
      (ap (λ (r : Bor Part). r.now) b_is ∙ sym (behind rs i b b.now high)) not_less

  pub searchable : (x : Path) → T (are_in_order (parts_behind rs)) → IsNonDecreasingBy (λ (y : Bor Part). ordering_index (path_cmp y.now.path x)) rs
  searchable x h i j d low less =
      subst (λ (p : Part). ordering_index (path_cmp p.path x) ≤ ordering_index (path_cmp (get_or rs j d).now.path x)) (behind rs i d d.now (omega (arith, low, less)))
      (subst (λ (p : Part). ordering_index (path_cmp (get_or (parts_behind rs) i d.now).path x) ≤ ordering_index (path_cmp p.path x)) (behind rs j d d.now less)
      (parts.searchable (parts_behind rs) x h i j d.now low (omega (arith, as_many rs, less))))

  pub absent : (p : Path) (i : ℕ) → i ≤ length rs → IsPartitionPoint (λ (y : Bor Part). path_cmp y.now.path p ≡ Less) (λ (y : Bor Part). path_cmp y.now.path p ≡ Greater) rs i → instance_in (parts_behind rs) p ≡ None
  absent p i within point = parts.absent (parts_behind rs) p i (
    (λ k d a b. let less : k < length rs = omega (arith, within, b) in let r : Bor Part = one_of rs k less in ap (λ (q : Part). path_cmp q.path p) (behind rs k r d less) ∙ point.0 k r a b),
    (λ k d a b. let less : k < length rs = omega (arith, as_many rs, b) in let r : Bor Part = one_of rs k less in ap (λ (q : Part). path_cmp q.path p) (behind rs k r d less) ∙ point.1 k r a less),
  )

  pub stands_of : (p : Path) (k : ℕ) → k < length rs → ((d : Bor Part) → path_cmp (get_or rs k d).now.path p ≡ Equal) → StandsAt (parts_behind rs) p k
  stands_of p k less h = parts.stands_of (parts_behind rs) p k (omega (arith, as_many rs, less)) (λ d.
      let r : Bor Part = one_of rs k less in
      ap (λ (q : Part). path_cmp q.path p) (behind rs k r d less) ∙ h r)
