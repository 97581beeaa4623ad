-- What waits in the queues is what waits in the situation: what is dropped with them, and how much there is.
use Rattle.std.proofs.Common.{◌≡◌, ◌+◌, ◌≤◌, Bool, true, false, cond, List, [], ◌∷◌, ◌++◌, length, Option, Some, refl, sym, ap, subst, ◌∙◌, inl, inr, arith, length-append}
use Rattle.std.specs.Prelude.{not, if◌then◌else◌, map as each, filter, find, sum_by, IsPermutation}
use Rattle.std.proofs.lemmas.List.{length-map}
use Rattle.std.proofs.lemmas.List.Sums.{sum_by-cons}
use Rattle.std.proofs.lemmas.List.Sorted.{IsPermutation-refl, IsPermutation-trans, IsPermutation-append, IsPermutation-sym, IsPermutation-map, IsPermutation-filter_both, length_permutation}
use Rattle.estelle_tree.specs.declared.link.IpAddr.{IpAddr}
use Rattle.estelle_tree.specs.Paths.{Path, is_inside}
use Rattle.estelle_tree.specs.Queues.{Waiting, waits_at, waits_inside, waiting, not_waiting, brought_to, moved}
use Rattle.queue_store.specs.Queues.{Queue, has, lies_inside, items_below}
use Rattle.queue_store.specs.Holds.{holds, AllApart}
use Rattle.queue_store.proofs.HomeLaws.{each-append}
use Rattle.estelle_model.proofs.Members.{Among, find_among}
use Rattle.effect_log.proofs.Lists.{filter-alike, filter-nothing, filter-all, filter-either}
use Rattle.effect_log.proofs.Filing.{Filed, apart-from, lies-inside}

module _ {T : Type 0} where
  -- the queue of a point lies at or below p
  abbrev pub in_below : Path → List (Queue T) → IpAddr → Bool
  in_below p [] a = false
  in_below p (q ∷ qs) a = cond (has a q) (lies_inside p q) (in_below p qs a)

  -- where no queue has a point, none of it lies there
  below-none : (p : Path) (qs : List (Queue T)) (a : IpAddr) → ((q : Queue T) → Among q qs → has a q ≡ false) → in_below p qs a ≡ false
  below-none p [] a none = refl
  below-none p (q ∷ qs) a none = ap (λ b. cond b (lies_inside p q) (in_below p qs a)) (none q (inl refl)) ∙ below-none p qs a (λ r m. none r (inr m))

  -- of queues that are apart
  below-found : (p : Path) (qs : List (Queue T)) (a : IpAddr) (q : Queue T) → find (has a) qs ≡ Some q → in_below p qs a ≡ lies_inside p q
  below-found p [] a q is = absurd (cc)
  below-found p (r ∷ rs) a q is = by (has a r) is (below-found p rs a q)
    where
      by : (b : Bool) → cond b (Some r) (find (has a) rs) ≡ Some q → (find (has a) rs ≡ Some q → in_below p rs a ≡ lies_inside p q) → cond b (lies_inside p r) (in_below p rs a) ≡ lies_inside p q
      by true e rest = let same : r ≡ q = cc in ap (lies_inside p) same
      by false e rest = rest e

  -- ---- what is dropped

  -- what was in the queues at and below p is what waits at points of these queues
  pub below-permuted : (p : Path) (qs : List (Queue T)) (mail : List (Waiting T)) → AllApart qs → holds qs mail → IsPermutation (items_below p qs) (each (λ w. w.item) (filter (λ w. in_below p qs w.at) mail))
  below-permuted p [] mail apart h = subst (λ (ws : List (Waiting T)). IsPermutation [] (each (λ w. w.item) ws)) (sym (filter-nothing (λ w. false) mail (λ w. refl))) (IsPermutation-refl [])
  below-permuted p (q ∷ qs) mail apart h = by (lies_inside p q) (below-permuted p qs mail apart.1 h.1)
    where
      -- a point of this queue is in no other
      alone : (w : Waiting T) → has w.at q ≡ true → in_below p qs w.at ≡ false
      alone w here = below-none p qs w.at (λ r m. apart-from q qs apart.0 r m w.at here)

      skip : (w : Waiting T) (b : Bool) → has w.at q ≡ b → cond b false (in_below p qs w.at) ≡ in_below p qs w.at
      skip w true e = sym (alone w e)
      skip w false e = refl

      by : (b : Bool) → IsPermutation (items_below p qs) (each (λ w. w.item) (filter (λ w. in_below p qs w.at) mail))
          → IsPermutation (if b then each (λ w. w.item) q.items ++ items_below p qs else items_below p qs) (each (λ w. w.item) (filter (λ w. cond (has w.at q) b (in_below p qs w.at)) mail))
      by true rest =
          let own : each (λ (w : Waiting T). w.item) q.items ≡ each (λ (w : Waiting T). w.item) (filter (λ w. has w.at q) mail) = ap (each (λ (w : Waiting T). w.item)) h.0 in
          IsPermutation-trans _ (each (λ (w : Waiting T). w.item) (filter (λ w. has w.at q) mail) ++ each (λ w. w.item) (filter (λ w. in_below p qs w.at) mail)) _
          (subst (λ (ys : List T). IsPermutation (ys ++ items_below p qs) (each (λ (w : Waiting T). w.item) (filter (λ w. has w.at q) mail) ++ each (λ w. w.item) (filter (λ w. in_below p qs w.at) mail))) (sym own)
          (IsPermutation-append _ _ _ _ (IsPermutation-refl _) rest))
          (IsPermutation-sym _ _ (subst (λ (ys : List T). IsPermutation (each (λ w. w.item) (filter (λ w. cond (has w.at q) true (in_below p qs w.at)) mail)) ys)
          (each-append (λ (w : Waiting T). w.item) (filter (λ w. has w.at q) mail) (filter (λ w. in_below p qs w.at) mail))
          (IsPermutation-map (λ (w : Waiting T). w.item) _ _ (filter-either (λ (w : Waiting T). has w.at q) (λ w. in_below p qs w.at) alone mail))))
      by false rest = subst (λ (ws : List (Waiting T)). IsPermutation (items_below p qs) (each (λ w. w.item) ws)) (sym (filter-alike (λ w. cond (has w.at q) false (in_below p qs w.at)) (λ w. in_below p qs w.at) mail (λ w m. skip w (has w.at q) refl))) rest

  -- each waits at a point that has a queue
  abbrev pub AllHome : List (Queue T) → List (Waiting T) → Type 0
  AllHome qs mail = (w : Waiting T) → Among w mail → (q : Queue T) × (find (has w.at) qs ≡ Some q)

  pub dropped-permuted : (d : IpAddr → Option Bool) (p : Path) (qs : List (Queue T)) (mail : List (Waiting T)) → Filed d qs → holds qs mail → AllHome qs mail → IsPermutation (items_below p qs) (each (λ w. w.item) (filter (waits_inside p) mail))
  dropped-permuted d p qs mail filed h home =
      subst (λ (ws : List (Waiting T)). IsPermutation (items_below p qs) (each (λ w. w.item) ws))
      (filter-alike (λ w. in_below p qs w.at) (waits_inside p) mail (λ w m.
      let q = home w m in
      let at = find_among (has w.at) qs q.0 q.1 in
      below-found p qs w.at q.0 q.1 ∙ lies-inside d qs filed p q.0 at.0 w.at at.1))
      (below-permuted p qs mail filed.apart h)

  -- ---- how much waits

  pub below-within : (p : Path) (qs : List (Queue T)) → length (items_below p qs) ≤ sum_by (λ q. length q.items) qs
  below-within p [] = omega arith
  below-within p (q ∷ qs) = by (lies_inside p q) (below-within p qs) (sum_by-cons (λ (r : Queue T). length r.items) q qs)
    where
      by : (b : Bool) → length (items_below p qs) ≤ sum_by (λ q. length q.items) qs → sum_by (λ q. length q.items) (q ∷ qs) ≡ length q.items + sum_by (λ q. length q.items) qs
          → length (if b then each (λ w. w.item) q.items ++ items_below p qs else items_below p qs) ≤ sum_by (λ q. length q.items) (q ∷ qs)
      by true rest e = let a = length-append (each (λ (w : Waiting T). w.item) q.items) (items_below p qs) in let m = length-map q.items (λ w. w.item) in omega (arith, rest, e, a, m)
      by false rest e = omega (arith, rest, e)

  -- no more waits in the situation than in the queues
  pub waiting-within : (d : IpAddr → Option Bool) (qs : List (Queue T)) (mail : List (Waiting T)) → Filed d qs → holds qs mail → AllHome qs mail → length mail ≤ sum_by (λ q. length q.items) qs
  waiting-within d qs mail filed h home =
      let all = length_permutation _ _ (dropped-permuted d [] qs mail filed h home) in
      let items = length-map (filter (waits_inside []) mail) (λ w. w.item) in
      let mails = ap length (filter-all (waits_inside []) mail (λ w. inside w.at.path)) in
      let within = below-within [] qs in
      omega (arith, all, items, mails, within)
    where
      inside : (q : Path) → is_inside [] q ≡ true
      inside [] = refl
      inside (k ∷ q) = refl

  pub length-dropped : (d : IpAddr → Option Bool) (p : Path) (qs : List (Queue T)) (mail : List (Waiting T)) → Filed d qs → holds qs mail → AllHome qs mail → length (items_below p qs) ≡ length (filter (waits_inside p) mail)
  length-dropped d p qs mail filed h home =
      let all = length_permutation _ _ (dropped-permuted d p qs mail filed h home) in
      let items = length-map (filter (waits_inside p) mail) (λ w. w.item) in
      omega (arith, all, items)

  -- a move leaves as much
  pub length-moved : (a b : IpAddr) (mail : List (Waiting T)) → length (moved a b mail) ≡ length mail
  length-moved a b mail =
      let both = length_permutation _ _ (IsPermutation-filter_both (λ w. not (waits_at a w)) (waits_at a) (λ w. twice (waits_at a w)) mail) in
      let parts = length-append (not_waiting a mail) (waiting a mail) in
      let joined = length-append (not_waiting a mail) (each (brought_to b) (waiting a mail)) in
      let brought = length-map (waiting a mail) (brought_to b) in
      omega (arith, both, parts, joined, brought)
    where
      twice : (x : Bool) → x ≡ not (not x)
      twice true = refl
      twice false = refl

  -- what is dropped and what stays is all
  pub length-outside : (p : Path) (mail : List (Waiting T)) → length (filter (λ w. not (waits_inside p w)) mail) + length (filter (waits_inside p) mail) ≡ length mail
  length-outside p mail =
      let both = length_permutation _ _ (IsPermutation-filter_both (waits_inside p) (λ w. not (waits_inside p w)) (λ w. refl) mail) in
      let parts = length-append (filter (waits_inside p) mail) (filter (λ w. not (waits_inside p w)) mail) in
      omega (arith, both, parts)
