-- The place of a firing in a list, and what the list is without it.
use Rattle.std.proofs.Common.{◌≡◌, ℕ, zero, suc, ◌+◌, ◌<◌, ◌≤◌, Bool, true, false, List, [], ◌∷◌, length, get_or, Some, refl, sym, ap, ◌∙◌, cond, arith, below_more}
use Rattle.std.specs.Prelude.{nat_eq, slice_get, Contains}
use Rattle.std.specs.List.{remove}
use Rattle.std.specs.Str.{bytes_eq}
use Rattle.std.proofs.lemmas.Option.{get_or_from_slice_get, slice_get-get_or}
use Rattle.estelle_tree.specs.declared.transition.Pair.{Pair}
use Rattle.estelle_tree.specs.Paths.{is_inside}
use Rattle.estelle_model.specs.Subject.{Subject}
use Rattle.estelle_model.specs.Situation.{Situation}
use Rattle.estelle_model.specs.Runs.{same_pair, without}
use Rattle.estelle_model.proofs.PrivateParts.{inside_self}
use Rattle.estelle_model_legality.specs.Pending.{ArePending}
use Rattle.estelle_model_legality.proofs.Lists.{and_both, both_and, not_both, path_is, number_is, same_path, same_number}
use Rattle.situation_state.specs.Places.{NoneBefore, IsPlaceOf}

same_is : (p q : Pair) → same_pair p q ≡ true → q ≡ p
same_is p q e =
    let both = and_both (bytes_eq p.path q.path) (nat_eq p.trans q.trans) e in
    (λ i. record { path = sym (same_path p.path q.path both.0) i; trans = sym (same_number p.trans q.trans both.1) i })

same_itself : (p : Pair) → same_pair p p ≡ true
same_itself p = both_and (bytes_eq p.path p.path) (nat_eq p.trans p.trans) (path_is p.path) (number_is p.trans)

-- the first that is this one is left out
without_at : (p : Pair) (ps : List Pair) (k : ℕ) (q : Pair) → NoneBefore p ps k → slice_get ps k ≡ Some q → same_pair p q ≡ true → without p ps ≡ remove ps k
without_at p [] k q none at same = absurd (cc)
without_at p (x ∷ xs) zero q none at same = let is : x ≡ q = cc in ap (λ b. cond b xs (x ∷ without p xs)) (ap (same_pair p) is ∙ same)
without_at p (x ∷ xs) (suc k) q none at same =
    ap (λ b. cond b xs (x ∷ without p xs)) (none 0 x (omega arith) refl)
    ∙ ap (λ (ys : List Pair). x ∷ ys) (without_at p xs k q (λ j y less is. none (suc j) y (omega (arith, less)) is) at same)

module _ (p : Pair) (ps : List Pair) (at : ℕ) (none : NoneBefore p ps at) where
  pub place_found : (q : Pair) → at < length ps → q ≡ get_or ps at q → same_pair p q ≡ true → IsPlaceOf p ps at
  place_found q within is same =
      let there : slice_get ps at ≡ Some q = slice_get-get_or ps at q within ∙ ap Some (sym is) in
      record { there = there ∙ ap Some (same_is p q same); others = without_at p ps at q none there same }

  pub none_more : (q : Pair) → q ≡ get_or ps at q → same_pair p q ≡ false → NoneBefore p ps (at + 1)
  none_more q is differ k r less there =
      below_more (λ (j : ℕ). (r : Pair) → slice_get ps j ≡ Some r → same_pair p r ≡ false) at (λ j lt r e. none j r lt e)
      (λ r e. ap (same_pair p) (sym (get_or_from_slice_get ps at r q e) ∙ sym is) ∙ differ) k less r there

  pub nowhere : length ps ≤ at → Contains ps p → ⊥
  nowhere ends there =
      let k = there.0 in
      let less = there.1 in
      not_both (same_pair p p) (same_itself p) (none k p (omega (arith, less, ends)) (slice_get-get_or ps k p less ∙ ap Some there.2))

-- in a legal situation a firing is pending once
pub place_is : (s : Subject) (g : Situation) → ArePending s g → (p : Pair) (at : ℕ) → slice_get g.pending at ≡ Some p → IsPlaceOf p g.pending at
place_is s g pending p at there = record { there = there; others = without_at p g.pending at p none there (same_itself p) }
  where
    none : NoneBefore p g.pending at
    none k q less is = by (same_pair p q) refl
      where
        by : (b : Bool) → same_pair p q ≡ b → b ≡ false
        by false e = refl
        by true e =
            let same : q ≡ p = same_is p q e in
            let outside : is_inside q.path p.path ≡ false = pending.apart k at q p (λ (one : k ≡ at). omega (arith, less, one)) is there in
            let wrong : true ≡ false = sym (inside_self p.path) ∙ ap (λ (r : Pair). is_inside r.path p.path) (sym same) ∙ outside in
            absurd (cc)
