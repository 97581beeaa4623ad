-- Numbers of transitions.
use Rattle.std.proofs.Common.{◌≡◌, ◌∙◌, ℕ, zero, suc, ◌+◌, ◌<◌, List, [], ◌∷◌, ◌++◌, take, get_or, length, ap, sym, arith}
use Rattle.flat_transitions.specs.declared.flat.FlatTrans.{FlatTrans}
use Rattle.estelle_model.specs.Transitions.{Transition}
use Rattle.flat_transitions.specs.FlatList.{flat_trans, numbered_from}

-- the part of a list that one more transition gives stands last
longer : (n : ℕ) (ts : List Transition) (i : ℕ) (t : Transition) → i < length ts → t ≡ get_or ts i t → numbered_from n (take (suc i) ts) ≡ numbered_from n (take i ts) ++ flat_trans (n + i) t ∷ []
longer n [] i t h e = absurd (omega arith)
longer n (u ∷ ts) zero t h e = let same : n ≡ n + 0 = omega arith in ap (λ v. flat_trans n v ∷ []) (sym e) ∙ ap (λ k. flat_trans k t ∷ []) same
longer n (u ∷ ts) (suc i) t h e =
    let same : suc n + i ≡ n + suc i = omega arith in
    ap (λ us. flat_trans n u ∷ us) (longer (suc n) ts i t (omega arith) e ∙ ap (λ k. numbered_from (suc n) (take i ts) ++ flat_trans k t ∷ []) same)

pub numbered_more : (ts us : List Transition) (i : ℕ) (t : Transition) (shown : List FlatTrans) (one : FlatTrans) → us ≡ ts → i < length ts → t ≡ get_or us i t → one ≡ flat_trans (i + 1) t → shown ≡ numbered_from 1 (take i ts)
    → shown ++ one ∷ [] ≡ numbered_from 1 (take (i + 1) ts)
numbered_more ts us i t shown one same h e is so_far =
    let next : i + 1 ≡ suc i = omega arith in
    let number : i + 1 ≡ 1 + i = omega arith in
    ap (λ xs. xs ++ one ∷ []) so_far ∙ ap (λ x. numbered_from 1 (take i ts) ++ x ∷ []) (is ∙ ap (λ k. flat_trans k t) number)
    ∙ sym (longer 1 ts i t h (e ∙ ap (λ vs. get_or vs i t) same)) ∙ ap (λ k. numbered_from 1 (take k ts)) (sym next)
