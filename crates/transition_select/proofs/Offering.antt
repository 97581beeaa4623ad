-- What is offered of what instances count, one after another.
use Rattle.std.proofs.Common.{◌≡◌, ℕ, zero, suc, ◌+◌, ◌<◌, List, [], ◌∷◌, ◌++◌, map as each, length, take, get_or, sym, ap, subst, ◌∙◌, arith, add-one}
use Rattle.std.specs.List.{AllByRecursion}
use Rattle.std.proofs.lemmas.List.{map-append}
use Rattle.transition_select.specs.declared.offers.Offer.{Offer}
use Rattle.transition_select.specs.declared.countings.Counting.{Counting}

-- ---- lists

module _ {A : Type 0} where
  pub all_more : (P : A → Type 0) (xs : List A) (x : A) → AllByRecursion P xs → P x → AllByRecursion P (xs ++ x ∷ [])
  all_more P [] x all one = (one, tt)
  all_more P (y ∷ xs) x all one = (all.0, all_more P xs x all.1 one)

  pub all_at : (P : A → Type 0) (xs : List A) (k : ℕ) (a : A) → k < length xs → a ≡ get_or xs k a → AllByRecursion P xs → P a
  all_at P [] k a less is all = absurd (omega arith)
  all_at P (x ∷ xs) zero a less is all = subst P (sym is) all.0
  all_at P (x ∷ xs) (suc k) a less is all = all_at P xs k a (omega arith) is all.1

  pub each_more : {B : Type 0} (f : A → B) (xs : List A) (k : ℕ) (a : A) → k < length xs → a ≡ get_or xs k a → each f (take (k + 1) xs) ≡ each f (take k xs) ++ f a ∷ []
  each_more {B} f xs k a less is = rw add-one (by xs k less is)
    where
      by : (ys : List A) (j : ℕ) → j < length ys → a ≡ get_or ys j a → each f (take (suc j) ys) ≡ each f (take j ys) ++ f a ∷ []
      by [] j less is = absurd (omega arith)
      by (y ∷ ys) zero less is = ap (λ z. f z ∷ []) (sym is)
      by (y ∷ ys) (suc j) less is = ap (λ bs. f y ∷ bs) (by ys j (omega arith) is)

-- ---- one instance more

pub paths_more : (cs : List Counting) (k : ℕ) (c : Counting) (os after : List Offer) (o : Offer) → k < length cs → c ≡ get_or cs k c → each (λ p. p.path) os ≡ each (λ d. d.path) (take k cs)
    → o.path ≡ c.path → after ≡ os ++ o ∷ [] → each (λ p. p.path) after ≡ each (λ d. d.path) (take (k + 1) cs)
paths_more cs k c os after o less is so_far same pushed =
    ap (each (λ (p : Offer). p.path)) pushed ∙ map-append (λ (p : Offer). p.path) os (o ∷ []) ∙ (λ i. so_far i ++ (same i ∷ [])) ∙ sym (each_more (λ (d : Counting). d.path) cs k c less is)
