-- Breaches that are noted, piece by piece.
use Rattle.std.proofs.Common.{◌≡◌, ◌∙◌, ℕ, ◌+◌, ◌<◌, zero, suc, ◌⊎◌, inl, inr, List, [], ◌∷◌, ◌++◌, map, take, get_or, length, Option, Some, None, refl, ap, sym, append_assoc, append-nil, add-one, arith}
use Rattle.std.specs.Prelude.{fold, IfNone, IfSome}
use Rattle.std.specs.List.{flat_map}
use Rattle.estelle_tree.specs.declared.tree.name.Name.{Name}
use Rattle.scope_rules.specs.declared.refusal.Breach.{Breach}
use Rattle.scope_rules.specs.Least.{breach, noted, IsLeast, IsFirst}
use Rattle.scope_rules.specs.NameRules.{IsOne}
use Rattle.scope_rules.proofs.First.{first_noted, first_same, first_of_none, first_alone, first_none, first_some}
use Rattle.tree_visits.specs.Visit.{Visit}
use Rattle.tree_visits.specs.Visits.{Visits, visits}
use Rattle.visit_rules.specs.Breaches.{Rules, breaches_at, noted_all}

pub noted-nil : (first : Option Breach) → noted_all first [] ≡ first
unfolding noted_all
noted-nil first = refl

pub noted-cons : (first : Option Breach) (b : Breach) (bs : List Breach) → noted_all first (b ∷ bs) ≡ noted_all (noted first (Some b)) bs
unfolding noted_all
noted-cons first b bs = refl

pub noted-append : (first : Option Breach) (bs cs : List Breach) → noted_all first (bs ++ cs) ≡ noted_all (noted_all first bs) cs
unfolding noted_all
noted-append first [] cs = refl
noted-append first (b ∷ bs) cs = noted-append (noted first (Some b)) bs cs

pub ruleset noting = (noted-nil, noted-cons, noted-append)

longer : {A B : Type 0} (f : A → List B) (xs : List A) (i : ℕ) (x : A) → i < length xs → x ≡ get_or xs i x → flat_map f (take (suc i) xs) ≡ flat_map f (take i xs) ++ f x
longer f [] i x h e = absurd (omega arith)
longer f (y ∷ ys) zero x h e = rw (append-nil (f y)) (ap f (sym e))
longer f (y ∷ ys) (suc i) x h e = ap (λ ts. f y ++ ts) (longer f ys i x (omega arith) e) ∙ sym (append_assoc (f y) (flat_map f (take i ys)) (f x))

-- one more of a chain
pub chain_noted : {A : Type 0} (f : A → List Breach) (xs : List A) (i : ℕ) (x : A) (first : Option Breach) → i < length xs → x ≡ get_or xs i x → noted_all first (flat_map f (take (i + 1) xs)) ≡ noted_all (noted_all first (flat_map f (take i xs))) (f x)
chain_noted f xs i x first h e = rw add-one (ap (noted_all first) (longer f xs i x h e) ∙ noted-append first (flat_map f (take i xs)) (f x))

one_longer : {A B : Type 0} (f : A → B) (xs : List A) (i : ℕ) (x : A) → i < length xs → x ≡ get_or xs i x → map f (take (suc i) xs) ≡ map f (take i xs) ++ f x ∷ []
one_longer f [] i x h e = absurd (omega arith)
one_longer f (y ∷ ys) zero x h e = ap (λ z. f z ∷ []) (sym e)
one_longer f (y ∷ ys) (suc i) x h e = ap (λ ts. f y ∷ ts) (one_longer f ys i x (omega arith) e)

-- one more name
pub names_noted : (n : ℕ) (xs : List Name) (i : ℕ) (x : Name) (first : Option Breach) → i < length xs → x ≡ get_or xs i x → noted_all first (breaches_at n (take (i + 1) xs)) ≡ noted_all (noted_all first (breaches_at n (take i xs))) (breach n x.span ∷ [])
names_noted n xs i x first h e = rw add-one (ap (noted_all first) (one_longer (λ y. breach n y.span) xs i x h e) ∙ noted-append first (breaches_at n (take i xs)) (breach n x.span ∷ []))

-- ---- what is reported is the first of what is broken

one_of_two : (b c : Breach) (bs : List Breach) → IsOne b (c ∷ bs) → (Some c ≡ Some b) ⊎ IsOne b bs
one_of_two b c bs (inl e) = inl (ap Some (sym e))
one_of_two b c bs (inr h) = inr h

all_noted : (P : Breach → Type 0) (first : Option Breach) (bs : List Breach) → IsFirst P first → IsFirst (λ b. P b ⊎ IsOne b bs) (noted_all first bs)
unfolding noted_all
all_noted P first [] f = first_same P (λ b. P b ⊎ IsOne b []) first (λ b p. inl p) (λ b h. elim h [ inl p ↦ p | inr n ↦ absurd n ]) f
all_noted P first (c ∷ bs) f =
    let one = first_noted P (λ b. Some c ≡ Some b) first (Some c) f (first_alone (Some c)) in
    let rest = all_noted (λ b. P b ⊎ (Some c ≡ Some b)) (noted first (Some c)) bs one in
    first_same (λ b. (P b ⊎ (Some c ≡ Some b)) ⊎ IsOne b bs) (λ b. P b ⊎ IsOne b (c ∷ bs)) (noted_all (noted first (Some c)) bs)
    (λ b h. elim h [ inl q ↦ (elim q [ inl p ↦ inl p | inr e ↦ inr (inl (let s : c ≡ b = cc in sym s)) ]) | inr k ↦ inr (inr k) ])
    (λ b h. elim h [ inl p ↦ inl (inl p) | inr k ↦ (elim (one_of_two b c bs k) [ inl e ↦ inl (inr e) | inr m ↦ inr m ]) ])
    rest

pub all_first : (bs : List Breach) → IsFirst (λ b. IsOne b bs) (noted_all None bs)
all_first bs = first_same (λ b. ⊥ ⊎ IsOne b bs) (λ b. IsOne b bs) (noted_all None bs)
    (λ b h. elim h [ inl n ↦ absurd n | inr k ↦ k ])
    (λ b k. inr k)
    (all_noted (λ b. ⊥) None bs (first_of_none (λ b. ⊥) (λ b n. n)))

-- ---- visitors that note

-- what a visitor has noted, whose rules stay
pub visits_noted : {S : Type 0} (step : S → Visit → S) (first : S → Option Breach) (rules : S → Rules) → ((s : S) (v : Visit) → rules (step s v) ≡ rules s) → ((s : S) (v : Visit) → first (step s v) ≡ noted_all (first s) (rules s v)) → (s : S) (vs : Visits) → first (fold step s vs) ≡ noted_all (first s) (flat_map (rules s) vs)
visits_noted step first rules stay note s [] = sym (noted-nil (first s))
visits_noted step first rules stay note s (v ∷ vs) =
    visits_noted step first rules stay note (step s v) vs
    ∙ ap (λ (r : Rules). noted_all (first (step s v)) (flat_map r vs)) (stay s v)
    ∙ ap (λ o. noted_all o (flat_map (rules s) vs)) (note s v)
    ∙ sym (noted-append (first s) (rules s v) (flat_map (rules s) vs))

-- where nothing is noted, nothing is broken
pub all_kept : (bs : List Breach) (found : Option Breach) → found ≡ noted_all None bs → IfNone found ((b : Breach) → IsOne b bs → ⊥)
all_kept bs None e = first_none (λ b. IsOne b bs) (noted_all None bs) (sym e) (all_first bs)
all_kept bs (Some b) e = tt

-- what is noted is the least
pub all_found : (bs : List Breach) (found : Option Breach) → found ≡ noted_all None bs → IfSome found (IsLeast (λ b. IsOne b bs))
all_found bs None e = tt
all_found bs (Some b) e = first_some (λ b. IsOne b bs) (noted_all None bs) b (sym e) (all_first bs)

-- what a visitor has noted at the end
pub noted_at_end : {S : Type 0} (end : S) (step : S → Visit → S) (s : S) (vs : Visits) → end ≡ fold step s vs → (first : S → Option Breach) (rules : S → Rules) → ((t : S) (v : Visit) → rules (step t v) ≡ rules t) → ((t : S) (v : Visit) → first (step t v) ≡ noted_all (first t) (rules t v)) → first end ≡ noted_all (first s) (flat_map (rules s) vs)
noted_at_end end step s vs e first rules stay note = ap first e ∙ visits_noted step first rules stay note s vs
