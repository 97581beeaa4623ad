-- Paths: what lies inside what.
use Rattle.std.proofs.Common.{◌≡◌, ◌⊎◌, ℕ, ◌+◌, Bool, true, false, ◌&&◌, [], ◌∷◌, ◌++◌, length, refl, sym, ap, ap₂, subst, ◌∙◌, inl, inr, arith, length-append}
use Rattle.std.specs.Prelude.{nat_eq}
use Rattle.estelle_tree.specs.Paths.{Path, child, is_inside, last_of}
use Rattle.estelle_model_legality.proofs.Lists.{and_both, both_and, number_is, same_number, not_both, not_true}

pub child_injective : (p q : Path) (k j : ℕ) → child p k ≡ child q j → (p ≡ q) × (k ≡ j)
child_injective [] [] k j e = (refl, cc)
child_injective [] (y ∷ []) k j e = absurd (cc)
child_injective [] (y ∷ z ∷ q) k j e = absurd (cc)
child_injective (x ∷ []) [] k j e = absurd (cc)
child_injective (x ∷ w ∷ p) [] k j e = absurd (cc)
child_injective (x ∷ p) (y ∷ q) k j e =
    let xy : x ≡ y = cc in
    let rest : p ++ k ∷ [] ≡ q ++ j ∷ [] = cc in
    let ih = child_injective p q k j rest in
    (ap₂ (λ (a : ℕ) (l : Path). a ∷ l) xy ih.0, ih.1)

pub length_child : (p : Path) (k : ℕ) → length (child p k) ≡ length p + 1
length_child p k = omega (arith, length-append p (k ∷ []))

pub child_not_root : (p : Path) (k : ℕ) → child p k ≡ [] → ⊥
child_not_root [] k e = absurd (cc)
child_not_root (x ∷ p) k e = absurd (cc)

pub last_child : (p : Path) (k : ℕ) → last_of (child p k) ≡ k
last_child [] k = refl
last_child (x ∷ []) k = refl
last_child (x ∷ y ∷ p) k = last_child (y ∷ p) k

pub inside_itself : (m : Path) → is_inside m m ≡ true
inside_itself [] = refl
inside_itself (x ∷ m) = ap (λ (b : Bool). b && is_inside m m) (number_is x) ∙ inside_itself m

pub inside_append : (m q r : Path) → is_inside m q ≡ true → is_inside m (q ++ r) ≡ true
inside_append [] q r h = refl
inside_append (x ∷ m) [] r h = absurd (cc)
inside_append (x ∷ m) (y ∷ q) r h =
    let both = and_both (nat_eq x y) (is_inside m q) h in
    both_and (nat_eq x y) (is_inside m (q ++ r)) both.0 (inside_append m q r both.1)

pub inside_child : (m q : Path) (k : ℕ) → is_inside m q ≡ true → is_inside m (child q k) ≡ true
inside_child m q k h = inside_append m q (k ∷ []) h

pub inside_trans : (m n q : Path) → is_inside m n ≡ true → is_inside n q ≡ true → is_inside m q ≡ true
inside_trans [] n q h k = refl
inside_trans (x ∷ m) [] q h k = absurd (cc)
inside_trans (x ∷ m) (y ∷ n) [] h k = absurd (cc)
inside_trans (x ∷ m) (y ∷ n) (z ∷ q) h k =
    let a = and_both (nat_eq x y) (is_inside m n) h in
    let b = and_both (nat_eq y z) (is_inside n q) k in
    both_and (nat_eq x z) (is_inside m q) (subst (λ (w : ℕ). nat_eq x w ≡ true) (same_number y z b.0) a.0) (inside_trans m n q a.1 b.1)

pub not_below_itself : (p : Path) (k : ℕ) → is_inside (child p k) p ≡ true → ⊥
not_below_itself [] k h = absurd (cc)
not_below_itself (x ∷ p) k h = not_below_itself p k (and_both (nat_eq x x) (is_inside (child p k) p) h).1

-- what is inside a child's place is inside the child, or is the child
pub inside_last : (d p : Path) (k : ℕ) → is_inside d (child p k) ≡ true → (is_inside d p ≡ true) ⊎ (d ≡ child p k)
inside_last [] p k h = inl refl
inside_last (x ∷ []) [] k h = inr (ap (λ (n : ℕ). n ∷ []) (same_number x k (and_both (nat_eq x k) true h).0))
inside_last (x ∷ y ∷ d) [] k h = absurd (not_both false (and_both (nat_eq x k) false h).1 refl)
inside_last (x ∷ d) (z ∷ p) k h =
    let b = and_both (nat_eq x z) (is_inside d (child p k)) h in
    elim (inside_last d p k b.1) [
      | inl i ↦ inl (both_and (nat_eq x z) (is_inside d p) b.0 i)
      | inr e ↦ inr (ap₂ (λ (a : ℕ) (l : Path). a ∷ l) (same_number x z b.0) e)
    ]

-- of two that something is inside of, one is inside the other
pub comparable : (m n q : Path) → is_inside m q ≡ true → is_inside n q ≡ true → (is_inside m n ≡ true) ⊎ (is_inside n m ≡ true)
comparable [] n q h k = inl refl
comparable (x ∷ m) [] q h k = inr refl
comparable (x ∷ m) (y ∷ n) [] h k = absurd (cc)
comparable (x ∷ m) (y ∷ n) (z ∷ q) h k =
    let a = and_both (nat_eq x z) (is_inside m q) h in
    let b = and_both (nat_eq y z) (is_inside n q) k in
    let xy : x ≡ y = same_number x z a.0 ∙ sym (same_number y z b.0) in
    let t : nat_eq x y ≡ true = subst (λ (w : ℕ). nat_eq x w ≡ true) xy (number_is x) in
    let u : nat_eq y x ≡ true = subst (λ (w : ℕ). nat_eq w x ≡ true) xy (number_is x) in
    elim (comparable m n q a.1 b.1) [
      | inl i ↦ inl (both_and (nat_eq x y) (is_inside m n) t i)
      | inr i ↦ inr (both_and (nat_eq y x) (is_inside n m) u i)
    ]

-- what lies outside an instance lies outside its children
pub outside_child : (m q : Path) (k : ℕ) → is_inside m q ≡ false → is_inside (child m k) q ≡ false
outside_child m q k h = not_true (is_inside (child m k) q) (λ t. not_both (is_inside m q) (inside_trans m (child m k) q (inside_child m m k (inside_itself m)) t) h)
