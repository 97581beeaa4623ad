-- Paths of children.
use Rattle.std.proofs.Common.{◌≡◌, ◌⊎◌, inl, inr, ◌≢◌, ◌<◌, ℕ, suc, ◌+◌, ◌-◌, Bool, true, false, [], ◌∷◌, length, take, refl, sym, ap, ◌∙◌, arith, true≢false, length-append, slice_index, slice_set, get_or}
use Rattle.std.specs.Cmp.Lexicographic.{bytes_decides}
use Rattle.estelle_tree.specs.Paths.{Path, child, parent_of, last_of}
use Rattle.module_tree.specs.Nodes.{same}

pub same_is : (p q : Path) → same p q ≡ true → p ≡ q
same_is p q = (bytes_decides p q).0

pub is_same : (p q : Path) → p ≡ q → same p q ≡ true
is_same p q = (bytes_decides p q).1

pub same_itself : (p : Path) → same p p ≡ true
same_itself p = is_same p p refl

pub differs : (p q : Path) → p ≢ q → same p q ≡ false
differs p q h = by (same p q) refl
  where
    by : (b : Bool) → same p q ≡ b → b ≡ false
    by true e = absurd (h (same_is p q e))
    by false e = refl

-- a child that is not the root of its own way
pub child_is : (p : Path) → p ≢ [] → p ≡ child (parent_of p) (last_of p)
child_is [] h = absurd (h refl)
child_is (k ∷ []) h = refl
child_is (k ∷ (n ∷ p)) h = ap (λ q. k ∷ q) (child_is (n ∷ p) (λ e. cc))

pub parent_of-child : (p : Path) (k : ℕ) → parent_of (child p k) ≡ p
parent_of-child [] k = refl
parent_of-child (n ∷ []) k = refl
parent_of-child (n ∷ (m ∷ p)) k = ap (λ q. n ∷ q) (parent_of-child (m ∷ p) k)

pub last_of-child : (p : Path) (k : ℕ) → last_of (child p k) ≡ k
last_of-child [] k = refl
last_of-child (n ∷ []) k = refl
last_of-child (n ∷ (m ∷ p)) k = last_of-child (m ∷ p) k

pub same_parent : (p q : Path) (j k : ℕ) → child p j ≡ child q k → p ≡ q
same_parent p q j k e = sym (parent_of-child p j) ∙ ap parent_of e ∙ parent_of-child q k

pub same_number : (p q : Path) (j k : ℕ) → child p j ≡ child q k → j ≡ k
same_number p q j k e = sym (last_of-child p j) ∙ ap last_of e ∙ last_of-child q k

pub length-child : (p : Path) (k : ℕ) → length (child p k) ≡ length p + 1
length-child p k = length-append p (k ∷ [])

pub not_own_child : (p : Path) (k : ℕ) → child p k ≢ p
not_own_child p k e = let l = length-child p k in let m = ap length e in omega arith

pub not_root : (p : Path) (k : ℕ) → child p k ≢ []
not_root p k e = let l = length-child p k in let m = ap length e in omega arith

front : (k : ℕ) (p : Path) → take (length p) (k ∷ p) ≡ parent_of (k ∷ p)
front k [] = refl
front k (n ∷ p) = ap (λ q. k ∷ q) (front n p)

pub parent_of-take : (p : Path) → take (length p - 1) p ≡ parent_of p
parent_of-take [] = refl
parent_of-take (k ∷ p) = let e : suc (length p) - 1 ≡ length p = omega arith in ap (λ n. take n (k ∷ p)) e ∙ front k p

end : (k : ℕ) (p : Path) → slice_index (k ∷ p) (length p) ≡ last_of (k ∷ p)
end k [] = refl
end k (n ∷ p) = end n p

pub last_of-index : (p : Path) → slice_index p (length p - 1) ≡ last_of p
last_of-index [] = refl
last_of-index (k ∷ p) = let e : suc (length p) - 1 ≡ length p = omega arith in ap (slice_index (k ∷ p)) e ∙ end k p

pub cases_path : (p q : Path) → (p ≡ q) ⊎ (p ≢ q)
cases_path p q = by (same p q) refl
  where
    by : (b : Bool) → same p q ≡ b → (p ≡ q) ⊎ (p ≢ q)
    by true e = inl (same_is p q e)
    by false e = inr (λ is. true≢false (sym (is_same p q is) ∙ e))

pub set_last_number : (p : Path) (z : ℕ) → p ≢ [] → slice_set p (length p - 1) z ≡ child (parent_of p) z
set_last_number [] z h = absurd (h refl)
set_last_number (k ∷ p) z h = let e : suc (length p) - 1 ≡ length p = omega arith in ap (λ n. slice_set (k ∷ p) n z) e ∙ by k p
  where
    by : (k : ℕ) (p : Path) → slice_set (k ∷ p) (length p) z ≡ child (parent_of (k ∷ p)) z
    by k [] = refl
    by k (n ∷ p) = ap (λ q. k ∷ q) (by n p)

pub length_some : (p : Path) → p ≢ [] → 0 < length p
length_some [] h = absurd (h refl)
length_some (k ∷ p) h = omega arith

-- the last number is put back
pub restored : (p q r : Path) (z k : ℕ) → q ≡ child (parent_of p) z → r ≡ child (parent_of q) k → k ≡ last_of p → p ≢ [] → r ≡ p
restored p q r z k is put last some =
    put ∙ ap (λ n. child (parent_of q) n) last ∙ ap (λ m. child m (last_of p)) (ap parent_of is ∙ parent_of-child (parent_of p) z) ∙ sym (child_is p some)

-- what is read at the end of a list
pub last_is : (p : Path) (n k : ℕ) → n ≡ length p → p ≢ [] → k ≡ get_or p (n - 1) k → k ≡ last_of p
last_is [] n k len some is = absurd (some refl)
last_is (i ∷ p) n k len some is = is ∙ ap (λ j. get_or (i ∷ p) j k) (omega arith) ∙ by i p
  where
    by : (i : ℕ) (p : Path) → get_or (i ∷ p) (length p) k ≡ last_of (i ∷ p)
    by i [] = refl
    by i (n ∷ p) = by n p
