-- Paths in their order.
use Rattle.std.proofs.Common.{◌≡◌, ◌≢◌, ◌<◌, ◌≤◌, ℕ, not, [], ◌∷◌, ◌++◌, refl, sym, ap, ◌∙◌, arith, append-nil}
use Rattle.std.specs.Ordering.{nat_cmp, ordering_then, ordering_reverse, is_lt}
use Rattle.std.specs.Cmp.{nat_cmp_total, nat_cmp_is, ranked, tied_itself}
use Rattle.std.specs.FinMap.{nat_cmp-IsAntisymmetric}
use Rattle.std.specs.declared.cmp.Ordering.{Ordering}
use Rattle.std.specs.declared.cmp.Ordering.TheVariants.{Less, Equal, Greater}
use Rattle.estelle_tree.specs.Paths.{Path, path_cmp, child}
use Rattle.module_tree.proofs.Seen.{total, apart}

pub same_way : (m q r : Path) → path_cmp (m ++ q) (m ++ r) ≡ path_cmp q r
same_way [] q r = refl
same_way (k ∷ m) q r = ap (λ o. ordering_then o (path_cmp (m ++ q) (m ++ r))) (tied_itself nat_cmp_total k) ∙ same_way m q r

pub through : (m : Path) (k : ℕ) (r : Path) → child m k ++ r ≡ m ++ (k ∷ r)
through [] k r = refl
through (n ∷ m) k r = ap (λ p. n ∷ p) (through m k r)

-- what is below an instance comes after it
pub longer : (m : Path) (k : ℕ) (r : Path) → path_cmp m (m ++ (k ∷ r)) ≡ Less
longer m k r = ap (λ p. path_cmp p (m ++ (k ∷ r))) (sym (append-nil m)) ∙ same_way m [] (k ∷ r)

pub not_before_itself : (p : Path) → path_cmp p p ≢ Less
not_before_itself p e = let h : Less ≡ Equal = sym e ∙ tied_itself total p in absurd (cc)

-- what lies between two paths that begin alike begins so too
pub squeezed : (m a b q : Path) → path_cmp (m ++ a) q ≡ Less → path_cmp q (m ++ b) ≡ Less → (r : Path) × (q ≡ m ++ r)
squeezed [] a b q e f = (q, refl)
squeezed (n ∷ m) a b [] e f = absurd (cc)
squeezed (n ∷ m) a b (j ∷ q) e f = by (nat_cmp n j) refl e (ap (λ o. ordering_then o (path_cmp q (m ++ b))) (sym (nat_cmp_total.antisymm j n)) ∙ f) (squeezed m a b q)
  where
    by : (o : Ordering) → nat_cmp n j ≡ o → ordering_then o (path_cmp (m ++ a) q) ≡ Less → ordering_then (ordering_reverse o) (path_cmp q (m ++ b)) ≡ Less
        → (path_cmp (m ++ a) q ≡ Less → path_cmp q (m ++ b) ≡ Less → (r : Path) × (q ≡ m ++ r)) → (r : Path) × (j ∷ q ≡ n ∷ (m ++ r))
    by Less is e f rest = absurd (cc)
    by Equal is e f rest = let r = rest e f in (r.0, ap (λ k. k ∷ q) (sym (nat_cmp-IsAntisymmetric n j is)) ∙ ap (λ p. n ∷ p) r.1)
    by Greater is e f rest = absurd (cc)

pub lower : (j k : ℕ) (r s : Path) → path_cmp (j ∷ r) (k ∷ s) ≡ Less → j ≤ k
lower j k r s e = by (nat_cmp j k) refl e
  where
    by : (o : Ordering) → nat_cmp j k ≡ o → ordering_then o (path_cmp r s) ≡ Less → j ≤ k
    by Less is e = let h : j < k = ranked j k Less (sym is) in omega arith
    by Equal is e = let h : j ≡ k = ranked j k Equal (sym is) in omega arith
    by Greater is e = absurd (cc)

pub lower_sibling : (j k : ℕ) (r : Path) → path_cmp (j ∷ r) (k ∷ []) ≡ Less → j < k
lower_sibling j k r e = by (nat_cmp j k) refl r e
  where
    by : (o : Ordering) → nat_cmp j k ≡ o → (r : Path) → ordering_then o (path_cmp r []) ≡ Less → j < k
    by Less is r e = ranked j k Less (sym is)
    by Equal is [] e = absurd (cc)
    by Equal is (n ∷ r) e = absurd (cc)
    by Greater is r e = absurd (cc)

pub number_before : (j k : ℕ) (r s : Path) → j < k → path_cmp (j ∷ r) (k ∷ s) ≡ Less
number_before j k r s h = ap (λ o. ordering_then o (path_cmp r s)) (sym (nat_cmp_is j k Less h))

-- where nothing lies between two paths, a path is after the first where it is not before the second
pub next_to : (w v q : Path) → path_cmp w v ≡ Less → (path_cmp w q ≡ Less → path_cmp q v ≢ Less) → is_lt (path_cmp w q) ≡ not (is_lt (path_cmp q v))
next_to w v q e none = by (path_cmp w q) refl (path_cmp q v) refl
  where
    by : (o : Ordering) → path_cmp w q ≡ o → (u : Ordering) → path_cmp q v ≡ u → is_lt o ≡ not (is_lt u)
    by Less a Less b = absurd (none a b)
    by Less a Equal b = refl
    by Less a Greater b = refl
    by Equal a Less b = refl
    by Greater a Less b = refl
    by Equal a Equal b = let h : Less ≡ Equal = sym e ∙ ap (λ p. path_cmp p v) (apart w q a) ∙ b in absurd (cc)
    by Equal a Greater b = let h : Less ≡ Greater = sym e ∙ ap (λ p. path_cmp p v) (apart w q a) ∙ b in absurd (cc)
    by Greater a Equal b = let h : Less ≡ Greater = sym e ∙ ap (path_cmp w) (sym (apart q v b)) ∙ a in absurd (cc)
    by Greater a Greater b = let h : Less ≡ Greater = sym (total.trans w v q e (total.antisymm v q ∙ ap ordering_reverse b)) ∙ a in absurd (cc)
