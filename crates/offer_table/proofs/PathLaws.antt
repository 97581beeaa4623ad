-- The order of paths.
use Rattle.std.proofs.Common.{◌≡◌, Bool, true, false, [], ◌∷◌, refl, sym, ap, subst, ◌∙◌}
use Rattle.std.specs.Prelude.{◌&&◌, nat_eq}
use Rattle.std.specs.Cmp.{IsTotalOrder, nat_cmp_total, tied_itself, unsigned_tied}
use Rattle.std.specs.Cmp.Lexicographic.{nat_list_cmp_total}
use Rattle.std.specs.FinMap.{IsAntisymmetric, nat_cmp-IsAntisymmetric, slice_cmp-IsAntisymmetric}
use Rattle.std.specs.Ordering.{is_lt, is_le, is_eq, nat_cmp, ordering_then, ordering_reverse}
use Rattle.std.specs.Str.{bytes_eq}
use Rattle.std.specs.declared.cmp.Ordering.{Ordering}
use Rattle.std.specs.declared.cmp.Ordering.TheVariants.{Less, Equal, Greater}
use Rattle.std.proofs.lemmas.Map.Text.{is_eq-slice_cmp}
use Rattle.estelle_tree.specs.Paths.{Path, path_cmp, is_inside}

pub total : IsTotalOrder path_cmp
total = nat_list_cmp_total

pub apart : IsAntisymmetric path_cmp
apart = slice_cmp-IsAntisymmetric nat_cmp-IsAntisymmetric

pub turned : (p q : Path) (o : Ordering) → path_cmp p q ≡ o → path_cmp q p ≡ ordering_reverse o
turned p q o e = total.antisymm q p ∙ ap ordering_reverse e

pub is_less : (o : Ordering) → is_lt o ≡ true → o ≡ Less
is_less Less e = refl
is_less Equal e = absurd (cc)
is_less Greater e = absurd (cc)

-- ---- the same path

pub same_itself : (p : Path) → bytes_eq p p ≡ true
same_itself p = sym (is_eq-slice_cmp p p) ∙ ap is_eq (tied_itself total p)

pub same_path : (p q : Path) → bytes_eq p q ≡ true → p ≡ q
same_path p q e = by (path_cmp p q) refl (is_eq-slice_cmp p q ∙ e)
  where
    by : (o : Ordering) → path_cmp p q ≡ o → is_eq (path_cmp p q) ≡ true → p ≡ q
    by Less d f = let g = ap is_eq d in absurd (cc)
    by Equal d f = apart p q d
    by Greater d f = let g = ap is_eq d in absurd (cc)

pub differs_after : (p q : Path) → path_cmp p q ≡ Less → bytes_eq p q ≡ false
differs_after p q e = sym (is_eq-slice_cmp p q) ∙ ap is_eq e

pub differs_before : (p q : Path) → path_cmp q p ≡ Less → bytes_eq p q ≡ false
differs_before p q e = sym (is_eq-slice_cmp p q) ∙ ap is_eq (turned q p Less e)

-- ---- before and after

pub less_le : (a p b : Path) → path_cmp a p ≡ Less → is_le (path_cmp p b) ≡ true → path_cmp a b ≡ Less
less_le a p b less le = by (path_cmp p b) refl le
  where
    by : (o : Ordering) → path_cmp p b ≡ o → is_le o ≡ true → path_cmp a b ≡ Less
    by Less e h = total.trans a p b less e
    by Equal e h = subst (λ q. path_cmp a q ≡ Less) (apart p b e) less
    by Greater e h = absurd (cc)

pub le_itself : (p q : Path) → q ≡ p → is_le (path_cmp p q) ≡ true
le_itself p q e = ap (λ r. is_le (path_cmp p r)) e ∙ ap is_le (tied_itself total p)

pub le_from_not_before : (p q : Path) → is_lt (path_cmp q p) ≡ false → is_le (path_cmp p q) ≡ true
le_from_not_before p q h = by (path_cmp q p) refl h
  where
    by : (o : Ordering) → path_cmp q p ≡ o → is_lt o ≡ false → is_le (path_cmp p q) ≡ true
    by Less e h = absurd (cc)
    by Equal e h = ap is_le (turned q p Equal e)
    by Greater e h = ap is_le (turned q p Greater e)

-- ---- what is inside of an instance stands together

left : (a b : Bool) → (a && b) ≡ true → a ≡ true
left true b e = refl
left false b e = e

right : (a b : Bool) → (a && b) ≡ true → b ≡ true
right true b e = e
right false b e = absurd (cc)

-- an instance is not before what is inside of it
inside_le : (p q : Path) → is_inside p q ≡ true → is_le (path_cmp p q) ≡ true
inside_le [] [] e = refl
inside_le [] (n ∷ q) e = refl
inside_le (k ∷ p) [] e = absurd (cc)
inside_le (k ∷ p) (n ∷ q) e = by (inside_le p q (right (nat_eq k n) (is_inside p q) e)) (nat_cmp k n) refl
  where
    by : is_le (path_cmp p q) ≡ true → (a : Ordering) → nat_cmp k n ≡ a → is_le (ordering_then a (path_cmp p q)) ≡ true
    by rest Less h = refl
    by rest Equal h = rest
    by rest Greater h = let i = unsigned_tied k n in let j = left (nat_eq k n) (is_inside p q) e in let g = ap is_eq h in absurd (cc)

pub not_inside_before : (p q : Path) → path_cmp q p ≡ Less → is_inside p q ≡ false
not_inside_before p q e = by (is_inside p q) refl
  where
    by : (b : Bool) → is_inside p q ≡ b → b ≡ false
    by true h = let le = inside_le p q h in let more = ap is_le (turned q p Less e) in absurd (cc)
    by false h = refl

-- what stands between an instance and what is inside of it is inside
pub inside_between : (p a b : Path) → is_le (path_cmp p a) ≡ true → path_cmp a b ≡ Less → is_inside p b ≡ true → is_inside p a ≡ true
inside_between [] a b le less h = refl
inside_between (k ∷ p) [] b le less h = absurd (cc)
inside_between (k ∷ p) (n ∷ a) [] le less h = absurd (cc)
inside_between (k ∷ p) (n ∷ a) (m ∷ b) le less h = by (inside_between p a b) (nat_cmp k n) (nat_cmp n m) refl refl le less
  where
    same : k ≡ m
    same = nat_cmp-IsAntisymmetric k m (tied (nat_cmp k m) (unsigned_tied k m ∙ left (nat_eq k m) (is_inside p b) h))
      where
        tied : (o : Ordering) → is_eq o ≡ true → o ≡ Equal
        tied Less e = absurd (cc)
        tied Equal e = refl
        tied Greater e = absurd (cc)

    never : nat_cmp k n ≡ Less → nat_cmp n m ≡ Less → Less ≡ Equal
    never f g = sym (nat_cmp_total.trans k n m f g) ∙ ap (nat_cmp k) (sym same) ∙ tied_itself nat_cmp_total k

    by : (is_le (path_cmp p a) ≡ true → path_cmp a b ≡ Less → is_inside p b ≡ true → is_inside p a ≡ true) → (f g : Ordering) → nat_cmp k n ≡ f → nat_cmp n m ≡ g
        → is_le (ordering_then f (path_cmp p a)) ≡ true → ordering_then g (path_cmp a b) ≡ Less → (nat_eq k n && is_inside p a) ≡ true
    by rest Less Less d e l t = let x = never d e in absurd (cc)
    by rest Less Equal d e l t = let x : Less ≡ Equal = sym d ∙ ap (nat_cmp k) (nat_cmp-IsAntisymmetric n m e ∙ sym same) ∙ tied_itself nat_cmp_total k in absurd (cc)
    by rest Less Greater d e l t = absurd (cc)
    by rest Equal Less d e l t = let x : Less ≡ Equal = sym e ∙ ap (λ i. nat_cmp i m) (sym (nat_cmp-IsAntisymmetric k n d)) ∙ ap (nat_cmp k) (sym same) ∙ tied_itself nat_cmp_total k in absurd (cc)
    by rest Equal Equal d e l t = (λ i. (sym (unsigned_tied k n) ∙ ap is_eq d) i && rest l t (right (nat_eq k m) (is_inside p b) h) i)
    by rest Equal Greater d e l t = absurd (cc)
    by rest Greater g d e l t = absurd (cc)
