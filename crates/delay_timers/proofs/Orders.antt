-- The order of pairs of an instance and a transition.
use Rattle.std.specs.Prelude.{cond}
use Rattle.std.proofs.Common.{◌≡◌, ℕ, Bool, true, false, refl}
use Rattle.std.specs.Ordering.{is_eq, nat_cmp, ordering_then, eq_by_cmp}
use Rattle.std.specs.Cmp.{IsTotalOrder, nat_cmp_total, eq_by_cmp_equiv, then_total}
use Rattle.std.specs.Cmp.Lexicographic.{nat_list_cmp_total}
use Rattle.std.specs.FinMap.{IsAntisymmetric, slice_cmp-IsAntisymmetric, nat_cmp-IsAntisymmetric}
use Rattle.std.specs.declared.cmp.Ordering.{Ordering}
use Rattle.std.specs.declared.cmp.Ordering.TheVariants.{Less, Equal, Greater}
use Rattle.estelle_tree.specs.declared.transition.Pair.{Pair}
use Rattle.estelle_tree.specs.Paths.{Path, path_cmp}
use Rattle.estelle_tree.specs.Timers.{pair_cmp}

pub equal : (r : Ordering) → is_eq r ≡ true → r ≡ Equal
equal Less e = absurd (cc)
equal Equal e = refl
equal Greater e = absurd (cc)

pub same_path : (p q : Path) → is_eq (path_cmp p q) ≡ true → p ≡ q
same_path p q e = slice_cmp-IsAntisymmetric nat_cmp-IsAntisymmetric p q (equal _ e)

pub same_number : (m n : ℕ) → is_eq (nat_cmp m n) ≡ true → m ≡ n
same_number m n e = nat_cmp-IsAntisymmetric m n (equal _ e)

pub path_itself : (p : Path) → is_eq (path_cmp p p) ≡ true
path_itself p = (eq_by_cmp_equiv nat_list_cmp_total).refl p

pub number_itself : (n : ℕ) → is_eq (nat_cmp n n) ≡ true
number_itself n = (eq_by_cmp_equiv nat_cmp_total).refl n

pub numbers_turned : (m n : ℕ) → is_eq (nat_cmp m n) ≡ is_eq (nat_cmp n m)
numbers_turned m n = (eq_by_cmp_equiv nat_cmp_total).symm m n

pub paths_turned : (p q : Path) → is_eq (path_cmp p q) ≡ is_eq (path_cmp q p)
paths_turned p q = (eq_by_cmp_equiv nat_list_cmp_total).symm p q

by_path : IsTotalOrder (λ (a b : Pair). path_cmp a.path b.path)
by_path = record {
  antisymm = λ a b. nat_list_cmp_total.antisymm a.path b.path;
  trans = λ a b c. nat_list_cmp_total.trans a.path b.path c.path;
  congr = λ a b c. nat_list_cmp_total.congr a.path b.path c.path;
}

pub pairs_total : IsTotalOrder pair_cmp
pairs_total = then_total by_path (record {
  antisymm = λ a b. nat_cmp_total.antisymm a.trans b.trans;
  trans = λ a b c. nat_cmp_total.trans a.trans b.trans c.trans;
  congr = λ a b c. nat_cmp_total.congr a.trans b.trans c.trans;
})

both_equal : (a b : Ordering) → ordering_then a b ≡ Equal → (a ≡ Equal) × (b ≡ Equal)
both_equal Equal b e = (refl, e)
both_equal Less b e = absurd (cc)
both_equal Greater b e = absurd (cc)

pub pairs_apart : IsAntisymmetric pair_cmp
pairs_apart p q e =
    let both = both_equal (path_cmp p.path q.path) (nat_cmp p.trans q.trans) e in
    let paths = slice_cmp-IsAntisymmetric nat_cmp-IsAntisymmetric p.path q.path both.0 in
    let numbers = nat_cmp-IsAntisymmetric p.trans q.trans both.1 in
    λ i. record { path = paths i; trans = numbers i }

pub same_pair : (p q : Pair) → eq_by_cmp pair_cmp p q ≡ true → p ≡ q
same_pair p q e = pairs_apart p q (equal _ e)

pub pair_itself : (q : Pair) → eq_by_cmp pair_cmp q q ≡ true
pair_itself q = (eq_by_cmp_equiv pairs_total).refl q

pub pairs_turned : (p q : Pair) → eq_by_cmp pair_cmp p q ≡ eq_by_cmp pair_cmp q p
pairs_turned p q = (eq_by_cmp_equiv pairs_total).symm p q

-- pairs tie where their paths and their numbers do
pub by_parts : (a b : Ordering) (s : Bool) → is_eq a ≡ s → is_eq (ordering_then a b) ≡ cond s (is_eq b) false
by_parts Less b s e = rw (← e) refl
by_parts Equal b s e = rw (← e) refl
by_parts Greater b s e = rw (← e) refl
