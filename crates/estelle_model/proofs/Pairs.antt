-- The order of pairs: by path, and then by the transition's number.
use Rattle.std.proofs.Common.{◌≡◌, refl}
use Rattle.std.proofs.lemmas.Cmp.{nat_cmp_total, then_total}
use Rattle.std.specs.Cmp.{IsTotalOrder}
use Rattle.std.specs.Cmp.Lexicographic.{nat_list_cmp_total}
use Rattle.std.specs.FinMap.{nat_cmp-IsAntisymmetric, slice_cmp-IsAntisymmetric, IsAntisymmetric}
use Rattle.std.specs.Ordering.{nat_cmp, ordering_then}
use Rattle.std.specs.declared.cmp.Ordering.{Ordering}
use Rattle.std.specs.declared.cmp.Ordering.TheVariants.{Less, Equal, Greater}
use Rattle.estelle_tree.specs.declared.transition.Pair.{Pair}
use Rattle.estelle_tree.specs.Paths.{path_cmp}
use Rattle.estelle_tree.specs.Timers.{pair_cmp}

by_path : IsTotalOrder (λ (a b : Pair). path_cmp a.path b.path)
by_path = record {
  antisymm = λ a b. nat_list_cmp_total.antisymm a.path b.path;
  trans = λ a b c. nat_list_cmp_total.trans a.path b.path c.path;
  congr = λ a b c. nat_list_cmp_total.congr a.path b.path c.path;
}

pub pairs_total : IsTotalOrder pair_cmp
pairs_total = then_total by_path (record {
  antisymm = λ a b. nat_cmp_total.antisymm a.trans b.trans;
  trans = λ a b c. nat_cmp_total.trans a.trans b.trans c.trans;
  congr = λ a b c. nat_cmp_total.congr a.trans b.trans c.trans;
})

both_equal : (a b : Ordering) → ordering_then a b ≡ Equal → (a ≡ Equal) × (b ≡ Equal)
both_equal Equal b e = (refl, e)
both_equal Less b e = absurd (cc)
both_equal Greater b e = absurd (cc)

-- only equal pairs tie
pub pairs_apart : IsAntisymmetric pair_cmp
pairs_apart p q e =
    let both = both_equal (path_cmp p.path q.path) (nat_cmp p.trans q.trans) e in
    let paths = slice_cmp-IsAntisymmetric nat_cmp-IsAntisymmetric p.path q.path both.0 in
    let numbers = nat_cmp-IsAntisymmetric p.trans q.trans both.1 in
    λ i. record { path = paths i; trans = numbers i }
