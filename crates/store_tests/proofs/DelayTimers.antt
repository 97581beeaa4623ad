-- Short lists of transitions in which none is there twice.
use Rattle.std.proofs.Common.{◌≡◌, ◌≢◌, Bool, true, false, [], ◌∷◌, refl, ap}
use Rattle.std.specs.Ordering.{eq_by_cmp}
use Rattle.std.specs.List.{IsDistinct}
use Rattle.std.proofs.lemmas.Map.Keys.{IsDistinct-cons}
use Rattle.estelle_tree.specs.declared.transition.Pair.{Pair}
use Rattle.estelle_tree.specs.declared.transition.Wanted.{Wanted}
use Rattle.estelle_tree.specs.Timers.{pair_cmp}
use Rattle.delay_timers.specs.Moments.{pair_of, AreDifferent}
use Rattle.delay_timers.proofs.Orders.{same_pair}

pub no_two : AreDifferent []
unfolding IsDistinct
no_two = tt

pub alone : (w : Wanted) → AreDifferent (w ∷ [])
alone w = IsDistinct-cons (eq_by_cmp pair_cmp) (pair_of w) [] tt no_two

apart : (v w : Wanted) → v.trans ≢ w.trans → (b : Bool) → eq_by_cmp pair_cmp (pair_of v) (pair_of w) ≡ b → b ≡ false
apart v w ne true e = absurd (ne (ap (λ (p : Pair). p.trans) (same_pair (pair_of v) (pair_of w) e)))
apart v w ne false e = refl

pub two_numbers : (v w : Wanted) → v.trans ≢ w.trans → AreDifferent (v ∷ w ∷ [])
two_numbers v w ne = IsDistinct-cons (eq_by_cmp pair_cmp) (pair_of v) (pair_of w ∷ []) (apart v w ne _ refl, tt) (alone w)
