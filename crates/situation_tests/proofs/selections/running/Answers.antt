use Rattle.std.proofs.Common.{[]}
use Rattle.std.specs.Ordering.{eq_by_cmp}
use Rattle.std.specs.List.{IsDistinct}
use Rattle.std.proofs.lemmas.Map.Keys.{IsDistinct-cons}
use Rattle.estelle_tree.specs.Timers.{pair_cmp}
use Rattle.delay_timers.specs.Moments.{AreDifferent}
use Rattle.situation_tests.proofs.selections.running.Goals as goal

no_two : AreDifferent []
unfolding IsDistinct
no_two = tt

pub renew-requires : goal.renew-requires
renew-requires c = IsDistinct-cons (eq_by_cmp pair_cmp) _ [] tt no_two
