-- What a renewal asks for (ISO/IEC 9074: `delay` clauses).
use Rattle.std.specs.Prelude.{List, map as each}
use Rattle.std.specs.List.{IsDistinct}
use Rattle.std.specs.Ordering.{eq_by_cmp}
use Rattle.estelle_tree.specs.declared.transition.Pair.{Pair}
use Rattle.estelle_tree.specs.declared.transition.Wanted.{Wanted}
use Rattle.estelle_tree.specs.Timers.{pair, pair_cmp}

-- the transition that is wanted
abbrev pub pair_of : Wanted → Pair
pair_of w = pair w.path w.trans

-- no transition is there twice
abbrev pub AreDifferent : List Wanted → Type 0
AreDifferent ws = IsDistinct (eq_by_cmp pair_cmp) (each pair_of ws)
