use Rattle.std.proofs.Common.{nat_eq, ◌-◌, ◌^◌}
use Rattle.indexmap.specs.IndexMap.{get}
use Rattle.pascal_check.specs.Opening.{noted_callers}
use Rattle.pascal_check.proofs.Following.{Following}
use Rattle.pascal_check.proofs.open_routines.open_all_callers.Given as goal

abbrev pub invariant-loop-at : goal.invariant-loop-at
invariant-loop-at l = Following (λ x. noted_callers (get nat_eq l.callers x)) l.initial.opened.keys l.opened.keys l.at

-- no list is longer than that
abbrev pub decreases-loop-at : goal.decreases-loop-at
decreases-loop-at l = 2 ^ 64 - l.at
