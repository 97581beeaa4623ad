use Rattle.std.proofs.Common.{◌≡◌, ℕ, ◌++◌, nat_eq, drop}
use Rattle.indexmap.specs.IndexMap.{get}
use Rattle.pascal_check.specs.Opening.{noted_callers, callers_in}
use Rattle.pascal_check.proofs.open_routines.callers_of_routines.Given as goal

abbrev pub invariant-loop-placed : goal.invariant-loop-placed
invariant-loop-placed l = (x : ℕ) → noted_callers (get nat_eq l.callers x) ++ callers_in (drop l.placed-index l.sites) x ≡ callers_in l.sites x
