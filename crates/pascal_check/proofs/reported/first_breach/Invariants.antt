use Rattle.std.proofs.Common.{◌≡◌, nat_eq, drop, None}
use Rattle.indexmap.specs.IndexSet.{contains}
use Rattle.pascal_check.specs.Faults.{first_after}
use Rattle.pascal_check.proofs.reported.first_breach.Given as goal

abbrev pub invariant-loop-placed : goal.invariant-loop-placed
invariant-loop-placed l = first_after (contains nat_eq l.opened) l.first (drop l.placed-index l.sites) ≡ first_after (contains nat_eq l.opened) None l.sites
