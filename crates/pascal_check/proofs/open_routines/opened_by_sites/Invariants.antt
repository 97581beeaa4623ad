use Rattle.std.proofs.Common.{◌≡◌, [], drop}
use Rattle.pascal_check.specs.Opening.{opened_after}
use Rattle.pascal_check.proofs.open_routines.opened_by_sites.Given as goal

abbrev pub invariant-loop-placed : goal.invariant-loop-placed
invariant-loop-placed l = opened_after l.opened.keys (drop l.placed-index l.sites) ≡ opened_after [] l.sites
