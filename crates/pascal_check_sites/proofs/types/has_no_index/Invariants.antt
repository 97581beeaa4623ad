use Rattle.std.proofs.Common.{◌≡◌, drop}
use Rattle.type_rules.specs.TypeSites.{has_no_index}
use Rattle.pascal_check_sites.proofs.types.has_no_index.Given as goal

abbrev pub invariant-loop-index : goal.invariant-loop-index
invariant-loop-index l = has_no_index l.table (drop l.index-index l.indices) ≡ has_no_index l.table l.indices
