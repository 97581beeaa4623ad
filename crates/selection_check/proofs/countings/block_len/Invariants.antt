use Rattle.std.proofs.Common.{◌≡◌, ◌≤◌, ◌+◌, drop}
use Rattle.selection_check.specs.Countings as spec
use Rattle.selection_check.proofs.countings.block_len.Given as goal

abbrev pub invariant-loop-counting : goal.invariant-loop-counting
invariant-loop-counting l = record {
  passed : l.count + spec.block_len l.path (drop l.counting-index l.counts) ≡ spec.block_len l.path l.counts;
  within : l.count ≤ l.counting-index;
}
