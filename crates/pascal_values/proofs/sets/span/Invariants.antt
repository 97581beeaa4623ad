use Rattle.std.proofs.Common.{◌≡◌, ◌≤◌, ◌+◌, ◌-◌, max}
use Rattle.std.specs.List.{range_with_len}
use Rattle.pascal_values.proofs.sets.span.Given as goal

abbrev pub invariant-loop-n : goal.invariant-loop-n
invariant-loop-n l = record {
  made : l.ordinals.items ≡ range_with_len l.low (l.n - l.low);
  n_in : l.n ≤ max l.low (l.high + 1);
}
