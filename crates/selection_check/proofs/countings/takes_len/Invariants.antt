use Rattle.std.proofs.Common.{◌≡◌, ◌≤◌, ◌+◌, drop}
use Rattle.selection_check.specs.Countings as spec
use Rattle.selection_check.proofs.countings.takes_len.Given as goal

abbrev pub invariant-loop-take : goal.invariant-loop-take
invariant-loop-take l = record {
  passed : l.count + spec.takes_len l.path (drop l.take-index l.takes) ≡ spec.takes_len l.path l.takes;
  within : l.count ≤ l.take-index;
}
