use Rattle.std.proofs.Common.{◌≡◌, ◌++◌, ◌-◌, ◌<◌, ◌≤◌, drop, length}
use Rattle.std.specs.Fmt.{decimal}
use Rattle.pascal_values.proofs.digits.longest.Given as goal

abbrev pub invariant-loop-more : goal.invariant-loop-more
invariant-loop-more l = record {
  fits : l.n ≤ l.greatest;
  goes : l.at < l.end;
  within : l.end ≤ length l.bytes;
  is : drop l.at l.bytes ≡ decimal l.n ++ drop l.end l.bytes;
}

abbrev pub decreases-loop-more : goal.decreases-loop-more
decreases-loop-more l = length l.bytes - l.end
