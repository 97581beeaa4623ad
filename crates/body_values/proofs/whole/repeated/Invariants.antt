use Rattle.std.proofs.Common.{◌≡◌, replicate}
use Rattle.body_values.proofs.whole.repeated.Given as goal

abbrev pub invariant-loop : goal.invariant-loop
invariant-loop l = record {
  made : l.values ≡ replicate l.counter l.initial.value;
  same : l.value ≡ l.initial.value;
}
