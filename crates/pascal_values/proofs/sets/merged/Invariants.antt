use Rattle.std.proofs.Common.{length, ◌-◌, ◌+◌, ◌≡◌, ◌≤◌, ◌++◌, drop}
use Rattle.pascal_values.specs.Sets.{union}
use Rattle.pascal_values.proofs.sets.merged.Given as goal

abbrev pub invariant-loop-i : goal.invariant-loop-i
invariant-loop-i l = record {
  i_in : l.i ≤ length l.a;
  j_in : l.j ≤ length l.b;
  rest : l.ordinals.items ++ union (drop l.i l.a) (drop l.j l.b) ≡ union l.a l.b;
}

abbrev pub decreases-loop-i : goal.decreases-loop-i
decreases-loop-i l = (length l.a - l.i) + (length l.b - l.j)
