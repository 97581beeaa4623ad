use Rattle.std.proofs.Common.{take, ◌≤◌}
use Rattle.pascal_values.proofs.SetLemmas.{Rises}
use Rattle.pascal_values.proofs.ordinals.rise.Given as goal

abbrev pub invariant-loop-n : goal.invariant-loop-n
invariant-loop-n l = record {
  rises : Rises 0 (take l.n-index l.ordinals) l.least;
  small : l.least ≤ 256;
}
