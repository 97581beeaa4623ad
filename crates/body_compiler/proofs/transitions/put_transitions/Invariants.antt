use Rattle.std.proofs.Common.{ℕ, ◌+◌, ◌*◌, ◌<◌}
use Rattle.body_compiler.specs.Whole.{Comes, HasNumbered}
use Rattle.body_compiler.proofs.transitions.put_transitions.Given as goal

abbrev pub invariant-loop-index : goal.invariant-loop-index
invariant-loop-index l = record {
  comes : Comes l.initial.units l.units l.body 2 (3 * l.index + 3);
  has : (k : ℕ) → k < l.index + 1 → HasNumbered l.numbering l.units l.body k;
}
