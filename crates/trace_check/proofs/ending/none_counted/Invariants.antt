use Rattle.std.proofs.Common.{◌≡◌, ◌<◌, ℕ, [], Some}
use Rattle.std.specs.Prelude.{slice_get}
use Rattle.transition_select.specs.declared.countings.Counting.{Counting}
use Rattle.trace_check.proofs.ending.none_counted.Given as goal

abbrev pub invariant-loop-counting : goal.invariant-loop-counting
invariant-loop-counting l = (k : ℕ) (c : Counting) → k < l.counting-index → slice_get l.counts k ≡ Some c → c.transitions.items ≡ []
