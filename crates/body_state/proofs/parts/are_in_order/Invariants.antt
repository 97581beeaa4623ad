use Rattle.std.specs.List.{AllAdjacentBelow}
use Rattle.body_state.proofs.LentLemmas.{IsBelow}
use Rattle.body_state.proofs.parts.are_in_order.Given as goal

abbrev pub invariant-loop-i : goal.invariant-loop-i
invariant-loop-i l = AllAdjacentBelow IsBelow l.parts l.i
