use Rattle.estelle_tree.specs.Timers.{pair}
use Rattle.situation_state.specs.Places.{NoneBefore}
use Rattle.situation_state.proofs.list.place_in.Given as goal

abbrev pub invariant-loop-at : goal.invariant-loop-at
invariant-loop-at l = NoneBefore (pair l.path l.trans) l.pending.items l.at
