use Rattle.std.proofs.Common.{◌≡◌, take, [], nat_eq}
use Rattle.indexmap.specs.IndexSet.{insert_all}
use Rattle.flat_transitions.proofs.states.set_of.Given as goal

abbrev pub invariant-loop-state : goal.invariant-loop-state
invariant-loop-state l = l.set.keys ≡ insert_all nat_eq [] (take l.state-index l.states)
