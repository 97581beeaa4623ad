use Rattle.std.proofs.Common.{◌≡◌, ◌++◌, take}
use Rattle.flat_transitions.proofs.states.push_states.Given as goal

abbrev pub invariant-loop-state : goal.invariant-loop-state
invariant-loop-state l = l.out ≡ l.initial.out ++ take l.state-index l.states
