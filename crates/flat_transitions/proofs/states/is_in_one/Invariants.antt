use Rattle.std.proofs.Common.{◌≡◌, take, false, nat_eq}
use Rattle.std.specs.List.{list_any}
use Rattle.flat_transitions.proofs.states.is_in_one.Given as goal

abbrev pub invariant-loop-set : goal.invariant-loop-set
invariant-loop-set l = list_any (list_any (nat_eq l.state)) (take l.set-index l.sets) ≡ false
