use Rattle.std.proofs.Common.{◌≡◌, ℕ, List, take}
use Rattle.std.specs.List.{flat_map}
use Rattle.flat_transitions.proofs.states.joined.Given as goal

abbrev pub invariant-loop-set : goal.invariant-loop-set
invariant-loop-set l = l.states ≡ flat_map (λ (s : List ℕ). s) (take l.set-index l.sets)
