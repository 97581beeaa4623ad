use Rattle.std.proofs.Common.{◌≡◌, ◌++◌, take}
use Rattle.flat_transitions.proofs.in_force.push_types.Given as goal

abbrev pub invariant-loop-denoter : goal.invariant-loop-denoter
invariant-loop-denoter l = l.out ≡ l.initial.out ++ take l.denoter-index l.types
