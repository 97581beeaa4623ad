use Rattle.std.proofs.Common.{◌≡◌, ◌++◌, take, map}
use Rattle.flat_transitions.specs.Choices.{any_name}
use Rattle.flat_transitions.proofs.any_names.push_names.Given as goal

abbrev pub invariant-loop-name : goal.invariant-loop-name
invariant-loop-name l = l.out ≡ l.initial.out ++ map (λ x. any_name (x, l.denoter)) (take l.name-index l.names)
