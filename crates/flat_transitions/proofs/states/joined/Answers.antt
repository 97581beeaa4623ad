use Rattle.std.proofs.Common.{◌∙◌, ℕ, List, rules, ap}
use Rattle.std.specs.List.{flat_map}
use Rattle.std.proofs.lemmas.List.{take_all}
use Rattle.flat_transitions.proofs.states.joined.Goals as goal

pub returns : goal.returns
returns c = c.loop-set.invariant ∙ ap (flat_map (λ (s : List ℕ). s)) (take_all c.loop-set.set-index c.args.sets.now (search rules))
