use Rattle.std.proofs.Common.{◌≡◌, take, filter, not}
use Rattle.pascal_values.specs.Sets.{is_member}
use Rattle.pascal_values.proofs.sets.minus.Given as goal

abbrev pub invariant-loop-n : goal.invariant-loop-n
invariant-loop-n l = l.ordinals.items ≡ filter (λ n. not (is_member n l.b)) (take l.n-index l.n-items)
