use Rattle.std.proofs.Common.{◌≡◌, take, filter}
use Rattle.pascal_values.specs.Sets.{is_member}
use Rattle.pascal_values.proofs.sets.meet.Given as goal

abbrev pub invariant-loop-n : goal.invariant-loop-n
invariant-loop-n l = l.ordinals.items ≡ filter (λ n. is_member n l.b) (take l.n-index l.n-items)
