use Rattle.std.proofs.Common.{◌≡◌, ◌≤◌, ◌++◌, length, drop, map, reverse}
use Rattle.estelle_model.specs.Types.{shape_of}
use Rattle.body_kinds.specs.Kinds.{kind_of}
use Rattle.body_unit_kinds.specs.Seen.{stack_of}
use Rattle.body_unit_kinds.proofs.arguments.below_values.Given as goal

-- the last ones stand above the rest
abbrev pub invariant-taking : goal.invariant-taking
invariant-taking l = (l.left ≤ length l.types) × (stack_of l.fn.stack ≡ reverse (map (λ t. kind_of (shape_of t)) (drop l.left l.types)) ++ stack_of l.rest)

abbrev pub decreases-taking : goal.decreases-taking
decreases-taking l = l.left
