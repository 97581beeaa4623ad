use Rattle.std.proofs.Common.{◌≡◌, ◌≤◌, ◌++◌, drop, map, reverse, take}
use Rattle.body_kinds.specs.Kinded.{local_kind}
use Rattle.body_unit_kinds.specs.Seen.{stack_of}
use Rattle.body_unit_kinds.proofs.arguments.below_given.Given as goal

-- the last ones stand above the rest
abbrev pub invariant-taking : goal.invariant-taking
invariant-taking l = (l.left ≤ l.fn.count) × (stack_of l.fn.stack ≡ reverse (map local_kind (drop l.left (take l.fn.count l.locals))) ++ stack_of l.rest)

abbrev pub decreases-taking : goal.decreases-taking
decreases-taking l = l.left
