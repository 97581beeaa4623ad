use Rattle.std.proofs.Common.{◌≡◌, replicate, None}
use Rattle.body_jobs.proofs.root.no_children.Given as goal

abbrev pub invariant-loop : goal.invariant-loop
invariant-loop l = l.held ≡ replicate l.counter None
