use Rattle.std.proofs.Common.{◌≡◌, ◌++◌, replicate}
use Rattle.body_table.proofs.headers.push_points.Given as goal

abbrev pub invariant-loop : goal.invariant-loop
invariant-loop l = l.out ≡ l.initial.out ++ replicate l.counter l.point
