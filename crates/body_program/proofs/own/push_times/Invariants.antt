use Rattle.std.proofs.Common.{◌≡◌, ◌++◌, replicate}
use Rattle.body_program.proofs.own.push_times.Given as goal

abbrev pub invariant-loop : goal.invariant-loop
invariant-loop l = l.out ≡ l.initial.out ++ replicate l.counter l.place
