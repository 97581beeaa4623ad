use Rattle.std.proofs.Common.{◌≡◌, ◌++◌, replicate}
use Rattle.meaning_table.proofs.sections.push_shared.Given as goal

abbrev pub invariant-loop : goal.invariant-loop
invariant-loop l = (l.out ≡ l.initial.out ++ replicate l.counter l.denoter) × (l.denoter ≡ l.initial.denoter)
