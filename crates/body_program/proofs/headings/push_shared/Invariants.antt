use Rattle.std.proofs.Common.{◌≡◌, ◌++◌, take}
use Rattle.body_program.proofs.headings.push_shared.Given as goal

abbrev pub invariant-loop-denoter : goal.invariant-loop-denoter
invariant-loop-denoter l = l.out ≡ l.initial.out ++ take l.denoter-index l.types
