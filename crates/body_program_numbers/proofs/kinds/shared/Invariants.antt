use Rattle.std.proofs.Common.{◌≡◌, take}
use Rattle.body_program_numbers.proofs.kinds.shared.Given as goal

abbrev pub invariant-loop-denoter : goal.invariant-loop-denoter
invariant-loop-denoter l = l.same ≡ take l.denoter-index l.types
