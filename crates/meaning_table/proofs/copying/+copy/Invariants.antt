use Rattle.std.proofs.Common.{◌≡◌, take}
use Rattle.meaning_table.proofs.copying.+copy.Given as goal

abbrev pub invariant-copy_all-loop-denoter : goal.invariant-copy_all-loop-denoter
invariant-copy_all-loop-denoter l = l.copies ≡ take l.denoter-index l.denoters
