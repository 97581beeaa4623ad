use Rattle.std.proofs.Common.{set-set, arith}
use Rattle.pascal_values.proofs.+replaced.Goals as goal

pub way::replace_in-returns-then-place-len : goal.way::replace_in-returns-then-place-len
way::replace_in-returns-then-place-len t c = grind (arith, set-set)
