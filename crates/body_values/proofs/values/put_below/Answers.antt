use Rattle.std.proofs.Common.{set-set, arith}
use Rattle.body_values.proofs.values.put_below.Goals as goal

pub returns-then-place-len : goal.returns-then-place-len
returns-then-place-len c = grind (arith, set-set)
