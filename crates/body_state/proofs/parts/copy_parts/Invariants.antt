use Rattle.std.proofs.Common.{◌≡◌, map as each, take}
use Rattle.body_state.proofs.parts.copy_parts.Given as goal

abbrev pub invariant-loop-part : goal.invariant-loop-part
invariant-loop-part l = l.copies.items ≡ each (λ r. r.now) (take l.part-index l.parts)
