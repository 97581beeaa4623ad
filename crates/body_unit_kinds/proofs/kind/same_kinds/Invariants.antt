use Rattle.std.proofs.Common.{◌≡◌, take, map}
use Rattle.body_unit_kinds.specs.Seen.{meant}
use Rattle.body_unit_kinds.proofs.kind.same_kinds.Given as goal

abbrev pub invariant-loop-i : goal.invariant-loop-i
invariant-loop-i l = map meant (take l.i l.a) ≡ map meant (take l.i l.b)
