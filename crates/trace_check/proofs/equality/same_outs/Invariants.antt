use Rattle.std.proofs.Common.{◌≡◌, take}
use Rattle.trace_check.proofs.equality.same_outs.Given as goal

abbrev pub invariant-loop-i : goal.invariant-loop-i
invariant-loop-i l = take l.i l.a ≡ take l.i l.b
