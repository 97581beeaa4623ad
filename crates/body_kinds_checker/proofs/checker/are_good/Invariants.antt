use Rattle.std.proofs.Common.{drop, None}
use Rattle.body_code.specs.Units.{placed}
use Rattle.body_unit_kinds.specs.Seen.{claimed}
use Rattle.body_kinds_checker.specs.Placed.{AreGood}
use Rattle.body_kinds_checker.proofs.checker.are_good.Given as goal

-- all are good where those that are left are
abbrev pub invariant-loop-i : goal.invariant-loop-i
invariant-loop-i l = AreGood l.program l.numbers l.code (claimed l.claims) (placed l.here (drop l.i l.units)) → AreGood l.program l.numbers l.code (claimed l.claims) (placed None l.units)
