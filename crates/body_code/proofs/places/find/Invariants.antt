use Rattle.std.proofs.Common.{◌≡◌, drop}
use Rattle.std.specs.Map.{lookup}
use Rattle.body_code.specs.Units.{placed, is_at, unit_of}
use Rattle.body_code.proofs.places.find.Given as goal

-- the first among those that are left is the first of all
abbrev pub invariant-loop-i : goal.invariant-loop-i
invariant-loop-i l = lookup (is_at (l.body, l.entry)) (placed l.here (drop l.i l.units)) ≡ unit_of l.units l.body l.entry
