use Rattle.std.proofs.Common.{◌≡◌, ◌++◌, map, take}
use Rattle.module_table.specs.Known.{ip_at}
use Rattle.module_table.proofs.declaring.declare_points.Given as goal

abbrev pub invariant-loop-name : goal.invariant-loop-name
invariant-loop-name l = l.places ≡ l.initial.places ++ map (ip_at l.ip) (take l.name-index l.names)
