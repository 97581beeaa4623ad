use Rattle.std.proofs.Common.{◌≡◌, ◌++◌, take}
use Rattle.std.specs.List.{flat_map}
use Rattle.module_table.specs.Known.{ip_declares}
use Rattle.module_table.proofs.declaring.declare_ips.Given as goal

abbrev pub invariant-loop-decl : goal.invariant-loop-decl
invariant-loop-decl l = l.places ≡ l.initial.places ++ flat_map (ip_declares l.names l.external) (take l.decl-index l.ips)
