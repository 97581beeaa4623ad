use Rattle.std.proofs.Common.{◌≡◌, ◌++◌, take}
use Rattle.std.specs.List.{flat_map}
use Rattle.module_table.specs.Known.{group_declares}
use Rattle.module_table.proofs.declaring.declare_groups.Given as goal

abbrev pub invariant-loop-group : goal.invariant-loop-group
invariant-loop-group l = l.places ≡ l.initial.places ++ flat_map (group_declares l.names l.channel) (take l.group-index l.groups)
