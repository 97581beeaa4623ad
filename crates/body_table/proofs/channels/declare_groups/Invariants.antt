use Rattle.std.proofs.Common.{◌≡◌, take}
use Rattle.std.specs.List.{flat_map}
use Rattle.estelle_model.specs.Definitions.{group_declares}
use Rattle.meaning_table.specs.Known.{declare_all}
use Rattle.body_table.proofs.channels.declare_groups.Given as goal

abbrev pub invariant-loop-group : goal.invariant-loop-group
invariant-loop-group l = l.table ≡ declare_all l.initial.table (flat_map (group_declares l.channel) (take l.group-index l.groups))
