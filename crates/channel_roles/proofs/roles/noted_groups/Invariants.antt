use Rattle.std.proofs.Common.{◌≡◌, take}
use Rattle.std.specs.List.{flat_map}
use Rattle.visit_rules.specs.Breaches.{noted_all}
use Rattle.channel_roles.specs.ChannelRules.{group_roles}
use Rattle.channel_roles.proofs.roles.noted_groups.Given as goal

abbrev pub invariant-loop-group : goal.invariant-loop-group
invariant-loop-group l = l.all ≡ noted_all l.initial.all (flat_map (group_roles l.table) (take l.group-index l.groups))
