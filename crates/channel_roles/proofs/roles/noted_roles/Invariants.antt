use Rattle.std.proofs.Common.{◌≡◌, take}
use Rattle.std.specs.List.{flat_map}
use Rattle.visit_rules.specs.Breaches.{noted_all}
use Rattle.channel_roles.specs.ChannelRules.{unknown_role}
use Rattle.channel_roles.proofs.roles.noted_roles.Given as goal

abbrev pub invariant-loop-role : goal.invariant-loop-role
invariant-loop-role l = l.all ≡ noted_all l.initial.all (flat_map (unknown_role l.table) (take l.role-index l.roles))
