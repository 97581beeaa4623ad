use Rattle.std.proofs.Common.{◌≡◌, take}
use Rattle.std.specs.List.{flat_map}
use Rattle.visit_rules.specs.Breaches.{noted_all}
use Rattle.channel_roles.specs.ChannelRules.{ip_role}
use Rattle.channel_roles.proofs.roles.noted_ips.Given as goal

abbrev pub invariant-loop-ip : goal.invariant-loop-ip
invariant-loop-ip l = l.all ≡ noted_all l.initial.all (flat_map (ip_role l.table) (take l.ip-index l.ips))
