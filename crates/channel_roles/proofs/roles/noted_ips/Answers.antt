use Rattle.std.proofs.Common.{arith}
use Rattle.visit_rules.proofs.NotedLaws.{chain_noted}
use Rattle.channel_roles.specs.ChannelRules.{ip_role}
use Rattle.channel_roles.proofs.roles.noted_ips.Goals as goal

pub loop-ip-preserved : goal.loop-ip-preserved
loop-ip-preserved c =
    let e = chain_noted (ip_role c.args.table.now) c.args.ips.now c.loop-ip.ip-index c.ip-item.result c.args.first c.loop-ip-test.true c.ip-item.is in
    grind (arith)
