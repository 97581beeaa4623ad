use Rattle.std.proofs.Common.{arith}
use Rattle.std.specs.Option.{option_copied}
use Rattle.body_table.specs.Standings.{own_ip}
use Rattle.body_table.specs.Contributions.{ip_names_in}
use Rattle.meaning_table.proofs.Declarations.{declaring, drop_end}
use Rattle.body_table.proofs.Numbering.{plainly_rising, names_step, items_count}
use Rattle.body_table.proofs.numbered.declare_ip_decls.Goals as goal

pub loop-ip-preserved : goal.loop-ip-preserved
loop-ip-preserved c =
    let count = items_count ip_names_in c.args.ips.now c.loop-ip.ip-index c.ip-item.result c.loop-ip-test.true c.ip-item.is in
    let step = names_step (own_ip (option_copied c.args.header)) ip_names_in c.args.ips.now c.loop-ip.ip-index c.loop-ip.number c.ip-item.result c.loop-ip.table c.loop-ip-test.true c.ip-item.is in
    grind (arith, plainly_rising)

pub returns : goal.returns
returns c =
    let e = drop_end c.args.ips.now c.loop-ip.ip-index c.loop-ip-test.false in
    grind (arith, declaring)
