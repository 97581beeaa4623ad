use Rattle.std.proofs.Common.{ap, arith, length}
use Rattle.std.specs.Option.{option_copied}
use Rattle.body_table.specs.Standings.{own_ip}
use Rattle.meaning_table.proofs.Declarations.{declaring, drop_next, drop_end}
use Rattle.body_table.proofs.Numbering.{name_step}
use Rattle.body_table.proofs.numbered.declare_ip_names.Goals as goal

pub loop-name-preserved : goal.loop-name-preserved
loop-name-preserved c =
    let next = ap length (drop_next c.args.names.now c.loop-name.name-index c.name-item.result c.loop-name-test.true c.name-item.is) in
    let step = name_step (own_ip (option_copied c.args.header)) c.args.names.now c.loop-name.name-index c.loop-name.number c.name-item.result c.loop-name.table c.loop-name-test.true c.name-item.is in
    grind (arith)

pub returns : goal.returns
returns c =
    let e = drop_end c.args.names.now c.loop-name.name-index c.loop-name-test.false in
    grind (arith, declaring)
