use Rattle.std.proofs.Common.{arith}
use Rattle.scope_names_events.proofs.WritingLemmas.{writes, chain_more}
use Rattle.scope_rules.specs.ClauseEvents.{group}
use Rattle.scope_names_events.proofs.clauses.+groups.Goals as goal

pub write_groups-loop-group-preserved : goal.write_groups-loop-group-preserved
write_groups-loop-group-preserved t c =
    let e = chain_more group c.args.groups.now c.loop-group.group-index c.group-item.result c.args.out.now c.loop-group-test.true c.group-item.is in
    grind (arith, writes)
