use Rattle.std.proofs.Common.{arith}
use Rattle.scope_names_events.proofs.WritingLemmas.{writes, chain_more}
use Rattle.scope_rules.specs.TypeEvents.{use_alone}
use Rattle.scope_names_events.proofs.clauses.use_each.Goals as goal

pub loop-name-preserved : goal.loop-name-preserved
loop-name-preserved c =
    let e = chain_more (use_alone c.args.need) c.args.names.now c.loop-name.name-index c.name-item.result c.args.out.now c.loop-name-test.true c.name-item.is in
    grind (arith, writes)
