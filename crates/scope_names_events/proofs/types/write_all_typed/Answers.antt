use Rattle.std.proofs.Common.{arith}
use Rattle.scope_names_events.proofs.WritingLemmas.{writes, chain_more}
use Rattle.scope_rules.specs.TypeEvents.{typed_names}
use Rattle.scope_names_events.proofs.types.write_all_typed.Goals as goal

pub loop-names-preserved : goal.loop-names-preserved
loop-names-preserved c =
    let e = chain_more (typed_names c.args.denotes) c.args.typed.now c.loop-names.names-index c.names-item.result c.args.out.now c.loop-names-test.true c.names-item.is in
    grind (arith, writes)
