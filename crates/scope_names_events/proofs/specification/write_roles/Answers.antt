use Rattle.std.proofs.Common.{arith}
use Rattle.scope_names_events.proofs.WritingLemmas.{writes, map_more}
use Rattle.scope_rules.specs.declared.event.Event.TheVariants.{By}
use Rattle.scope_names_events.proofs.specification.write_roles.Goals as goal

pub loop-role-preserved : goal.loop-role-preserved
loop-role-preserved c =
    let e = map_more By c.args.roles.now c.loop-role.role-index c.role-item.result c.loop-role-test.true c.role-item.is in
    grind (arith, writes)
