use Rattle.std.proofs.Common.{◌∷◌, [], arith}
use Rattle.scope_names_events.proofs.WritingLemmas.{writes, chain_more}
use Rattle.scope_rules.specs.declared.declaration.Denotes.TheVariants as d
use Rattle.scope_rules.specs.declared.event.Event.TheVariants.{Declare}
use Rattle.scope_rules.specs.declared.declaration.Inside.TheVariants.{Nothing}
use Rattle.scope_names_events.proofs.clauses.write_any_names.Goals as goal

pub loop-any-preserved : goal.loop-any-preserved
loop-any-preserved c =
    let e = chain_more (λ x. Declare x.names.names d.Constant Nothing ∷ []) c.args.domains.now c.loop-any.any-index c.any-item.result c.args.out.now c.loop-any-test.true c.any-item.is in
    grind (arith, writes)
