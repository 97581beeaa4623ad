use Rattle.std.proofs.Common.{◌∷◌, [], arith}
use Rattle.scope_names_events.proofs.WritingLemmas.{writes, chain_more}
use Rattle.scope_rules.specs.declared.declaration.Denotes.TheVariants as d
use Rattle.scope_rules.specs.declared.event.Event.TheVariants.{Declare}
use Rattle.scope_rules.specs.TypeEvents.{section}
use Rattle.scope_names_events.proofs.TypeEquations.{section_is}
use Rattle.scope_names_events.proofs.types.write_fields.Goals as goal

pub loop-section-preserved : goal.loop-section-preserved
loop-section-preserved c =
    let s = section_is c.section-item.result in
    let e = chain_more (λ x. Declare (section x).0.names d.Field (section x).1.0 ∷ []) c.args.sections.now c.loop-section.section-index c.section-item.result c.args.out.now c.loop-section-test.true c.section-item.is in
    grind (arith, writes)
