use Rattle.std.proofs.Common.{arith}
use Rattle.type_rules.specs.TypeSites.{typed_names}
use Rattle.type_rules.proofs.TypeEquations.{section_is}
use Rattle.declaration_table.proofs.Typing.{section_more, record_denotes}
use Rattle.pascal_check_sites.proofs.Walks.{chain_more, record_walked}
use Rattle.pascal_check_sites.proofs.types.+typing.Goals as goal

pub sections-loop-section-preserved : goal.sections-loop-section-preserved
sections-loop-section-preserved t c =
    let s = section_is c.section-item.result in
    let d = section_more c.args.table.now c.args.sections.now c.loop-section.section-index c.section-item.result c.loop-section-test.true c.section-item.is in
    let e = chain_more (λ x. (typed_names x).1.sites c.args.table.now) c.args.sections.now c.loop-section.section-index c.section-item.result c.args.out.now c.loop-section-test.true c.section-item.is in
    record { denoted = grind (arith); sites = grind (arith) }

pub typing-returns-in_ok-push-in-Fields-clause-denoted : goal.typing-returns-in_ok-push-in-Fields-clause-denoted
typing-returns-in_ok-push-in-Fields-clause-denoted t c =
    let e = record_denotes c.args.table.now c.in-Fields.packed c.in-Fields.fields c.in-Fields.span in
    grind (arith)

pub typing-returns-in_ok-push-in-Fields-clause-sites : goal.typing-returns-in_ok-push-in-Fields-clause-sites
typing-returns-in_ok-push-in-Fields-clause-sites t c =
    let e = record_walked c.args.table.now c.in-Fields.packed c.in-Fields.fields c.in-Fields.span c.items-in-Fields.result.now c.args.out.now c.sections.new.out c.push-in-Fields.new.self c.in_ok-fields-in-Fields.fields c.record_type-denoted.result c.items-in-Fields.ensures c.in_ok-fields-in-Fields.ensures.denoted c.in_ok-fields-in-Fields.ensures.sites c.record_type-denoted.ensures c.in_ok-push-in-Fields.ensures.ok in
    grind (arith)
