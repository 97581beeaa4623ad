use Rattle.std.proofs.Common.{arith}
use Rattle.estelle_tree.specs.declared.kind.Kind.TheVariants as k
use Rattle.estelle_printer.specs.TypeTokens.{typed_names}
use Rattle.estelle_printer.proofs.WritingLemmas.{writes, separated_more}
use Rattle.estelle_printer.proofs.types.+types.Goals as goal

pub write_sections-loop-place-preserved : goal.write_sections-loop-place-preserved
write_sections-loop-place-preserved t c =
    let e = separated_more k.Semicolon typed_names c.args.sections.now c.loop-place.place c.index-sections-place.result c.args.out.now c.loop-place-test.true c.index-sections-place.is in
    grind (arith, writes)
