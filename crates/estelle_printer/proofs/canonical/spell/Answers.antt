use Rattle.estelle_printer.proofs.WritingLemmas.{if_ok}
use Rattle.estelle_printer.proofs.SpecificationLaws.{canonical_of}
use Rattle.estelle_printer.proofs.canonical.spell.Goals as goal

pub returns : goal.returns
returns c = if_ok c.written.result (λ text. canonical_of c.args.spec.now text) c.written.ensures
