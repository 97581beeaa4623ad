use Rattle.estelle_printer.proofs.LexingLaws.{is_lexed}
use Rattle.estelle_printer.proofs.laws.canonical_text_is_lexed.Goals as goal

pub returns : goal.returns
returns c = is_lexed
