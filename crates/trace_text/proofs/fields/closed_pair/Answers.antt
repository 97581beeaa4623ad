use Rattle.trace_text.specs.Fields.{EndsWord, pair_with, IsPairFrom}
use Rattle.trace_text.proofs.FieldLemmas.{not_closed}
use Rattle.trace_text.proofs.LineFields.{space_ends}
use Rattle.trace_text.proofs.PathLemmas.{pairs_unique}
use Rattle.trace_text.proofs.fields.closed_pair.Goals as goal

pub returns-else-stands : goal.returns-else-stands
returns-else-stands c = not_closed (pair_with 32) (IsPairFrom c.args.least) EndsWord c.args.close (λ t. c.requires) c.args.bytes.now c.args.at c.in-Ok.pair c.in-Ok.end c.in-Ok.ensures (pairs_unique 32 space_ends c.args.least) c.if-stands.ensures
