use Rattle.std.specs.Fmt.{decimal}
use Rattle.trace_text.specs.Forms.{IsNumber}
use Rattle.trace_text.specs.Fields.{EndsWord}
use Rattle.trace_text.proofs.FieldLemmas.{not_closed}
use Rattle.trace_text.proofs.LineFields.{moments_unique}
use Rattle.trace_text.proofs.fields.closed_number.Goals as goal

pub returns-else-stands : goal.returns-else-stands
returns-else-stands c = not_closed decimal IsNumber EndsWord c.args.close (λ t. c.requires.close) c.args.bytes.now c.args.at c.in-Ok.n c.in-Ok.end c.in-Ok.ensures moments_unique c.if-stands.ensures
