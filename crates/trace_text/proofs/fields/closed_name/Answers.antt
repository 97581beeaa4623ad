use Rattle.std.proofs.Common.{refl}
use Rattle.trace_text.specs.Forms.{IsName}
use Rattle.trace_text.specs.Fields.{EndsWord, name_text}
use Rattle.trace_text.proofs.FieldLemmas.{not_closed}
use Rattle.trace_text.proofs.WordLemmas.{names_unique}
use Rattle.trace_text.proofs.fields.closed_name.Goals as goal

pub returns-else-stands : goal.returns-else-stands
returns-else-stands c = not_closed name_text IsName EndsWord 32 (λ t. refl) c.args.bytes.now c.args.at c.in-Ok.name c.in-Ok.end c.in-Ok.ensures names_unique c.if-stands.ensures
