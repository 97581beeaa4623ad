use Rattle.pascal_values.specs.Texts.{text, IsReadable}
use Rattle.trace_text.specs.Fields.{Any, AreItems, listed}
use Rattle.trace_text.proofs.FieldLemmas.{not_closed}
use Rattle.trace_text.proofs.ValueLemmas.{values_list_unique}
use Rattle.trace_text.proofs.parameters.closed_values.Goals as goal

pub returns-else-stands : goal.returns-else-stands
returns-else-stands c = not_closed (listed text 44 41) (AreItems IsReadable) Any 10 (λ t. tt) c.args.bytes.now c.args.at c.in-Ok.values c.in-Ok.end c.in-Ok.ensures values_list_unique c.if-stands.ensures
