use Rattle.trace_text.proofs.ValueLemmas.{value_alone}
use Rattle.trace_text.proofs.parameters.marked_value.Goals as goal

pub returns-in-None : goal.returns-in-None
returns-in-None c = value_alone c.args.bytes.now c.args.at c.in-Ok.value c.in-Ok.end c.in-Ok.ensures c.in-None.ensures
