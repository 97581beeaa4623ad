use Rattle.estelle_model.specs.Trace.{pair_text}
use Rattle.trace_text.specs.Forms.{IsPair}
use Rattle.trace_text.specs.Fields.{EndsWord}
use Rattle.trace_text.proofs.FieldLemmas.{not_marked}
use Rattle.trace_text.proofs.ValueLemmas.{pair_mark_ends, pair_is_unique}
use Rattle.trace_text.proofs.takes.marked_pair.Goals as goal

pub returns-in-None : goal.returns-in-None
returns-in-None c = not_marked pair_text IsPair EndsWord 32 10 pair_mark_ends c.args.bytes.now c.args.at c.in-Ok.pair c.in-Ok.end c.in-Ok.ensures pair_is_unique c.in-None.ensures
