use Rattle.trace_text.proofs.TraceLemmas.{answer_trace, answer_line}
use Rattle.trace_text.proofs.reading.read.Goals as goal

pub returns-clause-only_run : goal.returns-clause-only_run
returns-clause-only_run c = answer_trace c.args.bytes.now c.reading.result c.reading.ensures

pub returns-clause-only_line : goal.returns-clause-only_line
returns-clause-only_line c = answer_line c.args.bytes.now c.reading.result c.reading.ensures
