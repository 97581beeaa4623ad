use Rattle.trace_text.proofs.TraceLemmas.{one_run, one_bad_line, no_trace_is_bad}
use Rattle.trace_text.proofs.laws.one_reading.Goals as goal

pub returns-clause-run : goal.returns-clause-run
returns-clause-run c = one_run

pub returns-clause-line : goal.returns-clause-line
returns-clause-line c = one_bad_line

pub returns-clause-apart : goal.returns-clause-apart
returns-clause-apart c = no_trace_is_bad
