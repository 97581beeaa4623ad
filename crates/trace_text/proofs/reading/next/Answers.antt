use Rattle.trace_text.proofs.TraceLemmas.{next_missing, next_stuck}
use Rattle.trace_text.proofs.reading.next.Goals as goal

pub returns-in-Err : goal.returns-in-Err
returns-in-Err c = next_missing c.args.bytes.now c.args.place c.args.stage c.in-Err.missing c.in-Err.ensures

pub returns-in-Err-step : goal.returns-in-Err-step
returns-in-Err-step c = next_stuck c.args.bytes.now c.args.place c.args.stage c.in-Ok.line c.in-Ok.end c.in-Ok.ensures c.in-Err-step.missing c.in-Err-step.ensures

pub returns-in-Ok-step : goal.returns-in-Ok-step
returns-in-Ok-step c = (c.in-Ok.line, c.in-Ok.ensures, c.in-Ok-step.ensures)
