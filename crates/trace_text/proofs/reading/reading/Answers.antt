use Rattle.trace_text.proofs.TraceLemmas.{nothing_read, next_read, stuck_line, told}
use Rattle.trace_text.proofs.reading.reading.Goals as goal

pub lines-init : goal.lines-init
lines-init c = nothing_read c.args.bytes.now

pub lines-preserved : goal.lines-preserved
lines-preserved c = next_read c.args.bytes.now c.lines.place c.lines.number c.lines.stage c.lines.invariant (c.in-Ok.after, c.in-Ok.end) c.in-Ok.ensures

pub returns-in-Err-Absent : goal.returns-in-Err-Absent
returns-in-Err-Absent c = stuck_line c.args.bytes.now c.lines.place c.lines.number c.lines.stage c.lines.invariant c.lines-test.true c.in-Err-Absent.field-0 c.in-Err-Absent.field-0-is c.in-Err-Absent.ensures

pub returns : goal.returns
returns c = told c.args.bytes.now c.lines.place c.lines.number c.lines.stage c.lines.invariant c.lines-test.false c.told.result c.told.ensures
