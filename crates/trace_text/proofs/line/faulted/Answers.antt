use Rattle.trace_text.proofs.LineReadings.{faulted_missing, faulted_stands}
use Rattle.trace_text.proofs.line.faulted.Goals as goal

pub returns-in-Err : goal.returns-in-Err
returns-in-Err c = faulted_missing c.args.bytes.now c.args.at c.requires c.in-Err.missing c.in-Err.ensures

pub returns-in-Ok : goal.returns-in-Ok
returns-in-Ok c = faulted_stands c.args.bytes.now c.args.at c.requires c.in-Ok.kind c.in-Ok.end c.in-Ok.ensures
