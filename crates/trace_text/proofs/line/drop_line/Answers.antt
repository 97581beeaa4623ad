use Rattle.trace_text.proofs.LineReadings.{drop_missing, drop_stands}
use Rattle.trace_text.proofs.line.drop_line.Goals as goal

pub returns-in-Err : goal.returns-in-Err
returns-in-Err c = drop_missing c.args.bytes.now c.args.at c.requires c.in-Err.missing c.in-Err.ensures

pub returns-in-Ok : goal.returns-in-Ok
returns-in-Ok c = drop_stands c.args.bytes.now c.args.at c.requires c.in-Ok.number c.in-Ok.end c.in-Ok.ensures
