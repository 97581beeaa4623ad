use Rattle.trace_text.proofs.LineReadings.{fire_missing, fire_stands}
use Rattle.trace_text.proofs.line.fire.Goals as goal

pub returns-in-Err : goal.returns-in-Err
returns-in-Err c = fire_missing c.args.bytes.now c.args.at c.requires c.in-Err.missing c.in-Err.ensures

pub returns-in-Ok : goal.returns-in-Ok
returns-in-Ok c = fire_stands c.args.bytes.now c.args.at c.requires c.in-Ok.pair c.in-Ok.end c.new.result c.new-in-Ok.result c.new.ensures c.new-in-Ok.ensures c.in-Ok.ensures
