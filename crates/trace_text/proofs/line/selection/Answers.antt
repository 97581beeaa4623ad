use Rattle.trace_text.proofs.LineReadings.{no_moment, moment_only, selection_stands}
use Rattle.trace_text.proofs.line.selection.Goals as goal

pub returns-in-Err : goal.returns-in-Err
returns-in-Err c = no_moment c.args.bytes.now c.args.at c.in-Err.missing c.in-Err.ensures

pub returns-in-Err-takes : goal.returns-in-Err-takes
returns-in-Err-takes c = moment_only c.args.bytes.now c.args.at c.in-Ok.now c.in-Ok.mid c.in-Ok.ensures c.in-Err-takes.missing c.in-Err-takes.ensures

pub returns-in-Ok-takes : goal.returns-in-Ok-takes
returns-in-Ok-takes c = selection_stands c.args.bytes.now c.args.at c.in-Ok.now c.in-Ok.mid c.in-Ok.ensures c.in-Ok-takes.takes c.in-Ok-takes.end c.in-Ok-takes.ensures
