use Rattle.trace_text.proofs.LineReadings.{select_nowhere, select_only, select_stands}
use Rattle.trace_text.proofs.line.select.Goals as goal

pub returns-in-Err : goal.returns-in-Err
returns-in-Err c = select_nowhere c.args.bytes.now c.args.at c.requires c.in-Err.missing c.in-Err.ensures

pub returns-in-Err-selection : goal.returns-in-Err-selection
returns-in-Err-selection c = select_only c.args.bytes.now c.args.at c.requires c.in-Ok.system c.in-Ok.mid c.in-Ok.ensures c.in-Err-selection.missing c.in-Err-selection.ensures

pub returns-in-Ok-selection : goal.returns-in-Ok-selection
returns-in-Ok-selection c = select_stands c.args.bytes.now c.args.at c.requires c.in-Ok.system c.in-Ok.mid c.in-Ok.ensures c.in-Ok-selection.selection c.in-Ok-selection.end c.in-Ok-selection.ensures
