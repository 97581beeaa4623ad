use Rattle.trace_text.proofs.LineReadings.{fault_nowhere, fault_only, fault_stands}
use Rattle.trace_text.proofs.line.fault.Goals as goal

pub returns-in-Err : goal.returns-in-Err
returns-in-Err c = fault_nowhere c.args.bytes.now c.args.at c.requires c.in-Err.missing c.in-Err.ensures

pub returns-in-Err-kind_line : goal.returns-in-Err-kind_line
returns-in-Err-kind_line c = fault_only c.args.bytes.now c.args.at c.requires c.in-Ok.pair c.in-Ok.mid c.in-Ok.ensures c.in-Err-kind_line.missing c.in-Err-kind_line.ensures

pub returns-in-Ok-kind_line : goal.returns-in-Ok-kind_line
returns-in-Ok-kind_line c = fault_stands c.args.bytes.now c.args.at c.requires c.in-Ok.pair c.in-Ok.mid c.in-Ok.ensures c.in-Ok-kind_line.kind c.in-Ok-kind_line.end c.in-Ok-kind_line.ensures
