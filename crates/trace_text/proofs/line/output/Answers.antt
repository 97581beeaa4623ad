use Rattle.trace_text.proofs.LineReadings.{out_nowhere, out_only, out_stands}
use Rattle.trace_text.proofs.line.output.Goals as goal

pub returns-in-Err : goal.returns-in-Err
returns-in-Err c = out_nowhere c.args.bytes.now c.args.at c.args.lost c.args.from c.requires.fate c.requires.from c.in-Err.missing c.in-Err.ensures

pub returns-in-Err-interaction : goal.returns-in-Err-interaction
returns-in-Err-interaction c = out_only c.args.bytes.now c.args.at c.args.lost c.args.from c.requires.fate c.requires.from c.in-Ok.point c.in-Ok.mid c.in-Ok.ensures c.in-Err-interaction.missing c.in-Err-interaction.ensures

pub returns-in-Ok-interaction : goal.returns-in-Ok-interaction
returns-in-Ok-interaction c = out_stands c.args.bytes.now c.args.at c.args.lost c.args.from c.requires.fate c.requires.from c.in-Ok.point c.in-Ok.mid c.in-Ok.ensures c.in-Ok-interaction.interaction c.in-Ok-interaction.end c.in-Ok-interaction.ensures
