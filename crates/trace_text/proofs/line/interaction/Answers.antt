use Rattle.trace_text.proofs.LineReadings.{no_name, name_only, interaction_stands}
use Rattle.trace_text.proofs.line.interaction.Goals as goal

pub returns-in-Err : goal.returns-in-Err
returns-in-Err c = no_name c.args.bytes.now c.args.at c.in-Err.missing c.in-Err.ensures

pub returns-in-Err-parameters : goal.returns-in-Err-parameters
returns-in-Err-parameters c = name_only c.args.bytes.now c.args.at c.in-Ok.name c.in-Ok.mid c.in-Ok.ensures c.in-Err-parameters.missing c.in-Err-parameters.ensures

pub returns-in-Ok-parameters : goal.returns-in-Ok-parameters
returns-in-Ok-parameters c = interaction_stands c.args.bytes.now c.args.at c.in-Ok.name c.in-Ok.mid c.in-Ok.ensures c.in-Ok-parameters.values c.in-Ok-parameters.end c.in-Ok-parameters.ensures
