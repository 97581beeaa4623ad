use Rattle.trace_text.proofs.LineFields.{moment_alone}
use Rattle.trace_text.proofs.fields.moment.Goals as goal

pub returns-else-follows : goal.returns-else-follows
returns-else-follows c = moment_alone c.args.bytes.now c.args.at c.if-not-follows.ensures c.in-Ok.now c.in-Ok.end c.in-Ok.ensures c.if-follows.ensures
