use Rattle.trace_text.proofs.ValueLemmas.{no_values, some_values, neither}
use Rattle.trace_text.proofs.parameters.parameters.Goals as goal

pub returns-then-stands : goal.returns-then-stands
returns-then-stands c = no_values c.args.bytes.now c.args.at c.if-stands.ensures c.none.result c.none.ensures

pub returns-then-stands-2 : goal.returns-then-stands-2
returns-then-stands-2 c = some_values c.args.bytes.now c.args.at c.if-stands.ensures c.if-stands-2.ensures c.closed_values.result c.closed_values.ensures

pub returns : goal.returns
returns c = neither c.args.bytes.now c.args.at c.if-stands.ensures c.if-stands-2.ensures
