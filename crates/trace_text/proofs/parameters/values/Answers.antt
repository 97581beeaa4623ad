use Rattle.pascal_values.specs.Texts.{text, IsReadable}
use Rattle.trace_text.proofs.ListLemmas.{read_none, read_last, read_fails}
use Rattle.trace_text.proofs.ValueLemmas.{marked_values_unique}
use Rattle.trace_text.proofs.parameters.values.Goals as goal

pub values-init : goal.values-init
values-init c = read_none text IsReadable 44 41 c.args.bytes.now c.args.at _ c.none-values.ensures

pub returns-then-last : goal.returns-then-last
returns-then-last c = read_last text IsReadable 44 41 c.args.bytes.now c.args.at _ _ c.values.invariant c.in-Ok.marked.0 c.in-Ok.marked.1 c.in-Ok.next _ c.in-Ok.ensures c.if-last.true c.in_ok-push-in-Ok.ensures.ok

pub returns-in-Err : goal.returns-in-Err
returns-in-Err c = read_fails text IsReadable 44 41 c.args.bytes.now c.args.at _ _ c.values.invariant marked_values_unique c.in-Err.missing c.in-Err.ensures
