use Rattle.trace_text.proofs.PathLemmas.{births_none, births_missing}
use Rattle.trace_text.proofs.fields.births.Goals as goal

pub births-init : goal.births-init
births-init c = births_none c.args.bytes.now c.args.at c.requires _ c.new-numbers.ensures.items

pub returns-in-Err : goal.returns-in-Err
returns-in-Err c = births_missing c.args.bytes.now c.args.at c.requires _ _ c.births.invariant c.births-test.ensures c.in-Err.missing c.in-Err.ensures
