use Rattle.pascal_values.proofs.ReadingLemmas.{set_empty, set_error}
use Rattle.pascal_values.proofs.reading.read_set.Goals as goal

pub returns-then-follows : goal.returns-then-follows
returns-then-follows c = λ depth. set_empty depth c.args.bytes.now c.args.at c.none.result c.requires c.if-follows.ensures c.none.ensures

pub returns-in-Err : goal.returns-in-Err
returns-in-Err c = λ depth. set_error depth c.args.bytes.now c.args.at c.in-Err.error c.requires c.if-follows.ensures c.in-Err.ensures
