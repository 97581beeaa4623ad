use Rattle.std.proofs.Common.{arith}
use Rattle.pascal_values.proofs.TextLemmas.{on_ok, one_digit, more_digits}
use Rattle.pascal_values.proofs.writing.+write_decimal.Goals as goal

pub returns-then-n-lt10-clause-ok : goal.returns-then-n-lt10-clause-ok
returns-then-n-lt10-clause-ok t c = on_ok _ (one_digit c.args.n c.args.into.now.items _ c.if-n-lt10.true) c.put.ensures.ok

pub returns-clause-ok : goal.returns-clause-ok
returns-clause-ok t c = on_ok _ (more_digits c.args.n c.args.into.now.items c.write_decimal.new.into.items _ c.if-n-lt10.false (omega arith) c.in_ok-write_decimal.ensures.ok) c.put-2.ensures.ok
