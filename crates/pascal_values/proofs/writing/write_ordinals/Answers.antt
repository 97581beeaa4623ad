use Rattle.pascal_values.proofs.TextLemmas.{on_err, ordinals_more, extends_after}
use Rattle.pascal_values.proofs.writing.write_ordinals.Goals as goal

pub returns-in_err-write_decimal-clause-err : goal.returns-in_err-write_decimal-clause-err
returns-in_err-write_decimal-clause-err c = on_err _ (extends_after c.args.into.now.items c.loop-i.into.items c.put_comma.new.into.items c.write_decimal.new.into.items _ _ c.loop-i.invariant c.in_ok-put_comma.ensures.ok c.in_err-write_decimal.ensures.err)

pub loop-i-preserved : goal.loop-i-preserved
loop-i-preserved c = ordinals_more c.args.ordinals.now c.loop-i.i c.from.result c.args.into.now.items c.loop-i.into.items c.put_comma.new.into.items c.write_decimal.new.into.items c.loop-i-test.true c.from.ensures c.loop-i.invariant c.in_ok-put_comma.ensures.ok c.in_ok-write_decimal.ensures.ok
