use Rattle.std.proofs.Common.{sym, arith}
use Rattle.body_values.proofs.BelongingLemmas.{fields_belong_apart, values_fail, values_more}
use Rattle.body_values.proofs.belonging.+belonging.Goals as goal

pub fields_belong-returns-then-fields-values : goal.fields_belong-returns-then-fields-values
fields_belong-returns-then-fields-values t c = sym (fields_belong_apart c.args.fields.now c.args.values.now (λ e. absurd (omega arith)))

pub fields_belong-returns-then-not-belongs : goal.fields_belong-returns-then-not-belongs
fields_belong-returns-then-not-belongs t c = values_fail c.args.fields.now c.args.values.now c.loop-i.i c.index-fields-i.result c.index-values-i.result c.loop-i-test.true (omega arith) c.index-fields-i.is c.index-values-i.is c.if-not-belongs.true c.belongs.ensures

pub fields_belong-loop-i-preserved : goal.fields_belong-loop-i-preserved
fields_belong-loop-i-preserved t c = values_more c.args.fields.now c.args.values.now c.loop-i.i c.index-fields-i.result c.index-values-i.result c.loop-i-test.true (omega arith) c.index-fields-i.is c.index-values-i.is c.if-not-belongs.false c.belongs.ensures c.loop-i.invariant
