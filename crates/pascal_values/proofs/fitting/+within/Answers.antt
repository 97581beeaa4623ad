use Rattle.std.proofs.Common.{arith}
use Rattle.pascal_values.proofs.ShapeLemmas.{fields_fail, fields_more}
use Rattle.pascal_values.proofs.fitting.+within.Goals as goal

pub fields_within-returns-then-not-lies_within : goal.fields_within-returns-then-not-lies_within
fields_within-returns-then-not-lies_within t c = fields_fail c.args.shapes.now c.args.values.now c.loop-i.i c.index-shapes-i.result c.index-values-i.result c.loop-i-test.true (omega arith) c.index-shapes-i.is c.index-values-i.is c.if-not-lies_within.true c.lies_within.ensures

pub fields_within-loop-i-preserved : goal.fields_within-loop-i-preserved
fields_within-loop-i-preserved t c = fields_more c.args.shapes.now c.args.values.now c.loop-i.i c.index-shapes-i.result c.index-values-i.result c.loop-i-test.true (omega arith) c.index-shapes-i.is c.index-values-i.is c.if-not-lies_within.false c.lies_within.ensures c.loop-i.invariant
