use Rattle.std.proofs.Common.{arith}
use Rattle.pascal_values.proofs.ReadingLemmas.{false_reads, false_none}
use Rattle.pascal_values.proofs.reading.read_false.Goals as goal

pub returns-then-follows : goal.returns-then-follows
returns-then-follows c = λ depth. let w = c.if-follows.ensures in (omega arith, w.within, false_reads depth _ _ w.is)

pub returns-else-follows : goal.returns-else-follows
returns-else-follows c = λ depth. false_none depth _ _ c.requires.is c.if-follows.ensures
