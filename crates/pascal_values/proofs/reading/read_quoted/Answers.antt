use Rattle.std.proofs.Common.{arith}
use Rattle.pascal_values.proofs.ReadingLemmas.{quote_reads, plain_reads, quoted_none}
use Rattle.pascal_values.proofs.reading.read_quoted.Goals as goal

pub returns-then-follows : goal.returns-then-follows
returns-then-follows c = λ depth. let w = c.if-follows.ensures in (omega arith, w.within, quote_reads depth _ _ w.is)

pub returns-in-Some : goal.returns-in-Some
returns-in-Some c = λ depth. let q = c.in-Some.ensures in (omega arith, q.within, plain_reads depth c.in-Some.c _ _ q.plain q.is)

pub returns-in-None : goal.returns-in-None
returns-in-None c = λ depth. quoted_none depth _ _ c.requires.is c.if-follows.ensures c.in-None.ensures
