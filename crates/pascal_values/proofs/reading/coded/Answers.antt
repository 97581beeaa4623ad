use Rattle.std.proofs.Common.{arith, sym}
use Rattle.pascal_values.proofs.ReadingLemmas.{coded_reads, coded_printed, coded_open}
use Rattle.pascal_values.proofs.reading.coded.Goals as goal

pub returns-then-is_printed : goal.returns-then-is_printed
returns-then-is_printed c = λ depth. let n = c.requires.number in coded_printed depth c.args.n _ _ _ c.requires.word.is n.is n.fits n.full (sym c.if-is_printed.ensures)

pub returns-then-follows : goal.returns-then-follows
returns-then-follows c = λ depth. let n = c.requires.number in let w = c.if-follows.ensures in (omega (arith, n.goes), w.within, coded_reads depth c.args.n _ _ _ _ c.requires.word.is n.is n.fits w.is (sym c.if-is_printed.ensures))

pub returns-else-follows : goal.returns-else-follows
returns-else-follows c = λ depth. let n = c.requires.number in coded_open depth c.args.n _ _ _ c.requires.word.is n.is n.fits n.full c.if-follows.ensures
