use Rattle.pascal_values.proofs.ReadingLemmas.{coded_no_word, coded_no_number}
use Rattle.pascal_values.proofs.reading.read_coded.Goals as goal

pub returns-then-not-follows : goal.returns-then-not-follows
returns-then-not-follows c = λ depth. coded_no_word depth _ _ c.requires.is c.if-not-follows.ensures

pub returns-in-None : goal.returns-in-None
returns-in-None c = λ depth. coded_no_number depth _ _ c.if-not-follows.ensures.is c.in-None.ensures
