use Rattle.std.proofs.Common.{drop}
use Rattle.estelle_lexer.proofs.Blanks.{answer_blank, answer_other, answer_within, slice_all, place_within}
use Rattle.estelle_lexer.proofs.blank.blank_to_end.Goals as goal

pub returns-clause-blank : goal.returns-clause-blank
returns-clause-blank c = answer_blank (drop c.args.at c.args.bytes.now) c.args.at c.other_from.result (slice_all c.args.at c.args.bytes.now c.other_from.result c.other_from.ensures)

pub returns-clause-other : goal.returns-clause-other
returns-clause-other c = answer_other (drop c.args.at c.args.bytes.now) c.args.at c.other_from.result (slice_all c.args.at c.args.bytes.now c.other_from.result c.other_from.ensures)

pub returns-clause-within : goal.returns-clause-within
returns-clause-within c = place_within c.args.at c.args.bytes.now c.other_from.result c.requires.within (answer_within (drop c.args.at c.args.bytes.now) c.args.at c.other_from.result (slice_all c.args.at c.args.bytes.now c.other_from.result c.other_from.ensures))
