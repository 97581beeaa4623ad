use Rattle.std.proofs.Common.{◌∙◌, sym}
use Rattle.estelle_tree.specs.Lexed.{is_word_byte}
use Rattle.trace_text.proofs.Runs.{first_here, first_none}
use Rattle.trace_text.proofs.words.goes_on.Goals as goal

pub returns-then-at-bytes : goal.returns-then-at-bytes
returns-then-at-bytes c = sym (first_none is_word_byte c.args.bytes.now c.args.at c.if-at-bytes.true)

pub returns : goal.returns
returns c = c.is_part_of_word.ensures ∙ sym (first_here is_word_byte c.args.bytes.now c.args.at c.if-at-bytes.false)
