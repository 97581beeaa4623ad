use Rattle.std.proofs.Common.{◌≡◌, length}
use Rattle.estelle_tree.specs.Lexed.{is_word_byte}
use Rattle.estelle_lexer.specs.Front.{past}
use Rattle.estelle_lexer.proofs.front.after_word.Given as goal

abbrev pub invariant-loop-text : goal.invariant-loop-text
invariant-loop-text l = past is_word_byte l.text ≡ past is_word_byte l.initial.text

abbrev pub decreases-loop-text : goal.decreases-loop-text
decreases-loop-text l = length l.text
