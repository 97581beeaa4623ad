use Rattle.std.proofs.Common.{◌≡◌, length}
use Rattle.estelle_lexer.specs.Front.{after_comment}
use Rattle.estelle_lexer.proofs.front.after_comment.Given as goal

abbrev pub invariant-loop-text : goal.invariant-loop-text
invariant-loop-text l = after_comment l.text ≡ after_comment l.initial.text

abbrev pub decreases-loop-text : goal.decreases-loop-text
decreases-loop-text l = length l.text
