use Rattle.std.proofs.Common.{◌≡◌, map, length, is_some}
use Rattle.estelle_words.specs.Words.{texts, word_of, pairs_of}
use Rattle.estelle_words.proofs.shape.are_options.Given as goal

abbrev pub invariant-loop-words : goal.invariant-loop-words
invariant-loop-words l = is_some (pairs_of (map word_of (texts l.words))) ≡ is_some (pairs_of (map word_of (texts l.initial.words)))

abbrev pub decreases-loop-words : goal.decreases-loop-words
decreases-loop-words l = length l.words
