-- The options that words give, where a name may wait for its value before them.
use Rattle.std.specs.Prelude.{List, ◌∷◌, Option, Some, None}
use Rattle.estelle_words.specs.Words.{Text, Word, Pair, named, pairs_of}

abbrev pub words_from : Option Text → List Word → List Word
words_from None words = words
words_from (Some name) words = named name ∷ words

abbrev pub pairs_from : Option Text → List Word → Option (List Pair)
pairs_from name words = pairs_of (words_from name words)
