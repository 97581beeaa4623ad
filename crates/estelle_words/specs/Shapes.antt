-- The shapes of words.
use Rattle.estelle_words.specs.Words.{Word, joined, named, plain, other}
use Rattle.estelle_words.specs.declared.shape.Shape.{Shape}
use Rattle.estelle_words.specs.declared.shape.Shape.TheVariants.{Joined, Named, Plain, Other}

abbrev pub shape : Word → Shape
shape (joined name value) = Joined
shape (named name) = Named
shape (plain value) = Plain
shape other = Other
