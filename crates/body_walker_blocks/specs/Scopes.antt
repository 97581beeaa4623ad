-- What a block is read in.
use Rattle.estelle_model.specs.Meant.{Meanings}
use Rattle.estelle_model.specs.Subject.{Subject}
use Rattle.meaning_table.specs.Known.{Known, meanings_of}

pub record Scoped : Type 0 where
  -- what names mean, where those of an `any` clause have values
  pub known : Known
  -- the specification, whose bodies children are made of
  pub subject : Subject

abbrev pub meanings : Scoped → Meanings
meanings t = meanings_of t.known
