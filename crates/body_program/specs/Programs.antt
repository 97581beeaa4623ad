-- What a program holds of its specification.
use Rattle.std.specs.Prelude.{◌≡◌, map}
use Rattle.estelle_model.specs.declared.meaning.Routine.{Routine}
use Rattle.estelle_model.specs.Bodies.{bodies}
use Rattle.estelle_model.specs.Transitions.{Transition}
use Rattle.estelle_model.specs.Subject.{Subject, declared_in, meant_with, of_block}
use Rattle.meaning_table.specs.Known.{Known}
use Rattle.body_program.specs.declared.program.Program.TheInside.{Inside}
use Rattle.body_program.specs.Told.{flat_at}

-- what is known of names once all is declared
abbrev pub known_of : Subject → Known
known_of s = record { names = s.names; declared = declared_in s }

-- the block of a transition, with the parameters of what it receives
abbrev pub block_in : Subject → Transition → Routine
block_in s t = of_block (meant_with s t.chosen) t.received t.block

pub record HoldsAll (p : Inside) : Type 0 where
  pub known : p.table ≡ known_of p.bodies
  pub flat : p.transitions ≡ map (flat_at (known_of p.bodies)) (bodies p.bodies.specification)
