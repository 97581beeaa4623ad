-- What is held of a specification to find its numbers.
use Rattle.std.specs.Prelude.{◌≡◌, []}
use Rattle.estelle_model.specs.Bodies.{bodies}
use Rattle.type_shapes.specs.Numbered.{AreFirst}
use Rattle.body_program_numbers.specs.declared.numbering.Numbering.TheInside.{Inside}
use Rattle.body_program_numbers.specs.Outline as outline
use Rattle.body_program_numbers.specs.Found.{standings, routine_lists}
use Rattle.body_program_numbers.specs.Numbering.{numbers_of, routine_numbers, interaction_numbers}

pub record HoldsAll (n : Inside) : Type 0 where
  pub numbers : n.numbers ≡ numbers_of n.program.now
  pub shapes : AreFirst 0 n.numbers.shapes n.shapes
  pub bodies : standings n.bodies ≡ bodies n.program.now.specification
  pub lists : routine_lists n.bodies ≡ outline.routine_lists n.program.now.specification
  pub none : n.none ≡ []
  pub routines : n.routines ≡ routine_numbers n.program.now
  pub interactions : n.interactions ≡ interaction_numbers n.program.now
  pub name : n.name.now ≡ n.program.now.specification.name
