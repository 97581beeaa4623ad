-- What is known of a specification wherever code is made of it.
use Rattle.estelle_model.specs.Meant.{Meanings}
use Rattle.estelle_model.specs.Subject.{Subject}
use Rattle.body_program_numbers.specs.Numbering.{number_of, routine_of, export_of, interaction_of, parameters_of}
use Rattle.body_compiler_pieces.specs.UnitCode.{Known}

-- where names mean this
abbrev pub known_in : Subject → Meanings → Known
known_in s meant = record {
  meant = meant;
  number = number_of s;
  routine = routine_of s;
  export = export_of s;
  interaction = interaction_of s;
  parameters = parameters_of s;
}
