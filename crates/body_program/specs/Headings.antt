-- What a body has of its header.
use Rattle.std.specs.Prelude.{◌++◌}
use Rattle.estelle_model.specs.declared.meaning.Heading.{Heading}
use Rattle.body_program.specs.declared.headings.HeaderPart.{HeaderPart}

abbrev pub of_heading : Heading → HeaderPart
of_heading h = record { at = h.at; attribute = h.attribute; parameters = h.parameters; variables = h.parameters ++ h.exports; ips = h.ips }
