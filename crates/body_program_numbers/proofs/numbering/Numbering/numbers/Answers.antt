use Rattle.std.proofs.Common.{◌∙◌, ap}
use Rattle.estelle_model.specs.Subject.{Subject}
use Rattle.body_program_numbers.specs.Numbering.{numbers_of}
use Rattle.body_program_numbers.proofs.numbering.Numbering.numbers.Goals as goal

pub returns : goal.returns
returns c = c.self.invariant.numbers ∙ ap (λ (u : Subject). numbers_of u) c.self.view_is
