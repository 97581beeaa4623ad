use Rattle.std.proofs.Common.{◌∙◌}
use Rattle.body_program_numbers.proofs.Holding.{count_found}
use Rattle.body_program_numbers.proofs.numbering.Numbering.bodies.Goals as goal

pub returns : goal.returns
returns c = c.len.ensures ∙ count_found c.self.inside c.self.invariant c.args.self.now c.self.view_is
