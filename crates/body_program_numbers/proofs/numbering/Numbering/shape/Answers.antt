use Rattle.body_program_numbers.proofs.Holding.{if_ok, shape_found}
use Rattle.body_program_numbers.proofs.numbering.Numbering.shape.Goals as goal

pub returns : goal.returns
returns c = if_ok c.find.result (λ k e. shape_found c.self.inside c.self.invariant c.args.self.now c.in_ok-shape.shape c.args.denoter.now k c.self.view_is c.in_ok-shape.ensures e) c.find.ensures
