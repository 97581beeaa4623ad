use Rattle.std.proofs.Common.{subst, ◌∙◌}
use Rattle.estelle_model.specs.Subject.{Subject}
use Rattle.estelle_cli.specs.Answers.{IsListing}
use Rattle.estelle_cli.proofs.coding.listed.Goals as goal

pub returns : goal.returns
returns c = subst (λ (s : Subject). IsListing s c.in_ok-text.text) (c.in_ok-compiled.ensures ∙ c.in_ok-program.ensures) (c.code.result.now, c.code.ensures.faithful, c.code.ensures.kinds, c.in_ok-text.ensures)
