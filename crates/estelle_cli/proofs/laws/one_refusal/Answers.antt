use Rattle.estelle_parser.proofs.Whole.{one_tree}
use Rattle.estelle_cli.proofs.Causes.{one_refusal}
use Rattle.estelle_cli.proofs.laws.one_refusal.Goals as goal

pub returns : goal.returns
returns c = one_refusal one_tree
